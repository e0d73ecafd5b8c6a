-- Texts of the replies to requests about the layers of a frame.
use Rattle.std.specs.Prelude.{◌≡◌, ℕ, ◌⊎◌, List, [], ◌∷◌, ◌++◌, Option, Some, None, codes}
use Rattle.std.specs.Fmt.{decimal}
use Rattle.hex.specs.Hex.{encode_lower}
use Rattle.etherparse.specs.Names.{layer_name, len_source_name}
use Rattle.etherparse.specs.Types.IpAuthHeaderError.TheVariants as auth_error
use Rattle.etherparse.specs.Types.IpHeaderError.TheVariants as ip_error
use Rattle.etherparse.specs.Types.Ipv4HeaderError.TheVariants as ipv4_error
use Rattle.etherparse.specs.Types.Ipv6HeaderError.TheVariants as ipv6_error
use Rattle.etherparse.specs.Types.Ipv6ExtsHeaderError.TheVariants as exts_error
use Rattle.etherparse.specs.Types.LinuxSllHeaderError.TheVariants as linux_sll_error
use Rattle.etherparse.specs.Types.MacsecHeaderError.TheVariants as macsec_error
use Rattle.etherparse.specs.LinkExtensions.{LinkExtension, vlan, macsec}
use Rattle.etherparse.specs.LinkSlices.{LinkLayer, ethernet2, linux_sll as sll, ether_payload, linux_sll_payload}
use Rattle.etherparse.specs.Types.TransportHeader.{TransportHeader}
use Rattle.etherparse.specs.Types.TransportHeader.TheVariants as header
use Rattle.etherparse.specs.TransportParts.{TransportLayer}
use Rattle.etherparse.specs.Types.TcpHeaderError.TheVariants as tcp_error
use Rattle.etherparse.specs.Types.SliceError.{SliceError}
use Rattle.etherparse.specs.Types.SliceError.TheVariants.{Len, LinuxSll, Macsec, Ip, Ipv4, Ipv6, Ipv4Exts, Ipv6Exts}
use Rattle.etherparse.specs.Types.SliceError.TheVariants.{Tcp}
use Rattle.etherparse.specs.Frame.{IsFrame}
use Rattle.etherparse.specs.FrameBytes.{last_payload}
use Rattle.etherparse.specs.Layers.{Layers, NetLayer, ipv4, ipv6, arp}
use Rattle.etherparse.specs.FrameRefusals.{RefusesFrame}
use Rattle.etherparse.specs.Types.Entry.{Entry}
use Rattle.line_io.specs.Lines.{words}

-- word for an absent layer
abbrev pub absent : List ℕ
absent = codes "-"

-- bytes as text: two lower case digits for each, and `-` for none
abbrev pub hex_text : List ℕ → List ℕ
hex_text [] = absent
hex_text (byte ∷ bytes) = encode_lower (byte ∷ bytes)

-- word for a link layer, `-` without a header
abbrev pub link_word : Option LinkLayer → List ℕ
link_word (Some (ethernet2 header payload)) = codes "eth"
link_word (Some (sll header payload)) = codes "sll"
link_word (Some (ether_payload type source payload)) = absent
link_word (Some (linux_sll_payload protocol payload)) = absent
link_word None = absent

-- text of a link extension, a VLAN tag with its identifier
abbrev pub extension_text : LinkExtension → List ℕ
extension_text (vlan tag payload) = codes "vlan:" ++ decimal tag.vlan_id
extension_text (macsec tag payload) = codes "macsec"

-- byte between two link extensions, `,`
abbrev pub comma : ℕ
comma = 44

-- texts of link extensions, a comma before each
abbrev pub further_extensions : List LinkExtension → List ℕ
further_extensions [] = []
further_extensions (extension ∷ others) = comma ∷ (extension_text extension ++ further_extensions others)

-- word for the link extensions: their texts, separated by commas
abbrev pub extensions_word : List LinkExtension → List ℕ
extensions_word [] = absent
extensions_word (extension ∷ others) = extension_text extension ++ further_extensions others

-- word for a network layer
abbrev pub net_word : Option NetLayer → List ℕ
net_word (Some (ipv4 header extensions payload)) = codes "ipv4"
net_word (Some (ipv6 header extensions payload)) = codes "ipv6"
net_word (Some (arp packet)) = codes "arp"
net_word None = absent

-- word for a transport header
abbrev pub transport_header_word : TransportHeader → List ℕ
transport_header_word (header.Udp header) = codes "udp"
transport_header_word (header.Tcp header) = codes "tcp"
transport_header_word (header.Icmpv4 header) = codes "icmpv4"
transport_header_word (header.Icmpv6 header) = codes "icmpv6"

-- word for a transport layer
abbrev pub transport_word : Option TransportLayer → List ℕ
transport_word (Some layer) = transport_header_word layer.header
transport_word None = absent

-- text of a frame's layers: link, link extensions, network, transport, and the payload of the innermost layer
abbrev pub layers_text : Layers → List ℕ
layers_text layers =
    words (codes "ok" ∷ link_word layers.link ∷ extensions_word layers.link_exts ∷ net_word layers.net
    ∷ transport_word layers.transport ∷ hex_text (last_payload layers) ∷ [])

-- text of a slice error
abbrev pub refusal_text : SliceError → List ℕ
refusal_text (Len error) =
    words (codes "err" ∷ codes "len" ∷ decimal error.required_len ∷ decimal error.len ∷ len_source_name error.len_source
    ∷ layer_name error.layer ∷ decimal error.layer_start_offset ∷ [])
refusal_text (LinuxSll (linux_sll_error.UnsupportedPacketTypeField number)) =
    words (codes "err" ∷ codes "sll-packet-type" ∷ decimal number ∷ [])
refusal_text (LinuxSll (linux_sll_error.UnsupportedArpHardwareId number)) =
    words (codes "err" ∷ codes "sll-arp-hardware" ∷ decimal number ∷ [])
refusal_text (Macsec macsec_error.UnexpectedVersion) = words (codes "err" ∷ codes "macsec-version" ∷ [])
refusal_text (Macsec macsec_error.InvalidUnmodifiedShortLen) = words (codes "err" ∷ codes "macsec-short-length" ∷ [])
refusal_text (Ip (ip_error.UnsupportedIpVersion version)) =
    words (codes "err" ∷ codes "ip-version" ∷ decimal version ∷ [])
refusal_text (Ip (ip_error.Ipv4HeaderLengthSmallerThanHeader ihl)) =
    words (codes "err" ∷ codes "ip-ihl" ∷ decimal ihl ∷ [])
refusal_text (Ipv4 (ipv4_error.UnexpectedVersion version)) =
    words (codes "err" ∷ codes "ipv4-version" ∷ decimal version ∷ [])
refusal_text (Ipv4 (ipv4_error.HeaderLengthSmallerThanHeader ihl)) =
    words (codes "err" ∷ codes "ipv4-ihl" ∷ decimal ihl ∷ [])
refusal_text (Ipv6 (ipv6_error.UnexpectedVersion version)) =
    words (codes "err" ∷ codes "ipv6-version" ∷ decimal version ∷ [])
refusal_text (Ipv4Exts auth_error.ZeroPayloadLen) = words (codes "err" ∷ codes "ipv4-auth-zero" ∷ [])
refusal_text (Ipv6Exts exts_error.HopByHopNotAtStart) = words (codes "err" ∷ codes "ipv6-hop-by-hop" ∷ [])
refusal_text (Ipv6Exts (exts_error.IpAuth auth_error.ZeroPayloadLen)) =
    words (codes "err" ∷ codes "ipv6-auth-zero" ∷ [])
refusal_text (Tcp (tcp_error.DataOffsetTooSmall data_offset)) =
    words (codes "err" ∷ codes "tcp-data-offset" ∷ decimal data_offset ∷ [])

-- Holds if this is the reply about bytes that begin with a layer: the layers of the frame, or the error of bytes that
-- are not a frame.
abbrev pub IsSliceReply : Entry → List ℕ → List ℕ → Type 0
IsSliceReply entry bytes reply =
    ((layers : Layers) × IsFrame entry bytes layers × (reply ≡ layers_text layers))
    ⊎ ((error : SliceError) × RefusesFrame entry bytes error × (reply ≡ refusal_text error))
