-- Headers of layers, from the link layer to the transport layer, and the headers that a prefix of the bytes contains.
use Rattle.std.specs.Prelude.{◌≡◌, ◌⊎◌, ◌<◌, ◌-◌, nat_le, if◌then◌else◌, ℕ, List, [], ◌∷◌, ◌++◌, length, map, Option, Some, None}
use Rattle.ep_base.specs.Missing.{HasExactLength}
use Rattle.ep_base.specs.declared.err.layer.Layer.{Layer}
use Rattle.ep_base.specs.declared.err.len_error.LenError.{LenError}
use Rattle.ep_ext.specs.ExtensionParts.{ExtensionPart, EncodesPart, part_len}
use Rattle.ep_ip.specs.declared.ipv4_header.Ipv4Header.{Ipv4Header}
use Rattle.ep_ip.specs.declared.ipv6_header.Ipv6Header.{Ipv6Header}
use Rattle.ep_ip.specs.Ipv4.{EncodesIpv4, ipv4_header_len}
use Rattle.ep_ip.specs.Ipv6.{FitsIpv6, ipv6_bytes}
use Rattle.ep_link.specs.declared.link.link_header.LinkHeader.{LinkHeader}
use Rattle.ep_link.specs.declared.link.link_header.LinkHeader.TheVariants.{Ethernet2, LinuxSll}
use Rattle.ep_link.specs.declared.link_ext.link_ext_header.LinkExtHeader.{LinkExtHeader}
use Rattle.ep_link.specs.declared.link_ext.link_ext_header.LinkExtHeader.TheVariants.{Vlan, Macsec}
use Rattle.ep_link.specs.Arp.{Arp, FitsArp, arp_bytes, arp_len}
use Rattle.ep_link.specs.Ethernet2.{FitsEthernet2, ethernet2_bytes}
use Rattle.ep_link.specs.LinkExtensions.{LinkExtension, extension_header, link_ext_header_len}
use Rattle.ep_link.specs.LinkSlices.{LinkLayer, ethernet2, linux_sll, ether_payload, linux_sll_payload, link_header_len}
use Rattle.ep_link.specs.LinuxSll.{FitsLinuxSll, linux_sll_bytes}
use Rattle.ep_link.specs.Macsec.{EncodesMacsec}
use Rattle.ep_link.specs.Vlan.{FitsVlan, vlan_bytes}
use Rattle.ep_transport.specs.declared.icmpv4_header.Icmpv4Header.{Icmpv4Header}
use Rattle.ep_transport.specs.declared.transport_header.TransportHeader.{TransportHeader}
use Rattle.ep_transport.specs.declared.transport_header.TransportHeader.TheVariants.{Icmpv4}
use Rattle.ep_transport.specs.Icmpv4.{icmpv4_kind, icmpv4_len}
use Rattle.ep_transport.specs.TransportHeaders.{EncodesTransportHeader, transport_header_len}
use Rattle.ep_transport.specs.TransportParts.{TransportLayer}
use Rattle.ep_packet.specs.declared.err.slice_error.SliceError.{SliceError}
use Rattle.ep_packet.specs.declared.err.slice_error.SliceError.TheVariants.{Len}
use Rattle.ep_packet.specs.Layers.{Layers, NetLayer, arp, ipv4, ipv6}
use Rattle.ep_lax.specs.LaxLayers.{LaxLayers, error_with_layer}
use Rattle.ep_lax.specs.StrictFrames.{layers_in}

-- ---- headers

-- The header of a layer.
pub data LayerHeader : Type 0 where
  of_link : LinkHeader → LayerHeader
  of_tag : LinkExtHeader → LayerHeader
  of_ipv4 : Ipv4Header → LayerHeader
  of_ipv6 : Ipv6Header → LayerHeader
  of_extension : ExtensionPart → LayerHeader
  of_arp : Arp → LayerHeader
  of_transport : TransportHeader → LayerHeader

-- The header of a link layer, if present.
abbrev pub link_headers : Option LinkLayer → List LayerHeader
link_headers None = []
link_headers (Some (ethernet2 header payload)) = of_link (Ethernet2 header) ∷ []
link_headers (Some (linux_sll header payload)) = of_link (LinuxSll header) ∷ []
link_headers (Some (ether_payload type source payload)) = []
link_headers (Some (linux_sll_payload protocol payload)) = []

-- The tag of a link extension.
abbrev pub tag_header : LinkExtension → LayerHeader
tag_header extension = of_tag (extension_header extension)

-- The header of a network layer, if present, and the extension headers after it.
abbrev pub net_headers : Option NetLayer → List LayerHeader
net_headers None = []
net_headers (Some (ipv4 header extensions payload)) = of_ipv4 header ∷ map of_extension extensions
net_headers (Some (ipv6 header extensions payload)) = of_ipv6 header ∷ map of_extension extensions
net_headers (Some (arp packet)) = of_arp packet ∷ []

-- The header of a transport layer, if present.
abbrev pub transport_headers : Option TransportLayer → List LayerHeader
transport_headers None = []
transport_headers (Some layer) = of_transport layer.header ∷ []

-- The headers of all layers, in order.
abbrev pub frame_headers : Layers → List LayerHeader
frame_headers layers =
    link_headers layers.link
    ++ (map tag_header layers.link_exts ++ (net_headers layers.net ++ transport_headers layers.transport))

-- The headers of layers sliced laxly, in order.
abbrev pub shown_headers : LaxLayers → List LayerHeader
shown_headers read = frame_headers (layers_in read)

-- ---- wire format

-- The bytes are the wire format of the header, with any reserved bits.
abbrev pub EncodesHeader : LayerHeader → List ℕ → Type 0
EncodesHeader (of_link (Ethernet2 header)) bytes = FitsEthernet2 header × (bytes ≡ ethernet2_bytes header)
EncodesHeader (of_link (LinuxSll header)) bytes = FitsLinuxSll header × (bytes ≡ linux_sll_bytes header)
EncodesHeader (of_tag (Vlan tag)) bytes = FitsVlan tag × (bytes ≡ vlan_bytes tag)
EncodesHeader (of_tag (Macsec tag)) bytes = EncodesMacsec bytes tag
EncodesHeader (of_ipv4 header) bytes = EncodesIpv4 bytes header
EncodesHeader (of_ipv6 header) bytes = FitsIpv6 header × (bytes ≡ ipv6_bytes header)
EncodesHeader (of_extension part) bytes = EncodesPart bytes part
EncodesHeader (of_arp packet) bytes = FitsArp packet × (bytes ≡ arp_bytes packet)
EncodesHeader (of_transport header) bytes = EncodesTransportHeader header bytes

-- The length of a header in bytes.
abbrev pub header_len : LayerHeader → ℕ
header_len (of_link header) = link_header_len header
header_len (of_tag tag) = link_ext_header_len tag
header_len (of_ipv4 header) = ipv4_header_len header
header_len (of_ipv6 header) = 40
header_len (of_extension part) = part_len part
header_len (of_arp packet) = arp_len packet
header_len (of_transport header) = transport_header_len header

-- The bytes begin with these headers, one after another, each with the length it states. If bytes and a prefix of them
-- begin with the same headers, these have the same bytes.
abbrev pub BeginWith : List LayerHeader → List ℕ → Type 0
BeginWith [] bytes = Unit {0}
BeginWith (header ∷ others) bytes =
    (encoded rest : List ℕ) × (bytes ≡ encoded ++ rest) × EncodesHeader header encoded
    × (length encoded ≡ header_len header) × BeginWith others rest

-- ---- prefixes

-- The headers that are complete within this number of bytes, one after another from the start.
abbrev pub headers_within : ℕ → List LayerHeader → List LayerHeader
headers_within len [] = []
headers_within len (header ∷ others) =
    if nat_le (header_len header) len then header ∷ headers_within (len - header_len header) others else []

-- The headers of a prefix are the first of these headers. They are all of them if slicing of the prefix did not stop at
-- an error.
pub record AreFirst (shown : List LayerHeader) (stop : Option (SliceError × Layer)) (headers : List LayerHeader) : Type 0
  where
    pub more : List LayerHeader
    pub parts : headers ≡ shown ++ more
    pub all : stop ≡ None → more ≡ []

-- The headers of a prefix are these headers, followed by an ICMPv4 timestamp or timestamp reply, at which slicing of
-- all bytes stops: the message is longer there than its 20 bytes (RFC 792).
pub record EndInTimestamp (shown headers : List LayerHeader) (stop : Option (SliceError × Layer)) : Type 0 where
  pub header : Icmpv4Header
  pub timestamp : icmpv4_len (icmpv4_kind header.icmp_type) ≡ 20
  pub parts : shown ≡ headers ++ of_transport (Icmpv4 header) ∷ []
  pub refusal : LenError
  pub stops : stop ≡ Some (error_with_layer (Len refusal))
  pub exact : HasExactLength refusal.layer
  pub long : 20 < refusal.len

-- The headers `shown` of a prefix are the first of `headers`, those of all bytes. Or the prefix has one more, an ICMPv4
-- timestamp at which slicing of all bytes stops.
abbrev pub ShowsPrefix : List LayerHeader → Option (SliceError × Layer) → List LayerHeader → Option (SliceError × Layer)
    → Type 0
ShowsPrefix shown end headers stop = AreFirst shown end headers ⊎ EndInTimestamp shown headers stop
