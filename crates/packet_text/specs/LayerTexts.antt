-- Text of the layers of a packet, each after a space.
use Rattle.std.specs.Prelude.{ℕ, Bool, true, false, ◌&&◌, if◌then◌else◌, nat_le, List, [], ◌++◌, Option, Some, None, codes}
use Rattle.std.specs.Fmt.{decimal}
use Rattle.std.specs.Int.{w16, to_be_bytes}
use Rattle.etherparse.specs.IpPayload.{IpPayload}
use Rattle.etherparse.specs.Names.{ether_type_name, ip_number_name}
use Rattle.etherparse.specs.Types.EtherType.{EtherType}
use Rattle.etherparse.specs.Types.Layer.{Layer}
use Rattle.etherparse.specs.Types.SliceError.{SliceError}
use Rattle.etherparse.specs.FrameBytes.{last_payload}
use Rattle.etherparse.specs.LaxLayers.{LaxLayers}
use Rattle.etherparse.specs.Layers.{Layers, NetLayer, net_payload}
use Rattle.etherparse.specs.LinkSlices.{LinkLayer, ethernet2, linux_sll, ether_payload, linux_sll_payload}
use Rattle.etherparse.specs.Payloads.{payload_ether_type_in}
use Rattle.etherparse.specs.PayloadStarts.{begins_payload}
use Rattle.etherparse.specs.StrictFrames.{layers_in}
use Rattle.etherparse.specs.TransportParts.{TransportLayer}
use Rattle.packet_text.specs.Addresses.{hex_text}
use Rattle.packet_text.specs.Links.{extensions_text, link_text}
use Rattle.packet_text.specs.FullLengths.{full_len_if_truncated_text, missing_tcp_payload_text}
use Rattle.packet_text.specs.Networks.{net_text}
use Rattle.packet_text.specs.SliceErrorTexts.{stop_text}
use Rattle.packet_text.specs.Transports.{header_start_text, len_text, transport_text}

-- the name of a number, if it has one
abbrev pub name_text : Option (List ℕ) → List ℕ
name_text (Some name) = codes " " ++ name
name_text None = []

-- a protocol number and its name
abbrev pub protocol_text : ℕ → List ℕ
protocol_text number = codes " protocol " ++ decimal number ++ name_text (ip_number_name number)

-- an IP payload without a parsed transport layer: its protocol and its length
abbrev pub ip_payload_text : Option IpPayload → List ℕ
ip_payload_text (Some payload) = protocol_text payload.number ++ len_text payload.bytes
ip_payload_text None = []

-- the known fields at the start of an IP payload, if it begins with a transport header
abbrev pub payload_start_text : Bool → Option IpPayload → List ℕ
payload_start_text begins (Some payload) = if begins then header_start_text payload.number payload.bytes else []
payload_start_text begins None = []

-- the known fields of a transport header that is not parsed since it is truncated, invalid or in a first fragment
abbrev pub transport_start_text : Option NetLayer → List ℕ
transport_start_text (Some net) = payload_start_text (begins_payload net) (net_payload net)
transport_start_text None = []

-- True if a link layer is Ethernet, whose type field is a length up to 1500 (IEEE 802.3, 3.2.6).
abbrev pub has_lengths : Option LinkLayer → Bool
has_lengths (Some (ethernet2 header payload)) = true
has_lengths (Some (linux_sll header payload)) = false
has_lengths (Some (ether_payload type source payload)) = false
has_lengths (Some (linux_sll_payload protocol payload)) = false
has_lengths None = false

-- True if an ether type is a length, given whether the link layer has lengths.
abbrev pub is_length : Bool → ℕ → Bool
is_length lengths type = lengths && nat_le type 1500

-- an ether type and its name
abbrev pub named_type_text : ℕ → List ℕ
named_type_text type = codes " type 0x" ++ hex_text (to_be_bytes w16 type) ++ name_text (ether_type_name type)

-- an ether type and its name, or a length
abbrev pub type_text : Bool → ℕ → List ℕ
type_text lengths type =
    if is_length lengths type then codes " length " ++ decimal type else named_type_text type

-- an ether type, if it is known
abbrev pub ether_type_text : Bool → Option EtherType → List ℕ
ether_type_text lengths (Some type) = type_text lengths type.0
ether_type_text lengths None = []

-- the payload that no layer was read from: that of the IP packet, or else that of the link layer and its extensions
abbrev pub unparsed_payload_text : Option NetLayer → Bool → Option EtherType → List ℕ → List ℕ
unparsed_payload_text (Some net) lengths type payload =
    transport_start_text (Some net) ++ ip_payload_text (net_payload net)
unparsed_payload_text None lengths type payload = ether_type_text lengths type ++ len_text payload

-- the payload that no layer was read from, given the layers
abbrev pub unparsed_payload_in : Layers → List ℕ
unparsed_payload_in layers =
    unparsed_payload_text layers.net (has_lengths layers.link) (payload_ether_type_in layers) (last_payload layers)

-- the transport layer, or the payload that no layer was read from
abbrev pub transport_or_payload_text : Option TransportLayer → List ℕ → List ℕ
transport_or_payload_text (Some layer) unread = transport_text layer
transport_or_payload_text None unread = unread

-- the transport layer, or the payload that no layer was read from, given the layers, and the full length of the last
-- payload if bytes of it are missing
abbrev pub inner_in : Bool → Layers → List ℕ
inner_in incomplete layers =
    transport_or_payload_text layers.transport (unparsed_payload_in layers)
    ++ full_len_if_truncated_text incomplete layers

-- the known fields of a rejected transport header, and the length of its payload
abbrev pub refused_start_text : Option NetLayer → List ℕ
refused_start_text net = transport_start_text net ++ missing_tcp_payload_text net

-- the layers outside the payload of the network layer, from the outermost inwards
abbrev pub outer_text : Layers → List ℕ
outer_text layers = link_text layers.link ++ extensions_text layers.link_exts ++ net_text layers.net

-- the payload of the outer layers, or why the next layer is rejected
abbrev pub rest_text : Bool → Layers → Option (SliceError × Layer) → List ℕ
rest_text incomplete layers None = inner_in incomplete layers
rest_text incomplete layers (Some stop) = refused_start_text layers.net ++ stop_text stop.0

-- a word if bytes of the last payload are missing, by a length field
abbrev pub incomplete_text : Bool → List ℕ
incomplete_text incomplete = if incomplete then codes " incomplete" else []

-- all valid layers, from the outermost inwards, and then the error, if any
abbrev pub lax_layers_text : LaxLayers → List ℕ
lax_layers_text read =
    outer_text (layers_in read) ++ rest_text read.net.inside.incomplete (layers_in read) read.net.inside.stop
    ++ incomplete_text read.net.inside.incomplete
