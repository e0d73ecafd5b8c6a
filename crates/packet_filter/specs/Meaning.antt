-- The packets that filter expressions match.
use Rattle.std.specs.Prelude.{ℕ, ◌+◌, ◌==◌, ◌&&◌, ◌||◌, not, nat_lt, nat_le, if◌then◌else◌, Bool, true, false, bit_and}
use Rattle.std.specs.Prelude.{List, [], ◌∷◌, length, slice_index, Option, Some, None, option_and_then}
use Rattle.std.specs.List.{list_any}
use Rattle.std.specs.Option.{option_map_or}
use Rattle.std.specs.Str.{bytes_eq}
use Rattle.ep_base.specs.Bytes.{word_at, long_at}
use Rattle.ep_base.specs.IpNumbers.{tcp_number, udp_number}
use Rattle.ep_link.specs.LinkExtensions.{LinkExtension, vlan, macsec}
use Rattle.ep_link.specs.LinkSlices.{LinkLayer, ethernet2}
use Rattle.filter_tokens.specs.declared.primitive.Operand.{Operand}
use Rattle.filter_tokens.specs.declared.primitive.Operand.TheVariants.{Length, Bytes}
use Rattle.filter_tokens.specs.declared.primitive.PortProtocol.{PortProtocol}
use Rattle.filter_tokens.specs.declared.primitive.PortProtocol.TheVariants as protocol
use Rattle.filter_tokens.specs.declared.primitive.Primitive.{Primitive}
use Rattle.filter_tokens.specs.declared.primitive.Primitive.TheVariants as primitive
use Rattle.filter_tokens.specs.declared.primitive.Relation.{Relation}
use Rattle.filter_tokens.specs.declared.primitive.Relation.TheVariants.{Equal, NotEqual, Less, LessOrEqual, Greater, GreaterOrEqual}
use Rattle.filter_tokens.specs.declared.primitive.Side.{Side}
use Rattle.filter_tokens.specs.declared.primitive.Side.TheVariants.{Source, Destination, Either, Both}
use Rattle.filter_tokens.specs.declared.primitive.Width.{Width}
use Rattle.filter_tokens.specs.declared.primitive.Width.TheVariants.{One, Two, Four}
use Rattle.filter_tokens.specs.Networks.{is_within}
use Rattle.filter_language.specs.Trees.{Expr, test, negated, both, either}
use Rattle.packet_filter.specs.Packets.{Transport, Packet, addresses_of, bytes_of, has_type, ip_numbers, is_version, sctp_number, tags_in}

-- ---- sides and numbers

-- Whether a condition holds of the source, the destination, one or both of them.
abbrev pub at_side : Side → Bool → Bool → Bool
at_side Source source destination = source
at_side Destination source destination = destination
at_side Either source destination = source || destination
at_side Both source destination = source && destination

-- Whether a condition holds of the source, the destination, one or both of two addresses; false without addresses.
abbrev pub at_side_of : Side → (List ℕ → Bool) → List (List ℕ) → Bool
at_side_of side holds (source ∷ destination ∷ []) = at_side side (holds source) (holds destination)
at_side_of side holds addresses = false

-- The big-endian number at an offset, unless the bytes end before its end.
abbrev pub number_at : Width → ℕ → List ℕ → Option ℕ
number_at One at bytes = if nat_lt at (length bytes) then Some (slice_index bytes at) else None
number_at Two at bytes = if nat_lt (at + 1) (length bytes) then Some (word_at bytes at) else None
number_at Four at bytes = if nat_lt (at + 3) (length bytes) then Some (long_at bytes at) else None

abbrev pub has_relation : Relation → ℕ → ℕ → Bool
has_relation Equal a b = a == b
has_relation NotEqual a b = not (a == b)
has_relation Less a b = nat_lt a b
has_relation LessOrEqual a b = nat_le a b
has_relation Greater a b = nat_lt b a
has_relation GreaterOrEqual a b = nat_le b a

-- ---- primitives

-- The number that a comparison is about, if the packet has it.
abbrev pub operand_of : Operand → Packet → Option ℕ
operand_of Length packet = Some packet.len
operand_of (Bytes layer at width) packet = option_and_then (number_at width at) (bytes_of layer packet)

-- True if this is the IP number of the transport protocol, or of one with ports.
abbrev pub has_ports : PortProtocol → ℕ → Bool
has_ports protocol.Any number = number == tcp_number || (number == udp_number || number == sctp_number)
has_ports protocol.Tcp number = number == tcp_number
has_ports protocol.Udp number = number == udp_number
has_ports protocol.Sctp number = number == sctp_number

-- True if the port at an offset of a transport header is there and in a range.
abbrev pub has_port_at : ℕ → ℕ → ℕ → List ℕ → Bool
has_port_at at low high bytes = option_map_or (λ port. nat_le low port && nat_le port high) (number_at Two at bytes) false

-- True if a transport header has a port in a range, at bytes 0 and 1 (source) or 2 and 3 (destination).
abbrev pub has_port : PortProtocol → Side → ℕ → ℕ → Transport → Bool
has_port ports side low high transport =
    has_ports ports transport.number
    && at_side side (has_port_at 0 low high transport.bytes) (has_port_at 2 low high transport.bytes)

-- True if an address of an Ethernet II header is this one.
abbrev pub has_station : Side → List ℕ → Option LinkLayer → Bool
has_station side station (Some (ethernet2 header payload)) =
    at_side side (bytes_eq header.source station) (bytes_eq header.destination station)
has_station side station layer = false

-- True if a link extension is a VLAN tag, with this identifier if one is given.
abbrev pub is_vlan : Option ℕ → LinkExtension → Bool
is_vlan None (vlan tag payload) = true
is_vlan (Some id) (vlan tag payload) = tag.vlan_id == id
is_vlan id (macsec tag payload) = false

-- Whether a primitive matches a packet.
abbrev pub matches_primitive : Primitive → Packet → Bool
matches_primitive (primitive.EtherType type) packet = has_type type.0 packet.layers
matches_primitive (primitive.Protocol ip number) packet =
    option_map_or (λ layer. is_version ip layer && list_any (λ other. other == number.0) (ip_numbers layer))
    packet.layers.net.layer false
matches_primitive (primitive.Address layer side network) packet =
    option_map_or (λ net. at_side_of side (is_within network) (addresses_of layer net)) packet.layers.net.layer false
matches_primitive (primitive.Station side station) packet = has_station side station packet.layers.link
matches_primitive (primitive.Port ports side low high) packet =
    option_map_or (has_port ports side low high) packet.transport false
matches_primitive (primitive.Vlan id) packet = list_any (is_vlan id) (tags_in packet.layers)
matches_primitive (primitive.Number operand mask relation number) packet =
    option_map_or (λ value. has_relation relation (bit_and value mask) number) (operand_of operand packet) false

-- ---- expressions

-- Whether an expression matches a packet.
abbrev pub matches_expr : Expr → Packet → Bool
matches_expr (test p) packet = matches_primitive p packet
matches_expr (negated e) packet = not (matches_expr e packet)
matches_expr (both e f) packet = matches_expr e packet && matches_expr f packet
matches_expr (either e f) packet = matches_expr e packet || matches_expr f packet

-- Whether a filter matches a packet; the empty filter matches every packet.
abbrev pub meaning : Option Expr → Packet → Bool
meaning None packet = true
meaning (Some e) packet = matches_expr e packet
