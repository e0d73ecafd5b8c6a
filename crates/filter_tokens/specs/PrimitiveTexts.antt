-- The text of primitives, each with all its qualifiers.
use Rattle.std.specs.Prelude.{ℕ, ◌+◌, ◌/◌, ◌%◌, ◌==◌, nat_lt, if◌then◌else◌, List, [], ◌∷◌, ◌++◌, codes, Some, None}
use Rattle.std.specs.Fmt.{decimal}
use Rattle.std.specs.Net.Text.{ip_text}
use Rattle.filter_tokens.specs.declared.network.Network.{Network}
use Rattle.filter_tokens.specs.declared.primitive.AddressLayer.{AddressLayer}
use Rattle.filter_tokens.specs.declared.primitive.AddressLayer.TheVariants as of
use Rattle.filter_tokens.specs.declared.primitive.FieldLayer.{FieldLayer}
use Rattle.filter_tokens.specs.declared.primitive.FieldLayer.TheVariants as field
use Rattle.filter_tokens.specs.declared.primitive.IpVersion.{IpVersion}
use Rattle.filter_tokens.specs.declared.primitive.IpVersion.TheVariants as version
use Rattle.filter_tokens.specs.declared.primitive.Operand.{Operand}
use Rattle.filter_tokens.specs.declared.primitive.Operand.TheVariants.{Length, Bytes}
use Rattle.filter_tokens.specs.declared.primitive.PortProtocol.{PortProtocol}
use Rattle.filter_tokens.specs.declared.primitive.PortProtocol.TheVariants as protocol
use Rattle.filter_tokens.specs.declared.primitive.Primitive.{Primitive}
use Rattle.filter_tokens.specs.declared.primitive.Primitive.TheVariants as primitive
use Rattle.filter_tokens.specs.declared.primitive.Relation.{Relation}
use Rattle.filter_tokens.specs.declared.primitive.Relation.TheVariants.{Equal, NotEqual, Less, LessOrEqual, Greater, GreaterOrEqual}
use Rattle.filter_tokens.specs.declared.primitive.Side.{Side}
use Rattle.filter_tokens.specs.declared.primitive.Side.TheVariants.{Source, Destination, Either, Both}
use Rattle.filter_tokens.specs.declared.primitive.Width.{Width}
use Rattle.filter_tokens.specs.declared.primitive.Width.TheVariants.{One, Two, Four}
use Rattle.filter_tokens.specs.Networks.{address_width}
use Rattle.filter_tokens.specs.Values.{most_number}

-- A hexadecimal digit.
abbrev pub hex_digit : ℕ → ℕ
hex_digit number = if nat_lt number 10 then 48 + number else 87 + number

-- The two hexadecimal digits of a byte.
abbrev pub hex_pair : ℕ → List ℕ
hex_pair byte = hex_digit (byte / 16) ∷ hex_digit (byte % 16) ∷ []

-- A MAC address, with colons between its bytes.
abbrev pub station_text : List ℕ → List ℕ
station_text [] = []
station_text (octet ∷ []) = hex_pair octet
station_text (octet ∷ octets) = hex_pair octet ++ codes ":" ++ station_text octets

abbrev pub version_text : IpVersion → List ℕ
version_text version.Any = []
version_text version.V4 = codes "ip "
version_text version.V6 = codes "ip6 "

abbrev pub layer_text : AddressLayer → List ℕ
layer_text of.Any = []
layer_text of.Ipv4 = codes "ip "
layer_text of.Ipv6 = codes "ip6 "
layer_text of.Arp = codes "arp "

abbrev pub side_text : Side → List ℕ
side_text Source = codes "src "
side_text Destination = codes "dst "
side_text Either = codes "src or dst "
side_text Both = codes "src and dst "

abbrev pub ports_text : PortProtocol → List ℕ
ports_text protocol.Any = []
ports_text protocol.Tcp = codes "tcp "
ports_text protocol.Udp = codes "udp "
ports_text protocol.Sctp = codes "sctp "

abbrev pub field_text : FieldLayer → List ℕ
field_text field.Ethernet = codes "ether"
field_text field.Arp = codes "arp"
field_text field.Ipv4 = codes "ip"
field_text field.Ipv6 = codes "ip6"
field_text field.Tcp = codes "tcp"
field_text field.Udp = codes "udp"
field_text field.Sctp = codes "sctp"
field_text field.Icmpv4 = codes "icmp"
field_text field.Icmpv6 = codes "icmp6"

abbrev pub width_text : Width → List ℕ
width_text One = codes ":1]"
width_text Two = codes ":2]"
width_text Four = codes ":4]"

abbrev pub relation_text : Relation → List ℕ
relation_text Equal = codes " = "
relation_text NotEqual = codes " != "
relation_text Less = codes " < "
relation_text LessOrEqual = codes " <= "
relation_text Greater = codes " > "
relation_text GreaterOrEqual = codes " >= "

-- A host, or a network with its prefix length.
abbrev pub network_text : Network → List ℕ
network_text network =
    if network.bits == address_width network.address then codes "host " ++ ip_text network.address
    else codes "net " ++ ip_text network.address ++ codes "/" ++ decimal network.bits

-- A port, or a range.
abbrev pub port_range_text : ℕ → ℕ → List ℕ
port_range_text low high =
    if low == high then codes "port " ++ decimal low else codes "portrange " ++ decimal low ++ codes "-" ++ decimal high

abbrev pub operand_text : Operand → List ℕ
operand_text Length = codes "len"
operand_text (Bytes layer offset width) = field_text layer ++ codes "[" ++ decimal offset ++ width_text width

-- The mask, if it leaves a bit out.
abbrev pub mask_text : ℕ → List ℕ
mask_text mask = if mask == most_number then [] else codes " & " ++ decimal mask

abbrev pub primitive_text : Primitive → List ℕ
primitive_text (primitive.EtherType type) = codes "ether proto 0x" ++ hex_pair (type.0 / 256) ++ hex_pair (type.0 % 256)
primitive_text (primitive.Protocol ip number) = version_text ip ++ codes "proto " ++ decimal number.0
primitive_text (primitive.Address layer side network) = layer_text layer ++ side_text side ++ network_text network
primitive_text (primitive.Station side station) =
    codes "ether " ++ side_text side ++ codes "host " ++ station_text station
primitive_text (primitive.Port ports side low high) =
    ports_text ports ++ side_text side ++ port_range_text low high
primitive_text (primitive.Vlan None) = codes "vlan"
primitive_text (primitive.Vlan (Some id)) = codes "vlan " ++ decimal id
primitive_text (primitive.Number operand mask relation number) =
    operand_text operand ++ mask_text mask ++ relation_text relation ++ decimal number
