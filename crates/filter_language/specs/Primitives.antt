-- Primitives that keywords of filter expressions denote.
use Rattle.std.specs.Prelude.{ℕ, [], ◌∷◌, unwrap_or, Option, Some, None}
use Rattle.filter_tokens.specs.declared.primitive.FieldLayer.TheVariants as field
use Rattle.filter_tokens.specs.declared.primitive.IpVersion.{IpVersion}
use Rattle.filter_tokens.specs.declared.primitive.Operand.{Operand}
use Rattle.filter_tokens.specs.declared.primitive.Operand.TheVariants.{Length, Bytes}
use Rattle.filter_tokens.specs.declared.primitive.Primitive.{Primitive}
use Rattle.filter_tokens.specs.declared.primitive.Primitive.TheVariants as primitive
use Rattle.filter_tokens.specs.declared.primitive.Relation.{Relation}
use Rattle.filter_tokens.specs.declared.primitive.Relation.TheVariants as is
use Rattle.filter_tokens.specs.declared.primitive.Side.TheVariants.{Destination}
use Rattle.filter_tokens.specs.declared.primitive.Width.TheVariants.{One}
use Rattle.filter_tokens.specs.Values.{most_number}

-- `ether proto` with a number.
abbrev pub type_test : ℕ → Primitive
type_test number = primitive.EtherType (record { 0 = number })

-- `proto` with a number.
abbrev pub protocol_test : IpVersion → ℕ → Primitive
protocol_test version number = primitive.Protocol version (record { 0 = number })

-- A comparison of an operand with a number; without a mask all bits are kept.
abbrev pub number_test : Operand → Option ℕ → Relation → ℕ → Primitive
number_test operand mask by number = primitive.Number operand (unwrap_or mask most_number) by number

-- A comparison of the packet's length with a number.
abbrev pub length_test : Relation → ℕ → Primitive
length_test by number = number_test Length None by number

-- `ether dst ff:ff:ff:ff:ff:ff`
abbrev pub ethernet_broadcast : Primitive
ethernet_broadcast = primitive.Station Destination (255 ∷ 255 ∷ 255 ∷ 255 ∷ 255 ∷ 255 ∷ [])

-- `ether[0] & 1 != 0`
abbrev pub ethernet_multicast : Primitive
ethernet_multicast = number_test (Bytes field.Ethernet 0 One) (Some 1) is.NotEqual 0
