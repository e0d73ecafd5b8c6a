-- Laws of filter expressions.
use Rattle.std.specs.Prelude.{◌≡◌, ℕ, ◌+◌, ◌≤◌, ◌⊎◌, true, not, List, ◌++◌, length, Option, Some, None}
use Rattle.ep_base.specs.Bytes.{AreBytes}
use Rattle.ep_lax.specs.Lax.{IsLax}
use Rattle.ep_lax.specs.LaxLayers.{LaxLayers}
use Rattle.ep_packet.specs.declared.entry.Entry.{Entry}
use Rattle.filter_tokens.specs.declared.filter_error.FilterError.{FilterError}
use Rattle.filter_tokens.specs.declared.primitive.FieldLayer.TheVariants as field
use Rattle.filter_tokens.specs.declared.primitive.Operand.TheVariants.{Bytes}
use Rattle.filter_tokens.specs.declared.primitive.PortProtocol.TheVariants as protocol
use Rattle.filter_tokens.specs.declared.primitive.Primitive.TheVariants as primitive
use Rattle.filter_tokens.specs.declared.primitive.Relation.TheVariants.{Equal, LessOrEqual, GreaterOrEqual}
use Rattle.filter_tokens.specs.declared.primitive.Side.TheVariants.{Source}
use Rattle.filter_tokens.specs.declared.primitive.Width.TheVariants.{Two}
use Rattle.filter_language.specs.Grammar.{most_bytes}
use Rattle.packet_filter.specs.Meaning.{matches_expr, matches_primitive}
use Rattle.packet_filter.specs.Packets.{Packet, Transport, packet_of}
use Rattle.filter_language.specs.Primitives.{length_test, number_test}
use Rattle.filter_language.specs.Printing.{printed}
use Rattle.filter_language.specs.Refusals.{IsFilterText, RefusesText}
use Rattle.filter_language.specs.Trees.{Expr, test, negated, both, either}

-- A text is a filter or has an error, in one way, and never both.
pub record IsDecided (text : List ℕ) : Type 0 where
  pub decided : ((tree : Option Expr) × IsFilterText text tree) ⊎ ((error : FilterError) × RefusesText text error)
  pub one_filter : (tree other : Option Expr) → IsFilterText text tree → IsFilterText text other → tree ≡ other
  pub one_error : (error other : FilterError) → RefusesText text error → RefusesText text other → error ≡ other
  pub never_both : (tree : Option Expr) (error : FilterError) → IsFilterText text tree → RefusesText text error → ⊥

-- The printed form of a filter is a text of the same filter, unless it is too long.
abbrev pub IsReadBack : Option Expr → Type 0
IsReadBack tree =
    (text : List ℕ) → IsFilterText text tree → length (printed tree) ≤ most_bytes → IsFilterText (printed tree) tree

-- The transport header and what comes after it are bytes.
abbrev pub HasTransportBytes : Option Transport → Type 0
HasTransportBytes None = Unit {0}
HasTransportBytes (Some transport) = AreBytes transport.bytes

-- `tcp src port n` is `tcp[0:2] = n`.
abbrev pub IsPortOfBytes : Packet → ℕ → Type 0
IsPortOfBytes packet port =
    HasTransportBytes packet.transport
    → matches_primitive (primitive.Port protocol.Tcp Source port port) packet
    ≡ matches_primitive (number_test (Bytes field.Tcp 0 Two) None Equal port) packet

-- `less n` is `not greater (n + 1)`.
abbrev pub IsLessOrGreater : Packet → ℕ → Type 0
IsLessOrGreater packet number =
    matches_primitive (length_test LessOrEqual number) packet
    ≡ not (matches_primitive (length_test GreaterOrEqual (number + 1)) packet)

-- An expression without `not`.
abbrev pub IsPositive : Expr → Type 0
IsPositive (test p) = Unit {0}
IsPositive (negated e) = ⊥
IsPositive (both e f) = IsPositive e × IsPositive f
IsPositive (either e f) = IsPositive e × IsPositive f

-- An expression that matches the first bytes of a packet matches the whole packet.
abbrev pub HoldsOfMore : Expr → Entry → List ℕ → List ℕ → Type 0
HoldsOfMore e entry front others =
    (layers more : LaxLayers) (len : ℕ) → AreBytes (front ++ others) → IsPositive e → IsLax entry front layers
    → IsLax entry (front ++ others) more
    → matches_expr e (packet_of layers front len) ≡ true → matches_expr e (packet_of more (front ++ others) len) ≡ true
