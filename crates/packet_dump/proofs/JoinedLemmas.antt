-- An option and its value in one argument.
use Rattle.std.proofs.Common.{◌≡◌, ℕ, ◌<◌, inl, inr, get_or, length, List, [], ◌∷◌, ◌++◌}
use Rattle.std.proofs.Common.{Option, Some, None, refl, ap, append_assoc, ◌∙◌, sym, subst, suc, arith, nat_eq}
use Rattle.std.specs.Prelude.{codes}
use Rattle.std.specs.Option.{option_map}
use Rattle.std.proofs.lemmas.Bool.{eqb-true}
use Rattle.packet_dump.specs.Options.{IsJoined, IsOptionWord}
use Rattle.packet_dump.specs.OptionSteps.{joined_from, joined_in, option_with, parts_at_equals, word_named}
use Rattle.packet_dump.specs.declared.options.Awaited.{Awaited}
use Rattle.packet_dump.specs.declared.options.Awaited.TheVariants.{Count, Only, Time, Timeout, Limit, Write, Streams, Filter, Input}
use Rattle.packet_dump.specs.declared.options.Awaited.TheVariants.{FragmentBytes, FragmentAge, Overlap, Explain}
use Rattle.packet_dump.specs.declared.options.FilterKind.TheVariants.{Host, Port, Vlan, Net}
use Rattle.packet_dump.specs.declared.options.Word.{Word}
use Rattle.packet_dump.specs.declared.options.Word.TheVariants as word
use Rattle.packet_dump.proofs.ValueLemmas.{IsWord, branch, is_word, some_of}

-- ---- position of `=`

-- the two parts of a text, with a byte added before the first
abbrev after_byte : ℕ → List ℕ × List ℕ → List ℕ × List ℕ
after_byte byte parts = (byte ∷ parts.0, parts.1)

-- A text without `=` has no parts.
pub no_parts : (text : List ℕ) → ((i : ℕ) → i < length text → get_or text i 0 ≡ 61 → ⊥) → parts_at_equals text ≡ None
no_parts [] never = refl
no_parts (byte ∷ bytes) never =
    branch (λ o. o ≡ None) (nat_eq byte 61) (Some ([], bytes)) (option_map (after_byte byte) (parts_at_equals bytes))
    (λ same. absurd (never 0 (omega arith) (eqb-true byte 61 same)))
    (λ other. ap (option_map (after_byte byte)) (no_parts bytes (λ i within is. never (suc i) (omega (arith, within)) is)))

-- The first part, which has no `=`, and the second are the parts of the text.
pub these_parts : (prefix after : List ℕ) → ((i : ℕ) → i < length prefix → get_or prefix i 0 ≡ 61 → ⊥)
    → parts_at_equals (prefix ++ (61 ∷ after)) ≡ Some (prefix, after)
these_parts [] after never = refl
these_parts (byte ∷ prefix) after never =
    branch (λ o. o ≡ Some (byte ∷ prefix, after)) (nat_eq byte 61) (Some ([], prefix ++ (61 ∷ after)))
    (option_map (after_byte byte) (parts_at_equals (prefix ++ (61 ∷ after))))
    (λ same. absurd (never 0 (omega arith) (eqb-true byte 61 same)))
    (λ other. ap (option_map (after_byte byte))
    (these_parts prefix after (λ i within is. never (suc i) (omega (arith, within)) is)))

-- A text is its first part, `=`, and its second part.
parts_are : (text : List ℕ) (parts : List ℕ × List ℕ) → parts_at_equals text ≡ Some parts
    → text ≡ parts.0 ++ (61 ∷ parts.1)
parts_are [] parts is = let never : ⊥ = cc in absurd never
parts_are (byte ∷ bytes) parts is =
    branch (λ o. o ≡ Some parts → byte ∷ bytes ≡ parts.0 ++ (61 ∷ parts.1)) (nat_eq byte 61) (Some ([], bytes))
    (option_map (after_byte byte) (parts_at_equals bytes))
    (λ same here.
    let e : ([], bytes) ≡ parts = cc in
    subst (λ (p : List ℕ × List ℕ). byte ∷ bytes ≡ p.0 ++ (61 ∷ p.1)) e (ap (λ b. b ∷ bytes) (eqb-true byte 61 same)))
    (λ other later.
    let found = some_of (after_byte byte) (parts_at_equals bytes) parts later in
    subst (λ (p : List ℕ × List ℕ). byte ∷ bytes ≡ p.0 ++ (61 ∷ p.1)) found.2
    (ap (λ b. byte ∷ b) (parts_are bytes found.0 found.1))) is

-- ---- the option before `=`

option_word_is : (w : Word) (after value : List ℕ) (option : Awaited) → option_with w after ≡ Some (option, value)
    → (w ≡ word.Option option) × (after ≡ value)
option_word_is (word.Option found) after value option is =
    let e : (found, after) ≡ (option, value) = cc in
    (ap (λ (p : Awaited × List ℕ). word.Option p.0) e, ap (λ (p : Awaited × List ℕ). p.1) e)
option_word_is w after value option is = let never : ⊥ = cc in absurd never

joined_from_is : (text : List ℕ) (option : Awaited) (value : List ℕ) (found : Option (List ℕ × List ℕ))
    → parts_at_equals text ≡ found → joined_from found ≡ Some (option, value) → IsJoined option value text
joined_from_is text option value None parts is = let never : ⊥ = cc in absurd never
joined_from_is text option value (Some (name, after)) parts is =
    let stated = option_word_is (word_named name) after value option is in (
      name,
      subst (λ (w : Word). IsWord name w) stated.0 (is_word name),
      parts_are text (name, after) parts ∙ ap (λ (b : List ℕ). name ++ (61 ∷ b)) stated.1
          ∙ sym (append_assoc name (61 ∷ []) value),
    )

pub joined_is : (text : List ℕ) (option : Awaited) (value : List ℕ) → joined_in text ≡ Some (option, value)
    → IsJoined option value text
joined_is text option value is = joined_from_is text option value (parts_at_equals text) refl is

no_pair : (o : Option (Awaited × List ℕ)) → ((stated : Awaited × List ℕ) → o ≡ Some stated → ⊥) → o ≡ None
no_pair None never = refl
no_pair (Some stated) never = absurd (never stated refl)

pub joined_none : (text : List ℕ) → ((option : Awaited) (value : List ℕ) → IsJoined option value text → ⊥)
    → joined_in text ≡ None
joined_none text never = no_pair (joined_in text) (λ stated is. never stated.0 stated.1 (joined_is text stated.0 stated.1 is))

-- The argument is in no row of the table, and is the option joined to the value.
abbrev pub JoinedSo : Awaited → List ℕ → List ℕ → Type 0
JoinedSo option value text = (word_named text ≡ word.Unknown) × (joined_in text ≡ Some (option, value))

from_name : (option : Awaited) (value name known : List ℕ) → name ≡ known
    → JoinedSo option value (known ++ codes "=" ++ value) → JoinedSo option value (name ++ codes "=" ++ value)
from_name option value name known is so =
    subst (λ (n : List ℕ). JoinedSo option value (n ++ codes "=" ++ value)) (sym is) so

joined_by : (option : Awaited) (value name : List ℕ) → IsOptionWord option name
    → JoinedSo option value (name ++ codes "=" ++ value)
joined_by Count value name (inl is) = from_name Count value name (codes "--count") is (refl, refl)
joined_by Count value name (inr is) = from_name Count value name (codes "-c") is (refl, refl)
joined_by Only value name is = from_name Only value name (codes "--only") is (refl, refl)
joined_by Time value name is = from_name Time value name (codes "--time") is (refl, refl)
joined_by Timeout value name is = from_name Timeout value name (codes "--timeout") is (refl, refl)
joined_by Limit value name is = from_name Limit value name (codes "--limit") is (refl, refl)
joined_by Write value name is = from_name Write value name (codes "--write") is (refl, refl)
joined_by Streams value name is = from_name Streams value name (codes "--streams") is (refl, refl)
joined_by FragmentBytes value name is = from_name FragmentBytes value name (codes "--fragment-bytes") is (refl, refl)
joined_by FragmentAge value name is = from_name FragmentAge value name (codes "--fragment-age") is (refl, refl)
joined_by Overlap value name is = from_name Overlap value name (codes "--overlap") is (refl, refl)
joined_by (Filter Host) value name is = from_name (Filter Host) value name (codes "--host") is (refl, refl)
joined_by (Filter Port) value name is = from_name (Filter Port) value name (codes "--port") is (refl, refl)
joined_by (Filter Vlan) value name is = from_name (Filter Vlan) value name (codes "--vlan") is (refl, refl)
joined_by (Filter Net) value name is = from_name (Filter Net) value name (codes "--net") is (refl, refl)
joined_by Input value name is = from_name Input value name (codes "-r") is (refl, refl)
joined_by Explain value name is = from_name Explain value name (codes "--explain") is (refl, refl)

pub joined_so : (option : Awaited) (value text : List ℕ) → IsJoined option value text → JoinedSo option value text
joined_so option value text joined =
    subst (λ (t : List ℕ). JoinedSo option value t) (sym joined.2) (joined_by option value joined.0 joined.1)

-- The name of an option has the meaning of that option.
pub option_named : (option : Awaited) (name : List ℕ) → IsOptionWord option name → word_named name ≡ word.Option option
option_named Count name (inl is) = ap word_named is
option_named Count name (inr is) = ap word_named is
option_named Only name is = ap word_named is
option_named Time name is = ap word_named is
option_named Timeout name is = ap word_named is
option_named Limit name is = ap word_named is
option_named Write name is = ap word_named is
option_named Streams name is = ap word_named is
option_named FragmentBytes name is = ap word_named is
option_named FragmentAge name is = ap word_named is
option_named Overlap name is = ap word_named is
option_named (Filter Host) name is = ap word_named is
option_named (Filter Port) name is = ap word_named is
option_named (Filter Vlan) name is = ap word_named is
option_named (Filter Net) name is = ap word_named is
option_named Input name is = ap word_named is
option_named Explain name is = ap word_named is
