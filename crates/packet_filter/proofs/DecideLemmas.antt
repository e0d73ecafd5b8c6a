-- Every token is read or stops the parser.
use Rattle.std.proofs.Common.{◌≡◌, ℕ, ◌⊎◌, inl, inr, Bool, true, false, take, IsTrue, List, [], ◌∷◌, ◌++◌, Option, Some, None, Ok, Err, refl, ap, lit<}
use Rattle.std.specs.List.{list_any}
use Rattle.std.specs.declared.net.ip_addr.IpAddr.{IpAddr}
use Rattle.filter_tokens.specs.declared.filter_error.FilterErrorKind.{FilterErrorKind}
use Rattle.filter_tokens.specs.declared.filter_error.FilterErrorKind.TheVariants as kind
use Rattle.filter_tokens.specs.declared.primitive.AddressLayer.{AddressLayer}
use Rattle.filter_tokens.specs.declared.primitive.Primitive.TheVariants as primitive
use Rattle.filter_tokens.specs.declared.primitive.Side.{Side}
use Rattle.filter_tokens.specs.Networks.{has_no_host_bits}
use Rattle.filter_tokens.specs.Tokens.{Placed, Token, is_colon, is_digit, tokens_of, word, wrong}
use Rattle.filter_tokens.specs.Values.{IsConstant, IsLength, IsMask, IsNumberText, most_number}
use Rattle.filter_language.specs.declared.head.Head.{Head}
use Rattle.filter_language.specs.declared.mode.Mode.{Mode}
use Rattle.filter_language.specs.declared.mode.Mode.TheVariants as mode
use Rattle.filter_language.specs.Grammar.{IsWordValue}
use Rattle.filter_language.specs.Primitives.{length_test}
use Rattle.filter_language.specs.Refusals.{IsLikeValue, IsOperandKind, value_kind}
use Rattle.filter_language.specs.States.{State, Reading, Reads, ReadsConstant, ReadsPrefix, ReadsValue, ReadsWord, Runs, Stops, StopsConstant, StopsPrefix, StopsSide, StopsValue, StopsWord, after_value, finish_bare, finish_value, group_mode, in_mode, more_tokens, no_tokens, qualified, read_in, side_head, union}
use Rattle.packet_filter.proofs.DecideAddressLemmas.{length_found, mask_found}
use Rattle.packet_filter.proofs.DecideNumberLemmas.{constant_found, number_found, size_found}
use Rattle.packet_filter.proofs.DecideValueLemmas.{other_family_decided, value_found}
use Rattle.packet_filter.proofs.DecidedLemmas.{Decided, Found, either_decided, test_decided}

-- A state after a word, or the kind of an error.
abbrev Outcome : (State → Type 0) → (FilterErrorKind → Type 0) → Type 0
Outcome Leads Fails = ((after : State) × Leads after) ⊎ ((found : FilterErrorKind) × Fails found)

like_value_decided : (text : List ℕ) → Decided (IsLikeValue text)
like_value_decided text =
    either_decided (test_decided (list_any is_digit (take 1 text))) (test_decided (list_any is_colon text))

-- ---- values

operand_kind : (q : Option Head) (text : List ℕ) → (found : FilterErrorKind) × IsOperandKind q text found
operand_kind None text = elim (like_value_decided text) [
  | inl like ↦ (kind.Unqualified, inl (like, refl))
  | inr unlike ↦ (kind.Unknown, inr (unlike, refl))
]
operand_kind (Some q) text = elim (other_family_decided q text) [
  | inl family ↦ (kind.WrongFamily, inl (family, refl))
  | inr none ↦ (value_kind q, inr (none, refl))
]

decides_value : (state : State) (q : Option Head) (text : List ℕ)
    → Outcome (λ after. ReadsValue state q text after) (λ found. StopsValue q text found)
decides_value state None text = inr (operand_kind None text)
decides_value state (Some q) text = by_value (value_found q text) (operand_kind (Some q) text)
  where
    by_value : Found (λ p. IsWordValue q text p) → (found : FilterErrorKind) × IsOperandKind (Some q) text found
        → Outcome (λ after. ReadsValue state (Some q) text after) (λ found. StopsValue (Some q) text found)
    by_value (inl (p, is)) d = inl (after_value (qualified state q) q p, (p, is, refl))
    by_value (inr none) (found, is) = inr (found, (none, is))

decides_side : (state : State) (q : Option Head) (text : List ℕ)
    → Outcome (λ after. ReadsValue state q text after) (λ found. StopsSide q text found)
decides_side state None text = inr (kind.Misplaced, refl)
decides_side state (Some q) text = decides_value state (Some q) text

-- ---- prefix lengths and masks

decides_prefix : (IsPrefix : IpAddr → List ℕ → ℕ → Type 0) (otherwise : FilterErrorKind) (state : State)
    (layer : AddressLayer) (side : Side) (address : IpAddr) (text : List ℕ)
    → Found (λ bits. IsPrefix address text bits)
    → Outcome (λ after. ReadsPrefix IsPrefix state layer side address text after)
    (λ found. StopsPrefix IsPrefix otherwise address text found)
decides_prefix IsPrefix otherwise state layer side address text (inr none) = inr (otherwise, inr (none, refl))
decides_prefix IsPrefix otherwise state layer side address text (inl (bits, is)) =
    by_bits (has_no_host_bits (record { address = address; bits = bits })) refl
  where
    by_bits : (clear : Bool) → has_no_host_bits (record { address = address; bits = bits }) ≡ clear
        → Outcome (λ after. ReadsPrefix IsPrefix state layer side address text after)
        (λ found. StopsPrefix IsPrefix otherwise address text found)
    by_bits true clear =
        inl (
          finish_value state (primitive.Address layer side (record { address = address; bits = bits })),
          (bits, is, clear, refl),
        )
    by_bits false set = inr (kind.HostBits, inl (bits, is, set, refl))

-- ---- numbers

decides_constant : (state : State) (mode_with : ℕ → Mode) (text : List ℕ) → Found (λ n. IsConstant text n)
    → Outcome (λ after. ReadsConstant state mode_with text after) (λ found. StopsConstant text found)
decides_constant state mode_with text (inl (number, is)) =
    inl (in_mode state (mode_with number), (number, is, refl))
decides_constant state mode_with text (inr none) = inr (kind.NotANumber, (none, refl))

decides_vlan : (state : State) (text : List ℕ) → Found (λ id. IsNumberText 4095 text id)
    → Decided (IsTrue (list_any is_digit (take 1 text)))
    → Outcome (λ after. ReadsWord state mode.Vlan text after) (λ found. StopsWord state mode.Vlan text found)
decides_vlan state text (inl (id, is)) d = inl (finish_bare state (primitive.Vlan (Some id)), (id, is, refl))
decides_vlan state text (inr none) (inl digit) = inr (kind.NotAVlan, inl (digit, none, refl))
decides_vlan state text (inr none) (inr other) = inr (kind.Misplaced, inr (other, refl))

-- A word is read in a mode, or has a kind of error.
decides_word : (state : State) (m : Mode) (text : List ℕ)
    → Outcome (λ after. ReadsWord state m text after) (λ found. StopsWord state m text found)
decides_word state (mode.Operand only) text = decides_value state state.head text
decides_word state (mode.Side sided side) text = decides_side state (side_head sided side) text
decides_word state (mode.Length layer side address) text =
    decides_prefix IsLength kind.NotALength state layer side address text (length_found address text)
decides_word state (mode.Mask layer side address) text =
    decides_prefix IsMask kind.NotAMask state layer side address text (mask_found address text)
decides_word state mode.Vlan text =
    decides_vlan state text (number_found 4095 text (lit< tt)) (test_decided (list_any is_digit (take 1 text)))
decides_word state (mode.PacketLength by) text = elim (number_found most_number text (lit< tt)) [
  | inl present ↦ inl (finish_bare state (length_test by present.0), (present.0, present.1, refl))
  | inr none ↦ inr (kind.NotANumber, (none, refl))
]
decides_word state (mode.Offset layer) text =
    decides_constant state (λ number. mode.OffsetEnd layer number) text (constant_found text)
decides_word state (mode.Size layer offset) text = elim (size_found text) [
  | inl present ↦ inl (in_mode state (mode.SizeEnd layer offset present.0), (present.0, present.1, refl))
  | inr none ↦ inr (kind.NotASize, (none, refl))
]
decides_word state (mode.Group comparison) text =
    decides_constant state (λ number. group_mode comparison comparison.relation number) text (constant_found text)
decides_word state (mode.GroupItem comparison bits) text =
    decides_constant state (λ number. mode.GroupEnd comparison (union bits number)) text (constant_found text)
decides_word state m text = inr (kind.Misplaced, refl)

-- ---- tokens

reading_decided : (result : Reading)
    → ((after : State) × (result ≡ Ok after)) ⊎ ((found : FilterErrorKind) × (result ≡ Err found))
reading_decided (Ok after) = inl (after, refl)
reading_decided (Err found) = inr (found, refl)

-- A token is read, or has a kind of error.
pub decides : (most : ℕ) (state : State) (token : Token)
    → ((after : State) × Reads most state token after) ⊎ ((found : FilterErrorKind) × Stops most state token found)
decides most state (word text) = decides_word state state.mode text
decides most state (wrong own) = inr (own, refl)
decides most state token = reading_decided (read_in most state state.mode token)

-- The first token that is not read, with the state before it.
abbrev pub StopsFirst : (most : ℕ) → State → List Placed → Type 0
StopsFirst most state tokens =
    (prefix others : List Placed) × (first : Placed) × (between : State) × (found : FilterErrorKind)
    × (tokens ≡ prefix ++ first ∷ others) × Runs most state (tokens_of prefix) between
    × Stops most between first.token found

read_first : (most : ℕ) (state between : State) (first : Placed) (others : List Placed)
    → Reads most state first.token between
    → ((after : State) × Runs most between (tokens_of others) after) ⊎ StopsFirst most between others
    → ((after : State) × Runs most state (tokens_of (first ∷ others)) after) ⊎ StopsFirst most state (first ∷ others)
read_first most state between first others reads (inl (after, runs)) =
    inl (after, more_tokens state between after first.token (tokens_of others) reads runs)
read_first most state between first others reads (inr (prefix, others', first', between', found, is, runs, stops)) =
    inr (
      first ∷ prefix,
      others',
      first',
      between',
      found,
      ap (λ (list : List Placed). first ∷ list) is,
      more_tokens state between between' first.token (tokens_of prefix) reads runs,
      stops,
    )

-- All tokens are read, or a first one is not.
pub every_token : (most : ℕ) (state : State) (tokens : List Placed)
    → ((after : State) × Runs most state (tokens_of tokens) after) ⊎ StopsFirst most state tokens
every_token most state [] = inl (state, no_tokens state)
every_token most state (first ∷ others) = elim (decides most state first.token) [
  | inl (between, reads) ↦ read_first most state between first others reads (every_token most between others)
  | inr (found, stops) ↦ inr ([], others, first, state, found, refl, no_tokens state, stops)
]
