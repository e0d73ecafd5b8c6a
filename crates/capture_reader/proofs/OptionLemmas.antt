-- A sequence of options is read in one way only.
use Rattle.std.proofs.Common.{◌≡◌, ℕ, zero, suc, ◌+◌, ◌-◌, ◌<◌, ◌≤◌, ◌==◌, ◌&&◌, ◌||◌, Bool, true, false, not}
use Rattle.std.proofs.Common.{nat_le, if◌then◌else◌, List, [], ◌∷◌, ◌++◌, Option, Some, None, length, drop, slice_range}
use Rattle.std.proofs.Common.{refl, sym, ap, subst, ◌∙◌, inl, inr, append_assoc, length-append, length-drop, arith}
use Rattle.std.proofs.lemmas.Bool.{and_from, and_parts, and_left, and_right, cases_Bool, eqb-true, eqb-false, le-leb}
use Rattle.std.proofs.lemmas.Bool.{leb-true, lt-leb, ne_eqb, not-true, not_from_false, not_from_true, or_cases}
use Rattle.ep_base.specs.Bytes.{AreBytes}
use Rattle.ep_base.proofs.BytesLemmas.{AreBytes-drop}
use Rattle.capture_reader.specs.Numbers.{word16, word16_at}
use Rattle.capture_reader.specs.Options.{AreOptions, FitsOption, PlainOption, after_options, ends_options, first_value}
use Rattle.capture_reader.specs.Options.{has_option}
use Rattle.capture_reader.specs.Options.{option_bytes, option_len, option_of, options_bytes, options_end, options_in}
use Rattle.capture_reader.specs.Options.{options_of, padding_of, value_of}
use Rattle.capture_reader.specs.declared.byte_order.ByteOrder.{ByteOrder}
use Rattle.capture_reader.proofs.NumberLemmas.{length-word16, range_prefix, range_read, word16_at-fits, word16_prefix}
use Rattle.capture_reader.proofs.NumberLemmas.{word16_read}

-- ---- one option

positive : (n : ℕ) → (n ≡ 0 → ⊥) → 0 < n
positive zero some = absurd (some refl)
positive (suc n) some = omega arith

-- A complete option has at least four bytes and a code that is not 0, and fits in the bytes.
pub has_facts : (n code len : ℕ) → (nat_le 4 n && (not (code == 0) && nat_le len n)) ≡ true
    → (4 ≤ n) × (0 < code) × (len ≤ n)
has_facts n code len has =
    let outer = and_parts (nat_le 4 n) (not (code == 0) && nat_le len n) has in
    let inner = and_parts (not (code == 0)) (nat_le len n) outer.1 in
    let some = eqb-false code 0 (not-true (code == 0) inner.0) in
    (leb-true 4 n outer.0, positive code some, leb-true len n inner.1)

pub has_from : (n code len : ℕ) → 4 ≤ n → 0 < code → len ≤ n
    → (nat_le 4 n && (not (code == 0) && nat_le len n)) ≡ true
has_from n code len long some within =
    and_from (nat_le 4 n) (not (code == 0) && nat_le len n) (le-leb 4 n long)
    (and_from (not (code == 0)) (nat_le len n)
    (not_from_false (code == 0) (ne_eqb code 0 (λ none. omega (arith, some, none)))) (le-leb len n within))

-- The bytes of an option are its code, its length, its value and its padding; the next bytes follow.
option_parts : (order : ByteOrder) (option : PlainOption) (rest : List ℕ)
    → option_bytes order option ++ rest
    ≡ word16 order option.code ++ (word16 order (length option.value) ++ (option.value ++ (option.padding ++ rest)))
option_parts order option rest = simp append_assoc

length-option : (order : ByteOrder) (option : PlainOption)
    → length (option_bytes order option) ≡ 4 + length option.value + length option.padding
length-option order option =
    simp length-append
    (omega (arith, length-word16 order option.code, length-word16 order (length option.value)))

-- The bytes begin with the option that is read from them.
option_prefix : (order : ByteOrder) (bytes : List ℕ) → AreBytes bytes → has_option order bytes ≡ true
    → FitsOption (option_of order bytes)
    × (bytes ≡ option_bytes order (option_of order bytes) ++ drop (option_len order bytes) bytes)
option_prefix order bytes fits has =
    let code = word16_at order bytes 0 in
    let len = word16_at order bytes 2 in
    let option = option_of order bytes in
    let rest = drop (option_len order bytes) bytes in
    let facts = has_facts (length bytes) code (option_len order bytes) has in
    let long : 4 ≤ length bytes = facts.0 in
    let within : 4 + len + padding_of len ≤ length bytes = facts.2 in
    let value = range_prefix bytes 4 len (omega (arith, within)) in
    let padding = range_prefix bytes (4 + len) (padding_of len) within in
    let parts : drop 4 bytes ≡ option.value ++ (option.padding ++ rest) =
    value.1 ∙ ap (λ (s : List ℕ). option.value ++ s) padding.1 in
    let second : drop 2 bytes ≡ word16 order (length option.value) ++ drop 4 bytes =
    word16_prefix order bytes 2 fits (omega arith)
    ∙ ap (λ (n : ℕ). word16 order n ++ drop 4 bytes) (sym value.0) in (
      record {
        code = word16_at-fits order bytes 0 fits;
        some = facts.1;
        value = omega (arith, value.0, word16_at-fits order bytes 2 fits);
        padding = padding.0 ∙ ap padding_of (sym value.0);
      },
      word16_prefix order bytes 0 fits (omega arith)
          ∙ ap (λ (s : List ℕ). word16 order code ++ s)
          (second ∙ ap (λ (s : List ℕ). word16 order (length option.value) ++ s) parts)
          ∙ sym (option_parts order option rest),
    )

-- The option is found at the start of the bytes.
record Finds (order : ByteOrder) (bytes : List ℕ) (option : PlainOption) (rest : List ℕ) : Type 0 where
  has : has_option order bytes ≡ true
  is : option_of order bytes ≡ option
  after : drop (option_len order bytes) bytes ≡ rest

option_read : (order : ByteOrder) (bytes : List ℕ) (option : PlainOption) (rest : List ℕ) → FitsOption option
    → bytes ≡ option_bytes order option ++ rest → Finds order bytes option rest
option_read order bytes option rest fits is =
    let parts = is ∙ option_parts order option rest in
    let code = word16_read order option.code 0 bytes _ fits.code parts in
    let len = word16_read order (length option.value) 2 bytes _ fits.value code.1 in
    let value = range_read bytes option.value (option.padding ++ rest) 4 (word16_at order bytes 2) len.1 len.0 in
    let filled : padding_of (word16_at order bytes 2) ≡ length option.padding =
    ap padding_of len.0 ∙ sym fits.padding in
    let padding = range_read bytes option.padding rest (4 + word16_at order bytes 2)
    (padding_of (word16_at order bytes 2)) value.1 filled in
    let size : length bytes ≡ 4 + length option.value + length option.padding + length rest =
    ap length is ∙ length-append (option_bytes order option) rest
    ∙ ap (λ (n : ℕ). n + length rest) (length-option order option) in
    let within : option_len order bytes ≤ length bytes = omega (arith, size, len.0, filled) in
    let some : 0 < word16_at order bytes 0 = omega (arith, code.0, fits.some) in
    record {
      has = has_from (length bytes) (word16_at order bytes 0) (option_len order bytes) (omega (arith, size)) some
          within;
      is = λ i. record { code = code.0 i; value = value.0 i; padding = padding.0 i };
      after = padding.1;
    }

-- ---- sequences of options

options_more : (most : ℕ) (order : ByteOrder) (bytes : List ℕ) → has_option order bytes ≡ true
    → (options_in (suc most) order bytes
    ≡ option_of order bytes ∷ options_in most order (drop (option_len order bytes) bytes))
    × (after_options (suc most) order bytes ≡ after_options most order (drop (option_len order bytes) bytes))
options_more most order bytes has =
    let next = drop (option_len order bytes) bytes in (
      ap (λ (b : Bool). if b then option_of order bytes ∷ options_in most order next else []) has,
      ap (λ (b : Bool). if b then after_options most order next else bytes) has,
    )

-- Bytes that begin with no option contain none.
pub options_stop : (most : ℕ) (order : ByteOrder) (bytes : List ℕ) → has_option order bytes ≡ false
    → (options_in most order bytes ≡ []) × (after_options most order bytes ≡ bytes)
options_stop zero order bytes stuck = (refl, refl)
options_stop (suc most) order bytes stuck =
    let next = drop (option_len order bytes) bytes in (
      ap (λ (b : Bool). if b then option_of order bytes ∷ options_in most order next else []) stuck,
      ap (λ (b : Bool). if b then after_options most order next else bytes) stuck,
    )

-- Bytes that begin with an option contain it and the options after it.
pub options_go : (most : ℕ) (order : ByteOrder) (bytes : List ℕ) → has_option order bytes ≡ true → length bytes ≤ most
    → (length (drop (option_len order bytes) bytes) ≤ most - 1)
    × (options_in most order bytes
    ≡ option_of order bytes ∷ options_in (most - 1) order (drop (option_len order bytes) bytes))
    × (after_options most order bytes ≡ after_options (most - 1) order (drop (option_len order bytes) bytes))
options_go zero order bytes has within =
    let facts = has_facts (length bytes) (word16_at order bytes 0) (option_len order bytes) has in
    absurd (omega (arith, facts.0, within))
options_go (suc most) order bytes has within =
    let facts = has_facts (length bytes) (word16_at order bytes 0) (option_len order bytes) has in
    let next = drop (option_len order bytes) bytes in
    let one_less : suc most - 1 ≡ most = omega arith in
    let more = options_more most order bytes has in (
      omega (arith, facts.0, within, length-drop (option_len order bytes) bytes),
      more.0 ∙ ap (λ (k : ℕ). option_of order bytes ∷ options_in k order next) (sym one_less),
      more.1 ∙ ap (λ (k : ℕ). after_options k order next) (sym one_less),
    )

-- The bytes are these options and then bytes that begin with none.
pub record Parses (order : ByteOrder) (bytes : List ℕ) (options : List PlainOption) (ending : List ℕ) : Type 0 where
  pub are : AreOptions options
  pub parts : bytes ≡ options_bytes order options ++ ending
  pub stuck : has_option order ending ≡ false

-- Fewer than four bytes begin with no option.
few_stuck : (order : ByteOrder) (bytes : List ℕ) → length bytes < 4 → has_option order bytes ≡ false
few_stuck order bytes few =
    and_left (nat_le 4 (length bytes))
    (not (word16_at order bytes 0 == 0) && nat_le (option_len order bytes) (length bytes))
    (lt-leb 4 (length bytes) few)

parsed_by : (most : ℕ) (order : ByteOrder) (bytes : List ℕ) → AreBytes bytes → length bytes ≤ most
    → Parses order bytes (options_in most order bytes) (after_options most order bytes)
parsed_by zero order bytes fits within =
    record { are = tt; parts = refl; stuck = few_stuck order bytes (omega arith) }
parsed_by (suc most) order bytes fits within =
    elim (cases_Bool (has_option order bytes)) [
      | inr stuck ↦
          let stop = options_stop (suc most) order bytes stuck in
          subst (λ os. Parses order bytes os (after_options (suc most) order bytes)) (sym stop.0)
          (subst (Parses order bytes []) (sym stop.1) (record { are = tt; parts = refl; stuck = stuck }))
      | inl has ↦
          let facts = has_facts (length bytes) (word16_at order bytes 0) (option_len order bytes) has in
          let next = drop (option_len order bytes) bytes in
          let prefix = option_prefix order bytes fits has in
          let others = parsed_by most order next (AreBytes-drop (option_len order bytes) bytes fits)
          (omega (arith, facts.0, within, length-drop (option_len order bytes) bytes)) in
          let more = options_more most order bytes has in
          let first = option_bytes order (option_of order bytes) in
          let options = options_in most order next in
          let ending = after_options most order next in
          subst (λ os. Parses order bytes os (after_options (suc most) order bytes)) (sym more.0)
          (subst (Parses order bytes (option_of order bytes ∷ options)) (sym more.1) (record {
            are = (prefix.0, others.are);
            parts = prefix.1 ∙ ap (λ (s : List ℕ). first ++ s) others.parts
                ∙ sym (append_assoc first (options_bytes order options) ending);
            stuck = others.stuck;
          }))
    ]

-- All bytes are options and then bytes that begin with none.
pub parsed : (order : ByteOrder) (bytes : List ℕ) → AreBytes bytes
    → Parses order bytes (options_of order bytes) (options_end order bytes)
parsed order bytes fits = parsed_by (length bytes) order bytes fits (omega arith)

parses_so : (options : List PlainOption) (most : ℕ) (order : ByteOrder) (bytes ending : List ℕ)
    → Parses order bytes options ending → length bytes ≤ most
    → (options_in most order bytes ≡ options) × (after_options most order bytes ≡ ending)
parses_so [] most order bytes ending is within =
    let stuck : has_option order bytes ≡ false = ap (has_option order) is.parts ∙ is.stuck in
    let stop = options_stop most order bytes stuck in (stop.0, stop.1 ∙ is.parts)
parses_so (option ∷ options) most order bytes ending is within =
    let rest = options_bytes order options ++ ending in
    let found = option_read order bytes option rest is.are.0
    (is.parts ∙ append_assoc (option_bytes order option) (options_bytes order options) ending) in
    let go = options_go most order bytes found.has within in
    let others = parses_so options (most - 1) order (drop (option_len order bytes) bytes) ending
    (record { are = is.are.1; parts = found.after; stuck = is.stuck }) go.0 in (
      go.1 ∙ (λ i. found.is i ∷ others.0 i),
      go.2 ∙ others.1,
    )

-- Bytes are a sequence of options in at most one way.
pub one_parse : (order : ByteOrder) (bytes : List ℕ) (options : List PlainOption) (ending : List ℕ)
    → Parses order bytes options ending → (options_of order bytes ≡ options) × (options_end order bytes ≡ ending)
one_parse order bytes options ending is = parses_so options (length bytes) order bytes ending is (omega arith)

-- Bytes at which the options end begin with no option.
end_cases : (n code len : ℕ) → ((n == 0) || (nat_le 2 n && (code == 0))) ≡ true
    → (nat_le 4 n && (not (code == 0) && nat_le len n)) ≡ false
end_cases n code len ends =
    elim (or_cases (n == 0) (nat_le 2 n && (code == 0)) ends) [
      | inl none ↦
          let is : n ≡ 0 = eqb-true n 0 none in
          and_left (nat_le 4 n) (not (code == 0) && nat_le len n) (lt-leb 4 n (omega (arith, is)))
      | inr stated ↦
          let zero_code = (and_parts (nat_le 2 n) (code == 0) stated).1 in
          and_right (nat_le 4 n) (not (code == 0) && nat_le len n)
          (and_left (not (code == 0)) (nat_le len n) (not_from_true (code == 0) zero_code))
    ]

pub ends_stuck : (order : ByteOrder) (bytes : List ℕ) → ends_options order bytes ≡ true → has_option order bytes ≡ false
ends_stuck order bytes ends = end_cases (length bytes) (word16_at order bytes 0) (option_len order bytes) ends

-- ---- values of options, as they are read

-- The rest of the bytes is not yet read, and these values of the options 9 and 14 were found before it.
pub record Reported (order : ByteOrder) (bytes rest : List ℕ) (resolution offset : Option (List ℕ)) : Type 0 where
  pub most : ℕ
  pub within : length rest ≤ most
  pub resolution_is : first_value resolution (value_of 9 (options_in most order rest))
      ≡ value_of 9 (options_of order bytes)
  pub offset_is : first_value offset (value_of 14 (options_in most order rest)) ≡ value_of 14 (options_of order bytes)
  pub ending_is : after_options most order rest ≡ options_end order bytes

pub reported_start : (order : ByteOrder) (bytes : List ℕ) → Reported order bytes bytes None None
reported_start order bytes =
    record { most = length bytes; within = omega arith; resolution_is = refl; offset_is = refl; ending_is = refl }

-- A value is kept if it is the first one with its code.
value_more : (wanted code : ℕ) (found : Option (List ℕ)) (value : List ℕ) (others : Option (List ℕ))
    → first_value (first_value found (if code == wanted then Some value else None)) others
    ≡ first_value found (if code == wanted then Some value else others)
value_more wanted code (Some first) value others = refl
value_more wanted code None value others =
    elim (cases_Bool (code == wanted)) [
      | inl is ↦
          ap (λ (b : Bool). first_value (if b then Some value else None) others) is
          ∙ sym (ap (λ (b : Bool). if b then Some value else others) is)
      | inr other ↦
          ap (λ (b : Bool). first_value (if b then Some value else None) others) other
          ∙ sym (ap (λ (b : Bool). if b then Some value else others) other)
    ]

pub reported_more : (order : ByteOrder) (bytes rest : List ℕ) (resolution offset : Option (List ℕ))
    → Reported order bytes rest resolution offset → has_option order rest ≡ true
    → let option = option_of order rest in
    Reported order bytes (drop (option_len order rest) rest)
    (first_value resolution (if option.code == 9 then Some option.value else None))
    (first_value offset (if option.code == 14 then Some option.value else None))
reported_more order bytes rest resolution offset reported has =
    let option = option_of order rest in
    let go = options_go reported.most order rest has reported.within in
    let others = options_in (reported.most - 1) order (drop (option_len order rest) rest) in
    let Found : ℕ → Option (List ℕ) → List PlainOption → Option (List ℕ) = λ code found options.
    first_value found (value_of code options) in
    record {
      most = reported.most - 1;
      within = go.0;
      resolution_is = value_more 9 option.code resolution option.value (value_of 9 others)
          ∙ sym (ap (Found 9 resolution) go.1) ∙ reported.resolution_is;
      offset_is = value_more 14 option.code offset option.value (value_of 14 others)
          ∙ sym (ap (Found 14 offset) go.1) ∙ reported.offset_is;
      ending_is = sym go.2 ∙ reported.ending_is;
    }

-- Another option was read.
pub reported_step : (order : ByteOrder) (bytes rest : List ℕ)
    (resolution offset now_resolution now_offset : Option (List ℕ))
    (code len filled : ℕ) (value next : List ℕ) → Reported order bytes rest resolution offset
    → has_option order rest ≡ true → code ≡ word16_at order rest 0 → len ≡ word16_at order rest 2
    → filled ≡ padding_of len → value ≡ slice_range rest 4 (4 + len) → next ≡ drop (4 + len + filled) rest
    → now_resolution ≡ first_value resolution (if code == 9 then Some value else None)
    → now_offset ≡ first_value offset (if code == 14 then Some value else None)
    → Reported order bytes next now_resolution now_offset
reported_step order bytes rest resolution offset now_resolution now_offset code len filled value next reported has code_is
    len_is
    filled_is value_is next_is resolution_is offset_is =
    let option = option_of order rest in
    let complete : option_len order rest ≡ 4 + len + filled =
    (λ i. 4 + sym len_is i + padding_of (sym len_is i)) ∙ ap (λ (n : ℕ). 4 + len + n) (sym filled_is) in
    let after : drop (option_len order rest) rest ≡ next =
    ap (λ (n : ℕ). drop n rest) complete ∙ sym next_is in
    let shown : option.value ≡ value =
    ap (λ (n : ℕ). slice_range rest 4 (4 + n)) (sym len_is) ∙ sym value_is in
    let Choice : ℕ → ℕ → List ℕ → Option (List ℕ) = λ wanted n v. if n == wanted then Some v else None in
    let first : first_value resolution (Choice 9 option.code option.value) ≡ now_resolution =
    (λ i. first_value resolution (Choice 9 (sym code_is i) (shown i))) ∙ sym resolution_is in
    let second : first_value offset (Choice 14 option.code option.value) ≡ now_offset =
    (λ i. first_value offset (Choice 14 (sym code_is i) (shown i))) ∙ sym offset_is in
    subst (λ s. Reported order bytes s now_resolution now_offset) after
    (subst (λ v. Reported order bytes (drop (option_len order rest) rest) v now_offset) first
    (subst (Reported order bytes (drop (option_len order rest) rest)
    (first_value resolution (Choice 9 option.code option.value))) second
    (reported_more order bytes rest resolution offset reported has)))

-- If no option is left, the values found are final.
value_none : (found : Option (List ℕ)) → first_value found None ≡ found
value_none None = refl
value_none (Some value) = refl

pub reported_end : (order : ByteOrder) (bytes rest : List ℕ) (resolution offset : Option (List ℕ))
    → Reported order bytes rest resolution offset → has_option order rest ≡ false
    → (resolution ≡ value_of 9 (options_of order bytes)) × (offset ≡ value_of 14 (options_of order bytes))
    × (rest ≡ options_end order bytes)
reported_end order bytes rest resolution offset reported stuck =
    let stop = options_stop reported.most order rest stuck in
    let Found : ℕ → Option (List ℕ) → List PlainOption → Option (List ℕ) = λ code found options.
    first_value found (value_of code options) in (
      sym (value_none resolution) ∙ sym (ap (Found 9 resolution) stop.0) ∙ reported.resolution_is,
      sym (value_none offset) ∙ sym (ap (Found 14 offset) stop.0) ∙ reported.offset_is,
      sym stop.1 ∙ reported.ending_is,
    )
