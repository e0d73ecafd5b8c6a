-- The option at the start of bytes, and the option read from them.
use Rattle.std.proofs.Common.{◌≡◌, ◌⊎◌, ℕ, ◌+◌, ◌*◌, ◌/◌, ◌%◌, ◌^◌, ◌<◌, ◌≤◌, ◌==◌, Bool, true, false, if◌then◌else◌, nat_lt, slice_index, get_or}
use Rattle.std.proofs.Common.{List, [], ◌∷◌, ◌++◌, length, drop, Option, Some, None, refl, sym, ap, ap₂, subst, ◌∙◌, inl, inr, arith}
use Rattle.std.proofs.lemmas.Grind.{common_steps}
use Rattle.std.proofs.lemmas.Bool.{cases_eq, cond-false, ne_eqb, true≢false}
use Rattle.std.proofs.lemmas.Option.{none-some}
use Rattle.std.proofs.lemmas.List.{drop-drop, get_or-drop, length-drop}
use Rattle.ep_base.specs.Bytes.{AreBytes, long_at, word_at}
use Rattle.ep_base.specs.Tables.{first_row}
use Rattle.ep_base.proofs.BytesLemmas.{elements, drop-elements, AreBytes-drop, long_cells, word_cells}
use Rattle.ep_base.proofs.TableLemmas.{IsReadBy}
use Rattle.ep_transport.specs.declared.tcp_option_element.TcpOptionElement.{TcpOptionElement}
use Rattle.ep_transport.specs.declared.tcp_option_element.TcpOptionElement.TheVariants.{Noop, MaximumSegmentSize, WindowScale, SelectiveAcknowledgementPermitted, SelectiveAcknowledgement, Timestamp}
use Rattle.ep_transport.specs.declared.tcp_option_element.TcpOptionReadError.TheVariants.{UnknownId}
use Rattle.ep_transport.specs.TcpOptionBytes.{Block, FitsBlock, FitsOption, block_bytes, option_bytes, as_read, IsOption, IsNextOption, is_blocks_size, sized_rows, blocks_rows, kind_rows, option_rows}
use Rattle.ep_transport.specs.TcpOptionSteps.{block_at}

-- ---- blocks

block_fits : (bytes : List ℕ) (i : ℕ) → AreBytes bytes → FitsBlock (block_at bytes i)
block_fits bytes i fits = (
  omega (arith, fits i, fits (i + 1), fits (i + 2), fits (i + 2 + 1)),
  omega (arith, fits (i + 4), fits (i + 4 + 1), fits (i + 4 + 2), fits (i + 4 + 2 + 1)),
)

-- At least 8 bytes begin with the bytes of the block read from them.
block_prefix : (s : List ℕ) → AreBytes s → 8 ≤ length s → s ≡ block_bytes (block_at s 0) ++ drop 8 s
unfolding elements
block_prefix s fits long =
    drop-elements 8 0 s long ∙ (λ i. long_cells s fits 0 refl i ++ long_cells s fits 4 refl i ++ drop 8 s)

block_drop : (bytes : List ℕ) (i : ℕ) → block_at (drop i bytes) 0 ≡ block_at bytes i
block_drop bytes i =
    let g : (k m : ℕ) → i + k ≡ m → get_or (drop i bytes) k 0 ≡ get_or bytes m 0 =
    λ k m same. get_or-drop i bytes k 0 ∙ ap (λ (n : ℕ). get_or bytes n 0) same in
    let a : long_at (drop i bytes) 0 ≡ long_at bytes i =
    omega (
      arith,
      g 0 i (omega arith),
      g 1 (i + 1) (omega arith),
      g 2 (i + 2) (omega arith),
      g 3 (i + 2 + 1) (omega arith),
    ) in
    let b : long_at (drop i bytes) 4 ≡ long_at bytes (i + 4) =
    omega (
      arith,
      g 4 (i + 4) (omega arith),
      g 5 (i + 4 + 1) (omega arith),
      g 6 (i + 4 + 2) (omega arith),
      g 7 (i + 4 + 2 + 1) (omega arith),
    ) in
    λ j. (a j, b j)

-- The bytes from an index on are those of the block there, followed by the rest.
block_present : (bytes : List ℕ) (i j : ℕ) → i + 8 ≡ j → AreBytes bytes → j ≤ length bytes
    → drop i bytes ≡ block_bytes (block_at bytes i) ++ drop j bytes
block_present bytes i j next fits within =
    let after : drop 8 (drop i bytes) ≡ drop j bytes = drop-drop 8 i bytes ∙ ap (λ (k : ℕ). drop k bytes) next in
    block_prefix (drop i bytes) (AreBytes-drop i bytes fits) (omega (arith, length-drop i bytes, next, within))
    ∙ ap₂ (λ (b : Block) (s : List ℕ). block_bytes b ++ s) (block_drop bytes i) after

-- ---- options at the start of bytes

-- At least 2 bytes begin with their first two.
two_prefix : (bytes : List ℕ) (kind size : ℕ) → 2 ≤ length bytes → slice_index bytes 0 ≡ kind
    → slice_index bytes 1 ≡ size → bytes ≡ kind ∷ size ∷ drop 2 bytes
unfolding elements
two_prefix bytes kind size long a b = drop-elements 2 0 bytes long ∙ (λ i. a i ∷ b i ∷ drop 2 bytes)

pub timestamp_present : (bytes : List ℕ) → AreBytes bytes → 10 ≤ length bytes → slice_index bytes 0 ≡ 8
    → slice_index bytes 1 ≡ 10
    → IsOption bytes (Timestamp (long_at bytes 2) (long_at bytes 6), drop 10 bytes)
timestamp_present bytes fits long kind size =
    let block = block_present bytes 2 10 refl fits long in
    record {
      fits = block_fits bytes 2 fits;
      blocks = refl;
      parts = two_prefix bytes 8 10 (omega arith) kind size ∙ ap (λ (s : List ℕ). 8 ∷ 10 ∷ s) block;
    }

-- the block at index `at`, or `None` if an option of `size` bytes ends there
abbrev pub block_within : List ℕ → ℕ → ℕ → Option Block
block_within bytes size at = if nat_lt at size then Some (block_at bytes at) else None

-- the blocks after the first one
abbrev pub others_at : List ℕ → ℕ → List (Option Block)
others_at bytes size = block_within bytes size 10 ∷ block_within bytes size 18 ∷ block_within bytes size 26 ∷ []

size_cases : (size : ℕ) → is_blocks_size size ≡ true → (size ≡ 10) ⊎ ((size ≡ 18) ⊎ ((size ≡ 26) ⊎ (size ≡ 34)))
size_cases size is = grind (arith, common_steps)

pub blocks_present : (bytes : List ℕ) (size : ℕ) → AreBytes bytes → slice_index bytes 0 ≡ 5 → slice_index bytes 1 ≡ size
    → is_blocks_size size ≡ true → size ≤ length bytes
    → IsOption bytes (SelectiveAcknowledgement (block_at bytes 2) (others_at bytes size), drop size bytes)
blocks_present bytes size fits kind second is within =
    let P : ℕ → Type 0 =
    λ n. n ≤ length bytes → slice_index bytes 1 ≡ n
    → IsOption bytes (SelectiveAcknowledgement (block_at bytes 2) (others_at bytes n), drop n bytes) in
    let prefix : (n : ℕ) → 10 ≤ n → n ≤ length bytes → slice_index bytes 1 ≡ n
    → bytes ≡ 5 ∷ n ∷ (block_bytes (block_at bytes 2) ++ drop 10 bytes) =
    λ n least long same. two_prefix bytes 5 n (omega arith) kind same
    ∙ ap (λ (s : List ℕ). 5 ∷ n ∷ s) (block_present bytes 2 10 refl fits (omega arith)) in
    let second_block : 18 ≤ length bytes → drop 10 bytes ≡ block_bytes (block_at bytes 10) ++ drop 18 bytes =
    λ long. block_present bytes 10 18 refl fits long in
    let third_block : 26 ≤ length bytes → drop 18 bytes ≡ block_bytes (block_at bytes 18) ++ drop 26 bytes =
    λ long. block_present bytes 18 26 refl fits long in
    let fourth_block : 34 ≤ length bytes → drop 26 bytes ≡ block_bytes (block_at bytes 26) ++ drop 34 bytes =
    λ long. block_present bytes 26 34 refl fits long in
    let b2 = block_bytes (block_at bytes 2) in
    let b10 = block_bytes (block_at bytes 10) in
    let b18 = block_bytes (block_at bytes 18) in
    let at_10 : P 10 = λ long same. record {
      fits = (block_fits bytes 2 fits, refl, tt);
      blocks = refl;
      parts = prefix 10 (omega arith) long same;
    } in
    let at_18 : P 18 = λ long same. record {
      fits = (block_fits bytes 2 fits, refl, (block_fits bytes 10 fits, tt));
      blocks = refl;
      parts = prefix 18 (omega arith) long same ∙ ap (λ (s : List ℕ). 5 ∷ 18 ∷ (b2 ++ s)) (second_block long);
    } in
    let at_26 : P 26 = λ long same. record {
      fits = (block_fits bytes 2 fits, refl, (block_fits bytes 10 fits, (block_fits bytes 18 fits, tt)));
      blocks = refl;
      parts = prefix 26 (omega arith) long same
          ∙ ap (λ (s : List ℕ). 5 ∷ 26 ∷ (b2 ++ s)) (second_block (omega arith))
          ∙ ap (λ (s : List ℕ). 5 ∷ 26 ∷ (b2 ++ (b10 ++ s))) (third_block long);
    } in
    let at_34 : P 34 = λ long same. record {
      fits = (
        block_fits bytes 2 fits,
        refl,
        (block_fits bytes 10 fits, (block_fits bytes 18 fits, (block_fits bytes 26 fits, tt))),
      );
      blocks = refl;
      parts = prefix 34 (omega arith) long same
          ∙ ap (λ (s : List ℕ). 5 ∷ 34 ∷ (b2 ++ s)) (second_block (omega arith))
          ∙ ap (λ (s : List ℕ). 5 ∷ 34 ∷ (b2 ++ (b10 ++ s))) (third_block (omega arith))
          ∙ ap (λ (s : List ℕ). 5 ∷ 34 ∷ (b2 ++ (b10 ++ (b18 ++ s)))) (fourth_block long);
    } in
    elim (size_cases size is) [
      | inl e ↦ subst P (sym e) at_10 within second
      | inr (inl e) ↦ subst P (sym e) at_18 within second
      | inr (inr (inl e)) ↦ subst P (sym e) at_26 within second
      | inr (inr (inr e)) ↦ subst P (sym e) at_34 within second
    ]

-- ---- kinds

-- The kind is unknown.
record IsUnknown (kind : ℕ) : Type 0 where
  k0 : (kind == 0) ≡ false
  k1 : (kind == 1) ≡ false
  k2 : (kind == 2) ≡ false
  k3 : (kind == 3) ≡ false
  k4 : (kind == 4) ≡ false
  k5 : (kind == 5) ≡ false
  k8 : (kind == 8) ≡ false

-- A property of each known kind and of all unknown kinds holds of every kind.
kind_cases : (P : ℕ → Type 0) → P 0 → P 1 → P 2 → P 3 → P 4 → P 5 → P 8 → ((kind : ℕ) → IsUnknown kind → P kind)
    → (kind : ℕ) → P kind
kind_cases P p0 p1 p2 p3 p4 p5 p8 unknown kind =
    elim (cases_eq kind 0) [
      | inl e ↦ subst P (sym e) p0
      | inr n0 ↦ elim (cases_eq kind 1) [
        | inl e ↦ subst P (sym e) p1
        | inr n1 ↦ elim (cases_eq kind 2) [
          | inl e ↦ subst P (sym e) p2
          | inr n2 ↦ elim (cases_eq kind 3) [
            | inl e ↦ subst P (sym e) p3
            | inr n3 ↦ elim (cases_eq kind 4) [
              | inl e ↦ subst P (sym e) p4
              | inr n4 ↦ elim (cases_eq kind 5) [
                | inl e ↦ subst P (sym e) p5
                | inr n5 ↦ elim (cases_eq kind 8) [
                  | inl e ↦ subst P (sym e) p8
                  | inr n8 ↦ unknown kind (record {
                    k0 = ne_eqb kind 0 n0;
                    k1 = ne_eqb kind 1 n1;
                    k2 = ne_eqb kind 2 n2;
                    k3 = ne_eqb kind 3 n3;
                    k4 = ne_eqb kind 4 n4;
                    k5 = ne_eqb kind 5 n5;
                    k8 = ne_eqb kind 8 n8;
                  })
                ]
              ]
            ]
          ]
        ]
      ]
    ]

unknown_rows : (kind : ℕ) (bytes : List ℕ) → IsUnknown kind → kind_rows kind bytes ≡ (true, UnknownId kind) ∷ []
unknown_rows kind bytes u =
    cond-false (kind == 0) _ _ u.k0 ∙ cond-false (kind == 1) _ _ u.k1 ∙ cond-false (kind == 2) _ _ u.k2
    ∙ cond-false (kind == 3) _ _ u.k3
    ∙ cond-false (kind == 4) _ _ u.k4 ∙ cond-false (kind == 5) _ _ u.k5 ∙ cond-false (kind == 8) _ _ u.k8

-- ---- reading

-- the option of this kind read from the bytes, and the rest
abbrev pub kind_read : ℕ → List ℕ → Option (TcpOptionElement × List ℕ)
kind_read kind bytes =
    if kind == 0 then None
    else if kind == 1 then Some (Noop, drop 1 bytes)
    else if kind == 2 then Some (MaximumSegmentSize (word_at bytes 2), drop 4 bytes)
    else if kind == 3 then Some (WindowScale (slice_index bytes 2), drop 3 bytes)
    else if kind == 4 then Some (SelectiveAcknowledgementPermitted, drop 2 bytes)
    else if kind == 5 then Some (
      SelectiveAcknowledgement (block_at bytes 2) (others_at bytes (slice_index bytes 1)),
      drop (slice_index bytes 1) bytes,
    )
    else if kind == 8 then Some (Timestamp (long_at bytes 2) (long_at bytes 6), drop 10 bytes)
    else None

abbrev pub option_read : List ℕ → Option (TcpOptionElement × List ℕ)
option_read [] = None
option_read (kind ∷ rest) = kind_read kind (kind ∷ rest)

-- Bytes that no row for a fixed length rejects have this length.
sized_present : (kind size : ℕ) (bytes : List ℕ) → first_row (sized_rows kind size bytes) ≡ None → (size ≤ length bytes)
    × (slice_index bytes 1 ≡ size)
sized_present kind size bytes none = grind (arith, common_steps)

sized_none : (kind size : ℕ) (bytes : List ℕ) → size ≤ length bytes → slice_index bytes 1 ≡ size
    → first_row (sized_rows kind size bytes) ≡ None
sized_none kind size bytes long same = grind (arith, common_steps)

blocks_rows_present : (bytes : List ℕ) → first_row (blocks_rows bytes) ≡ None
    → (is_blocks_size (slice_index bytes 1) ≡ true) × (slice_index bytes 1 ≤ length bytes)
blocks_rows_present bytes none = grind (arith, common_steps)

blocks_rows_none : (bytes : List ℕ) (size : ℕ) → slice_index bytes 1 ≡ size → 2 ≤ length bytes
    → is_blocks_size size ≡ true → size ≤ length bytes → first_row (blocks_rows bytes) ≡ None
blocks_rows_none bytes size same two is within = grind (arith, common_steps)

-- Bytes with the kind and length of an option of fixed length are that option with the data read from them.
size_present : (bytes : List ℕ) → AreBytes bytes → 4 ≤ length bytes → slice_index bytes 0 ≡ 2 → slice_index bytes 1 ≡ 4
    → IsOption bytes (MaximumSegmentSize (word_at bytes 2), drop 4 bytes)
unfolding elements
size_present bytes fits long kind size = record {
  fits = omega (arith, fits 2, fits 3);
  blocks = refl;
  parts = drop-elements 4 0 bytes long ∙ (λ i. kind i ∷ size i ∷ (word_cells bytes fits 2 refl i ++ drop 4 bytes));
}

shift_present : (bytes : List ℕ) → AreBytes bytes → 3 ≤ length bytes → slice_index bytes 0 ≡ 3 → slice_index bytes 1 ≡ 3
    → IsOption bytes (WindowScale (slice_index bytes 2), drop 3 bytes)
unfolding elements
shift_present bytes fits long kind size = record {
  fits = omega (arith, fits 2);
  blocks = refl;
  parts = drop-elements 3 0 bytes long ∙ (λ i. kind i ∷ size i ∷ slice_index bytes 2 ∷ drop 3 bytes);
}

reads : (bytes : List ℕ) → AreBytes bytes → first_row (option_rows bytes) ≡ None
    → IsNextOption bytes (option_read bytes)
reads [] fits none = tt
reads (kind ∷ rest) fits none =
    let P : ℕ → Type 0 =
    λ k. AreBytes (k ∷ rest) → first_row (kind_rows k (k ∷ rest)) ≡ None
    → IsNextOption (k ∷ rest) (kind_read k (k ∷ rest)) in
    let at_0 : P 0 = λ bytes_fit passed. refl in
    let at_1 : P 1 = λ bytes_fit passed. record { fits = tt; blocks = refl; parts = refl } in
    let at_2 : P 2 =
    λ bytes_fit passed. let present = sized_present 2 4 (2 ∷ rest) passed in
    size_present (2 ∷ rest) bytes_fit present.0 refl present.1 in
    let at_3 : P 3 =
    λ bytes_fit passed. let present = sized_present 3 3 (3 ∷ rest) passed in
    shift_present (3 ∷ rest) bytes_fit present.0 refl present.1 in
    let at_4 : P 4 = λ bytes_fit passed.
    let present = sized_present 4 2 (4 ∷ rest) passed in
    record { fits = tt; blocks = refl; parts = two_prefix (4 ∷ rest) 4 2 present.0 refl present.1 }
    in
    let at_5 : P 5 =
    λ bytes_fit passed. let present = blocks_rows_present (5 ∷ rest) passed in
    blocks_present (5 ∷ rest) (slice_index (5 ∷ rest) 1) bytes_fit refl refl present.0 present.1 in
    let at_8 : P 8 =
    λ bytes_fit passed. let present = sized_present 8 10 (8 ∷ rest) passed in
    timestamp_present (8 ∷ rest) bytes_fit present.0 refl present.1 in
    let others : (k : ℕ) → IsUnknown k → P k =
    λ k u bytes_fit passed. absurd
    (none-some (UnknownId k) (sym passed ∙ ap first_row (unknown_rows k (k ∷ rest) u))) in
    kind_cases P at_0 at_1 at_2 at_3 at_4 at_5 at_8 others kind fits none

-- ---- the bytes of an option are read as that option

-- No row rejects the bytes, and they are read as this option and rest.
IsReadAs : List ℕ → TcpOptionElement → List ℕ → Type 0
IsReadAs bytes option rest = (first_row (option_rows bytes) ≡ None) × (Some (option, rest) ≡ option_read bytes)

-- The four bytes of a 32-bit number are read back as that number.
long_read : (n : ℕ) → n < 2 ^ 32
    → n ≡ 2 ^ 16 * (256 * (n / 256 ^ 3 % 256) + n / 256 ^ 2 % 256) + (256 * (n / 256 ^ 1 % 256) + n % 256)
long_read n fits = omega (arith, fits)

block_read : (b : Block) (s : List ℕ) → FitsBlock b → b ≡ block_at (block_bytes b ++ s) 0
block_read b s fits = λ i. (long_read b.0 fits.0 i, long_read b.1 fits.1 i)

-- whether the second block of a selective acknowledgment is present
abbrev first_present : TcpOptionElement → Bool
first_present (SelectiveAcknowledgement first (Some block ∷ others)) = true
first_present _ = false

abbrev second_present : TcpOptionElement → Bool
second_present (SelectiveAcknowledgement first (place ∷ Some block ∷ others)) = true
second_present _ = false

option_is : (option : TcpOptionElement) (rest : List ℕ) → FitsOption option → as_read option ≡ option
    → IsReadAs (option_bytes option ++ rest) option rest
unfolding IsReadAs
option_is Noop rest fits prefix = (refl, refl)
option_is (MaximumSegmentSize size) rest fits prefix =
    let bytes = option_bytes (MaximumSegmentSize size) ++ rest in
    let word : size ≡ word_at bytes 2 = omega (arith, fits) in
    (sized_none 2 4 bytes (omega arith) refl, λ i. Some (MaximumSegmentSize (word i), rest))
option_is (WindowScale shift) rest fits prefix =
    (sized_none 3 3 (option_bytes (WindowScale shift) ++ rest) (omega arith) refl, refl)
option_is SelectiveAcknowledgementPermitted rest fits prefix =
    (sized_none 4 2 (option_bytes SelectiveAcknowledgementPermitted ++ rest) (omega arith) refl, refl)
option_is (Timestamp time echo) rest fits prefix =
    let bytes = option_bytes (Timestamp time echo) ++ rest in (
      sized_none 8 10 bytes (omega arith) refl,
      λ i. Some (Timestamp (long_read time fits.0 i) (long_read echo fits.1 i), rest),
    )
option_is (SelectiveAcknowledgement first (None ∷ None ∷ None ∷ [])) rest fits prefix =
    let bytes = option_bytes (SelectiveAcknowledgement first (None ∷ None ∷ None ∷ [])) ++ rest in
    let b = block_read first rest fits.0 in (
      blocks_rows_none bytes 10 refl (omega arith) refl (omega arith),
      λ i. Some (SelectiveAcknowledgement (b i) (None ∷ None ∷ None ∷ []), rest),
    )
option_is (SelectiveAcknowledgement first (Some second ∷ None ∷ None ∷ [])) rest fits prefix =
    let bytes = option_bytes (SelectiveAcknowledgement first (Some second ∷ None ∷ None ∷ [])) ++ rest in
    let b = block_read first rest fits.0 in
    let d = block_read second rest fits.2.0 in (
      blocks_rows_none bytes 18 refl (omega arith) refl (omega arith),
      λ i. Some (SelectiveAcknowledgement (b i) (Some (d i) ∷ None ∷ None ∷ []), rest),
    )
option_is (SelectiveAcknowledgement first (Some second ∷ Some third ∷ None ∷ [])) rest fits prefix =
    let bytes = option_bytes (SelectiveAcknowledgement first (Some second ∷ Some third ∷ None ∷ [])) ++ rest in
    let b = block_read first rest fits.0 in
    let d = block_read second rest fits.2.0 in
    let e = block_read third rest fits.2.1.0 in (
      blocks_rows_none bytes 26 refl (omega arith) refl (omega arith),
      λ i. Some (SelectiveAcknowledgement (b i) (Some (d i) ∷ Some (e i) ∷ None ∷ []), rest),
    )
option_is (SelectiveAcknowledgement first (Some second ∷ Some third ∷ Some fourth ∷ [])) rest fits prefix =
    let bytes = option_bytes (SelectiveAcknowledgement first (Some second ∷ Some third ∷ Some fourth ∷ [])) ++ rest in
    let b = block_read first rest fits.0 in
    let d = block_read second rest fits.2.0 in
    let e = block_read third rest fits.2.1.0 in
    let f = block_read fourth rest fits.2.1.1.0 in (
      blocks_rows_none bytes 34 refl (omega arith) refl (omega arith),
      λ i. Some (SelectiveAcknowledgement (b i) (Some (d i) ∷ Some (e i) ∷ Some (f i) ∷ []), rest),
    )
option_is (SelectiveAcknowledgement first (None ∷ Some second ∷ others)) rest fits prefix =
    absurd (true≢false (ap first_present prefix))
option_is (SelectiveAcknowledgement first (None ∷ None ∷ Some second ∷ others)) rest fits prefix =
    absurd (true≢false (ap first_present prefix))
option_is (SelectiveAcknowledgement first (Some second ∷ None ∷ Some third ∷ others)) rest fits prefix =
    absurd (true≢false (ap second_present prefix))
option_is (SelectiveAcknowledgement first others) rest fits prefix = absurd (omega (arith, fits.1))

is_read : (bytes : List ℕ) (value : Option (TcpOptionElement × List ℕ)) → IsNextOption bytes value
    → (first_row (option_rows bytes) ≡ None) × (value ≡ option_read bytes)
unfolding IsReadAs
is_read [] None is = (refl, refl)
is_read (kind ∷ rest) None is =
    let P : ℕ → Type 0 = λ k. (first_row (kind_rows k (k ∷ rest)) ≡ None) × (None ≡ kind_read k (k ∷ rest)) in
    let at_0 : P 0 = (refl, refl) in
    subst P (sym is) at_0
is_read bytes (Some read) is =
    let P : List ℕ → Type 0 = λ s. (first_row (option_rows s) ≡ None) × (Some read ≡ option_read s) in
    subst P (sym is.parts) (option_is read.0 read.1 is.fits is.blocks)

pub option_is_read : IsReadBy IsNextOption option_rows option_read
option_is_read = record { reads = reads; is_read = is_read }
