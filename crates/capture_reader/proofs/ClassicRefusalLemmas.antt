-- Errors of file headers and records: those that stay the same with more bytes, and those for too few bytes.
use Rattle.std.proofs.Common.{◌≡◌, ℕ, ◌+◌, ◌<◌, ◌≤◌, ◌==◌, ◌&&◌, ◌⊎◌, nat_lt, not, is_some, Bool, true, false}
use Rattle.std.proofs.Common.{List, [], ◌∷◌, ◌++◌, Option, Some, length}
use Rattle.std.proofs.Common.{refl, sym, ap, ◌∙◌, inl, inr, length-append, arith}
use Rattle.std.proofs.lemmas.Option.{none-some}
use Rattle.std.proofs.lemmas.Bool.{le-ltb, ltb-false, ltb-true}
use Rattle.ep_base.specs.Tables.{first_row}
use Rattle.capture_reader.specs.Numbers.{word16_at, word32_at}
use Rattle.capture_reader.specs.Blocks.{most_block}
use Rattle.capture_reader.specs.Classic.{heading_rows, most_kept}
use Rattle.capture_reader.specs.Classic.{record_rows, style_in, style_of, style_order}
use Rattle.capture_reader.specs.declared.byte_order.ByteOrder.{ByteOrder}
use Rattle.capture_reader.specs.declared.byte_order.ByteOrder.TheVariants.{Big}
use Rattle.capture_reader.specs.declared.heading.Resolution.{Resolution}
use Rattle.capture_reader.specs.declared.refusal.Refusal.{Refusal}
use Rattle.capture_reader.specs.declared.refusal.Refusal.TheVariants as refusal
use Rattle.capture_reader.proofs.BlockRefusalLemmas.{IsFinal, not_final}
use Rattle.capture_reader.proofs.NumberLemmas.{word16_at-more, word32_at-more}

-- the refusal table of a record, by its conditions
abbrev rows_3 : (few long short : Bool) (len kept : ℕ) → List (Bool × Refusal)
rows_3 few long short len kept =
    (few, refusal.Cut 16 len) ∷ (long, refusal.PacketTooLong kept) ∷ (short, refusal.Cut (16 + kept) len) ∷ []

-- The only final error of a record is that its captured length is too large.
final_3 : (few long short : Bool) (len kept : ℕ) (e : Refusal) → IsFinal e
    → first_row (rows_3 few long short len kept) ≡ Some e → (few ≡ false) × (long ≡ true)
final_3 true long short len kept e final refused = absurd (not_final e 16 len final refused)
final_3 false true short len kept e final refused = (refl, refl)
final_3 false false true len kept e final refused = absurd (not_final e (16 + kept) len final refused)
final_3 false false false len kept e final refused = absurd (none-some e refused)

pick_3 : (few long short : Bool) (len kept : ℕ) → few ≡ false → long ≡ true
    → first_row (rows_3 few long short len kept) ≡ Some (refusal.PacketTooLong kept)
pick_3 few long short len kept no_few is_long = rw (no_few, is_long) refl

-- Too few bytes for a record are reported by one of two rows.
cut_3 : (few long short : Bool) (len kept required present : ℕ)
    → first_row (rows_3 few long short len kept) ≡ Some (refusal.Cut required present)
    → (few ≡ true) ⊎ ((long ≡ false) × (short ≡ true))
cut_3 true long short len kept required present refused = inl refl
cut_3 false true short len kept required present refused = absurd (cc)
cut_3 false false true len kept required present refused = inr (refl, refl)
cut_3 false false false len kept required present refused = absurd (none-some (refusal.Cut required present) refused)

pub record_more : (order : ByteOrder) (bytes more : List ℕ) (e : Refusal) → IsFinal e
    → first_row (record_rows order bytes) ≡ Some e → first_row (record_rows order (bytes ++ more)) ≡ Some e
record_more order bytes more e final refused =
    let n = length bytes in
    let m = length (bytes ++ more) in
    let kept = word32_at order bytes 8 in
    let other = word32_at order (bytes ++ more) 8 in
    let is = final_3 (nat_lt n 16) (nat_lt most_kept kept) (nat_lt n (16 + kept)) n kept e final refused in
    let long : 16 ≤ n = ltb-false n 16 is.0 in
    let same : other ≡ kept = word32_at-more order bytes more 8 (omega arith) in
    pick_3 (nat_lt m 16) (nat_lt most_kept other) (nat_lt m (16 + other)) m other
    (le-ltb m 16 (omega (arith, length-append bytes more))) (ap (nat_lt most_kept) same ∙ is.1)
    ∙ ap (λ (k : ℕ). Some (refusal.PacketTooLong k)) same
    ∙ sym (pick_3 (nat_lt n 16) (nat_lt most_kept kept) (nat_lt n (16 + kept)) n kept is.0 is.1) ∙ refused

pub record_few : (order : ByteOrder) (bytes : List ℕ) (required present : ℕ)
    → first_row (record_rows order bytes) ≡ Some (refusal.Cut required present) → length bytes < 16 + most_kept
record_few order bytes required present refused =
    let n = length bytes in
    let kept = word32_at order bytes 8 in
    elim (cut_3 (nat_lt n 16) (nat_lt most_kept kept) (nat_lt n (16 + kept)) n kept required present refused) [
      | inl few ↦ let below : n < 16 = ltb-true n 16 few in omega arith
      | inr cut ↦
          let below : n < 16 + kept = ltb-true n (16 + kept) cut.1 in
          let kept_few : kept ≤ most_kept = ltb-false most_kept kept cut.0 in
          omega arith
    ]

-- the refusal table of a file header after its magic number and its length
abbrev pub last_rows : Option (ByteOrder × Resolution) → List ℕ → List (Bool × Refusal)
last_rows style bytes =
    let order = style_order style in
    let major = word16_at order bytes 4 in
    let minor = word16_at order bytes 6 in
    (not ((major == 2) && (minor == 4)), refusal.UnsupportedVersion major minor) ∷ []

-- the refusal table of a file header, by the conditions of its first three rows
abbrev pub rows_5 : (few unknown short : Bool) (len magic : ℕ) → List (Bool × Refusal) → List (Bool × Refusal)
rows_5 few unknown short len magic last =
    (few, refusal.Cut 4 len) ∷ (unknown, refusal.UnknownMagic magic) ∷ (short, refusal.Cut 24 len) ∷ last

pub final_5 : (few unknown short : Bool) (len magic : ℕ) (last : List (Bool × Refusal)) (e : Refusal) → IsFinal e
    → first_row (rows_5 few unknown short len magic last) ≡ Some e
    → (few ≡ false) × ((unknown ≡ true) ⊎ ((unknown ≡ false) × (short ≡ false)))
final_5 true unknown short len magic last e final refused = absurd (not_final e 4 len final refused)
final_5 false true short len magic last e final refused = (refl, inl refl)
final_5 false false true len magic last e final refused = absurd (not_final e 24 len final refused)
final_5 false false false len magic last e final refused = (refl, inr (refl, refl))

pick_magic : (few unknown short : Bool) (len magic : ℕ) (last : List (Bool × Refusal)) → few ≡ false
    → unknown ≡ true → first_row (rows_5 few unknown short len magic last) ≡ Some (refusal.UnknownMagic magic)
pick_magic few unknown short len magic last no_few is = rw (no_few, is) refl

pick_last : (few unknown short : Bool) (len magic : ℕ) (last : List (Bool × Refusal)) → few ≡ false
    → unknown ≡ false → short ≡ false → first_row (rows_5 few unknown short len magic last) ≡ first_row last
pick_last few unknown short len magic last no_few known no_short = rw (no_few, known, no_short) refl

last_same : (style : Option (ByteOrder × Resolution)) (bytes more : List ℕ) → 24 ≤ length bytes
    → last_rows style (bytes ++ more) ≡ last_rows style bytes
last_same style bytes more long =
    let order = style_order style in
    let major = word16_at-more order bytes more 4 (omega arith) in
    let minor = word16_at-more order bytes more 6 (omega arith) in
    λ i. (not ((major i == 2) && (minor i == 4)), refusal.UnsupportedVersion (major i) (minor i)) ∷ []

pub heading_more : (bytes more : List ℕ) (e : Refusal) → IsFinal e → first_row (heading_rows bytes) ≡ Some e
    → first_row (heading_rows (bytes ++ more)) ≡ Some e
heading_more bytes more e final refused =
    let n = length bytes in
    let m = length (bytes ++ more) in
    let magic = word32_at Big bytes 0 in
    let other = word32_at Big (bytes ++ more) 0 in
    let style = style_in bytes in
    let other_style = style_in (bytes ++ more) in
    let unknown = not (is_some style) in
    let last = last_rows style bytes in
    let other_last = last_rows other_style (bytes ++ more) in
    let is = final_5 (nat_lt n 4) unknown (nat_lt n 24) n magic last e final refused in
    let long : 4 ≤ n = ltb-false n 4 is.0 in
    let len = length-append bytes more in
    let no_few : nat_lt m 4 ≡ false = le-ltb m 4 (omega (arith, len)) in
    let same : other ≡ magic = word32_at-more Big bytes more 0 long in
    let same_style : other_style ≡ style = ap style_of same in
    let other_unknown = ap (λ s. not (is_some s)) same_style in
    elim is.1 [
      | inl unknown_is ↦
          pick_magic (nat_lt m 4) (not (is_some other_style)) (nat_lt m 24) m other other_last no_few
          (other_unknown ∙ unknown_is)
          ∙ ap (λ (k : ℕ). Some (refusal.UnknownMagic k)) same
          ∙ sym (pick_magic (nat_lt n 4) unknown (nat_lt n 24) n magic last is.0 unknown_is) ∙ refused
      | inr known ↦
          let complete : 24 ≤ n = ltb-false n 24 known.1 in
          pick_last (nat_lt m 4) (not (is_some other_style)) (nat_lt m 24) m other other_last no_few
          (other_unknown ∙ known.0) (le-ltb m 24 (omega (arith, len)))
          ∙ ap (λ s. first_row (last_rows s (bytes ++ more))) same_style
          ∙ ap first_row (last_same style bytes more complete)
          ∙ sym (pick_last (nat_lt n 4) unknown (nat_lt n 24) n magic last is.0 known.0 known.1) ∙ refused
    ]

-- The last rows don't report too few bytes.
last_not_cut : (version : Bool) (major minor required present : ℕ)
    → first_row ((version, refusal.UnsupportedVersion major minor) ∷ []) ≡ Some (refusal.Cut required present) → ⊥
last_not_cut true major minor required present refused = cc
last_not_cut false major minor required present refused = none-some (refusal.Cut required present) refused

cut_5 : (few unknown short : Bool) (len magic required present : ℕ) (last : List (Bool × Refusal))
    → (first_row last ≡ Some (refusal.Cut required present) → ⊥)
    → first_row (rows_5 few unknown short len magic last) ≡ Some (refusal.Cut required present)
    → (few ≡ true) ⊎ (short ≡ true)
cut_5 true unknown short len magic required present last not_last refused = inl refl
cut_5 false true short len magic required present last not_last refused = absurd (cc)
cut_5 false false true len magic required present last not_last refused = inr refl
cut_5 false false false len magic required present last not_last refused = absurd (not_last refused)

pub heading_few : (bytes : List ℕ) (required present : ℕ)
    → first_row (heading_rows bytes) ≡ Some (refusal.Cut required present) → length bytes < most_block
heading_few bytes required present refused =
    let n = length bytes in
    let style = style_in bytes in
    let order = style_order style in
    let major = word16_at order bytes 4 in
    let minor = word16_at order bytes 6 in
    elim (cut_5 (nat_lt n 4) (not (is_some style)) (nat_lt n 24) n (word32_at Big bytes 0) required present
    (last_rows style bytes)
    (last_not_cut (not ((major == 2) && (minor == 4))) major minor required present)
    refused) [
      | inl few ↦ let below : n < 4 = ltb-true n 4 few in omega arith
      | inr short ↦ let below : n < 24 = ltb-true n 24 short in omega arith
    ]

-- ---- results of rejected items
