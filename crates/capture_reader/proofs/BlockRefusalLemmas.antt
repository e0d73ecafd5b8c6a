-- Errors that stay the same if more bytes follow, in general and for blocks.
use Rattle.std.proofs.Common.{◌≡◌, ℕ, ◌-◌, ◌%◌, ◌<◌, ◌≤◌, ◌==◌, ◌||◌, ◌⊎◌, Bool, true, false, not, nat_lt}
use Rattle.std.proofs.Common.{List, [], ◌∷◌, ◌++◌, Some, None, length, take, drop, slice_range}
use Rattle.std.proofs.Common.{refl, sym, ap, ◌∙◌, inl, inr, length-append, length-drop, arith}
use Rattle.std.proofs.lemmas.Bool.{le-ltb, ltb-false, ltb-true}
use Rattle.std.proofs.lemmas.List.{take-append-le, drop-append-le}
use Rattle.ep_base.specs.Tables.{first_row}
use Rattle.ep_base.proofs.TableLemmas.{AllErrors, refusal_is}
use Rattle.capture_reader.specs.Numbers.{word32_at}
use Rattle.capture_reader.specs.Blocks.{Section, block_rows, body_rows, framing_rows, has_no_order, kind_in, kind_of}
use Rattle.capture_reader.specs.Blocks.{min_len}
use Rattle.capture_reader.specs.Blocks.{complete_rows, most_block, order_in, order_of}
use Rattle.capture_reader.specs.declared.block.BlockKind.{BlockKind}
use Rattle.capture_reader.specs.declared.block.BlockKind.TheVariants.{SectionHeader, InterfaceDescription, SimplePacket}
use Rattle.capture_reader.specs.declared.block.BlockKind.TheVariants.{EnhancedPacket, ObsoletePacket, Other}
use Rattle.capture_reader.specs.declared.byte_order.ByteOrder.{ByteOrder}
use Rattle.capture_reader.specs.declared.byte_order.ByteOrder.TheVariants.{Big}
use Rattle.capture_reader.specs.declared.interface.Interface.{Interface}
use Rattle.capture_reader.specs.declared.refusal.Refusal.{Refusal}
use Rattle.capture_reader.specs.declared.refusal.Refusal.TheVariants as refusal
use Rattle.capture_reader.proofs.BodyLemmas.{row_none, row_pass}
use Rattle.capture_reader.proofs.NumberLemmas.{word32_at-more}

-- Holds for errors that stay the same if more bytes follow.
abbrev pub IsFinal : Refusal → Type 0
IsFinal (refusal.Cut required len) = ⊥
IsFinal other = Unit {0}

pub not_final : (e : Refusal) (required len : ℕ) → IsFinal e → Some (refusal.Cut required len) ≡ Some e → ⊥
not_final (refusal.Cut other_required other_len) required len final same = final
not_final (refusal.UnknownMagic magic) required len final same = cc
not_final (refusal.UnsupportedVersion major minor) required len final same = cc
not_final (refusal.PacketTooLong other) required len final same = cc
not_final (refusal.UnknownByteOrder magic) required len final same = cc
not_final (refusal.BlockLength other) required len final same = cc
not_final (refusal.BlockTooLong other) required len final same = cc
not_final (refusal.TrailingLength other trailing) required len final same = cc
not_final refusal.OptionBeyondBlock required len final same = cc
not_final (refusal.OptionLength code other) required len final same = cc
not_final (refusal.UnsupportedResolution resolution) required len final same = cc
not_final (refusal.UndescribedInterface interface) required len final same = cc
not_final refusal.TooManyInterfaces required len final same = cc

-- A final error comes from the rows after the one for too few bytes.
pub not_few : (few : Bool) (required len : ℕ) (rows : List (Bool × Refusal)) (e : Refusal) → IsFinal e
    → first_row ((few, refusal.Cut required len) ∷ rows) ≡ Some e → (few ≡ false) × (first_row rows ≡ Some e)
not_few true required len rows e final refused = absurd (not_final e required len final refused)
not_few false required len rows e final refused = (refl, refused)

-- Rows before and after a row for too few bytes: if that row does not apply with more bytes either, and the rows after
-- it decide alike, then the table reports the same final error with more bytes.
past_prefix : (prefix : List (Bool × Refusal)) (short other_short : Bool) (len n m : ℕ)
    (last other_last : List (Bool × Refusal)) (e : Refusal) → IsFinal e
    → (short ≡ false → (other_short ≡ false) × (first_row other_last ≡ first_row last))
    → first_row (prefix ++ (short, refusal.Cut len n) ∷ last) ≡ Some e
    → first_row (prefix ++ (other_short, refusal.Cut len m) ∷ other_last) ≡ Some e
past_prefix [] short other_short len n m last other_last e final more refused =
    let is = not_few short len n last e final refused in
    let same = more is.0 in
    row_pass other_short (refusal.Cut len m) (first_row other_last) same.0 ∙ same.1 ∙ is.1
past_prefix ((true, error) ∷ prefix) short other_short len n m last other_last e final more refused = refused
past_prefix ((false, error) ∷ prefix) short other_short len n m last other_last e final more refused =
    past_prefix prefix short other_short len n m last other_last e final more refused

-- ---- with more bytes

range-more : (bytes more : List ℕ) (i j : ℕ) → i ≤ length bytes → j ≤ length bytes
    → slice_range (bytes ++ more) i j ≡ slice_range bytes i j
range-more bytes more i j start end =
    ap (take (j - i)) (drop-append-le i bytes more start)
    ∙ take-append-le (j - i) (drop i bytes) more (omega (arith, length-drop i bytes))

-- the refusal table of a block, by topic
abbrev rows_by : ByteOrder → List Interface → ByteOrder → BlockKind → (magic len n trailing : ℕ) → List ℕ
    → List (Bool × Refusal)
rows_by before interfaces order kind magic len n trailing body =
    (nat_lt n 12, refusal.Cut 12 n)
    ∷ framing_rows before kind magic len
    ++ (nat_lt n len, refusal.Cut len n)
    ∷ (not (trailing == len), refusal.TrailingLength len trailing)
    ∷ body_rows interfaces order kind len body

-- the rows after the first one, which applies if the bytes are too few for the block's length
abbrev rows_after : Section → List ℕ → List (Bool × Refusal)
rows_after section bytes =
    let kind = kind_in section.order bytes in
    let order = order_in section.order bytes in
    let len = word32_at order bytes 4 in
    framing_rows section.order kind (word32_at Big bytes 8) len
    ++ (nat_lt (length bytes) len, refusal.Cut len (length bytes))
    ∷ complete_rows section.interfaces order kind len bytes

pub block_more : (section : Section) (bytes more : List ℕ) (e : Refusal) → IsFinal e
    → first_row (block_rows section bytes) ≡ Some e → first_row (block_rows section (bytes ++ more)) ≡ Some e
block_more section bytes more e final refused =
    let before = section.order in
    let interfaces = section.interfaces in
    let kind = kind_in before bytes in
    let magic = word32_at Big bytes 8 in
    let order = order_in before bytes in
    let len = word32_at order bytes 4 in
    let n = length bytes in
    let m = length (bytes ++ more) in
    let size = length-append bytes more in
    let is = not_few (nat_lt n 12) 12 n (rows_after section bytes) e final refused in
    let long : 12 ≤ n = ltb-false n 12 is.0 in
    let same_kind : kind_in before (bytes ++ more) ≡ kind =
    ap kind_of (word32_at-more before bytes more 0 (omega arith)) in
    let same_magic : word32_at Big (bytes ++ more) 8 ≡ magic = word32_at-more Big bytes more 8 long in
    let same_order : order_in before (bytes ++ more) ≡ order = λ i. order_of before (same_kind i) (same_magic i) in
    let same_len : word32_at (order_in before (bytes ++ more)) (bytes ++ more) 4 ≡ len =
    ap (λ o. word32_at o (bytes ++ more) 4) same_order ∙ word32_at-more order bytes more 4 (omega arith) in
    let trailing = word32_at order bytes (len - 4) in
    let other_trailing = word32_at order (bytes ++ more) (len - 4) in
    let body = slice_range bytes 8 (len - 4) in
    let other_body = slice_range (bytes ++ more) 8 (len - 4) in
    let last = complete_rows interfaces order kind len bytes in
    let other_last = complete_rows interfaces order kind len (bytes ++ more) in
    let goes_on : nat_lt n len ≡ false → (nat_lt m len ≡ false) × (first_row other_last ≡ first_row last) =
    λ enough. let within : len ≤ n = ltb-false n len enough in
    let same_trailing : other_trailing ≡ trailing = word32_at-more order bytes more (len - 4) (omega arith) in
    let same_body : other_body ≡ body = range-more bytes more 8 (len - 4) (omega arith) (omega arith) in
    let same_last : other_last ≡ last = λ i. (
      not (same_trailing i == len),
      refusal.TrailingLength len
          (same_trailing i),
    )
    ∷ body_rows interfaces order kind len (same_body i) in
    (le-ltb m len (omega (arith, size)), ap first_row same_last) in
    let same_rows : block_rows section (bytes ++ more)
    ≡ rows_by before interfaces order kind magic len m other_trailing other_body =
    λ i. rows_by before interfaces (same_order i) (same_kind i) (same_magic i) (same_len i) m
    (word32_at (same_order i) (bytes ++ more) (same_len i - 4)) (slice_range (bytes ++ more) 8 (same_len i - 4)) in
    let same : first_row (block_rows section (bytes ++ more))
    ≡ first_row (rows_by before interfaces order kind magic len m other_trailing other_body) =
    ap first_row same_rows in
    same ∙ row_pass (nat_lt m 12) (refusal.Cut 12 m) _ (le-ltb m 12 (omega (arith, size)))
    ∙ past_prefix (framing_rows before kind magic len) (nat_lt n len) (nat_lt m len) len n m last other_last e final
    goes_on is.1

-- A final error of a block requires its first 12 bytes.
pub block_long : (section : Section) (bytes : List ℕ) (e : Refusal) → IsFinal e
    → first_row (block_rows section bytes) ≡ Some e → 12 ≤ length bytes
block_long section bytes e final refused =
    ltb-false (length bytes) 12
    (not_few (nat_lt (length bytes) 12) 12 (length bytes) (rows_after section bytes) e final refused).0

-- ---- too few bytes

-- If the table reports too few bytes, no row before applies, and this one does.
pub cut_after : (prefix : List (Bool × Refusal)) (short : Bool) (len n required present : ℕ)
    (last : List (Bool × Refusal))
    → AllErrors IsFinal prefix → AllErrors IsFinal last
    → first_row (prefix ++ (short, refusal.Cut len n) ∷ last) ≡ Some (refusal.Cut required present)
    → (first_row prefix ≡ None) × (short ≡ true)
cut_after [] true len n required present last all all_last refused = (refl, refl)
cut_after [] false len n required present last all all_last refused =
    absurd (refusal_is IsFinal last all_last (refusal.Cut required present) refused)
cut_after ((true, error) ∷ prefix) short len n required present last all all_last refused =
    absurd (not_final error required present all.0 (sym refused))
cut_after ((false, error) ∷ prefix) short len n required present last all all_last refused =
    cut_after prefix short len n required present last all.1 all_last refused

body_final : (interfaces : List Interface) (order : ByteOrder) (kind : BlockKind) (len : ℕ) (body : List ℕ)
    → AllErrors IsFinal (body_rows interfaces order kind len body)
body_final interfaces order SectionHeader len body = (tt, tt)
body_final interfaces order InterfaceDescription len body = (tt, (tt, (tt, (tt, (tt, tt)))))
body_final interfaces order SimplePacket len body = (tt, (tt, (tt, tt)))
body_final interfaces order EnhancedPacket len body = (tt, (tt, (tt, tt)))
body_final interfaces order ObsoletePacket len body = (tt, (tt, (tt, tt)))
body_final interfaces order Other len body = tt

few_or_cut : (few : Bool) (len : ℕ) (rows : List (Bool × Refusal)) (e : Refusal)
    → first_row ((few, refusal.Cut 12 len) ∷ rows) ≡ Some e → (few ≡ true) ⊎ (first_row rows ≡ Some e)
few_or_cut true len rows e refused = inl refl
few_or_cut false len rows e refused = inr refused

pub block_few : (section : Section) (bytes : List ℕ) (required present : ℕ)
    → first_row (block_rows section bytes) ≡ Some (refusal.Cut required present) → length bytes < most_block
block_few section bytes required present refused =
    let kind = kind_in section.order bytes in
    let order = order_in section.order bytes in
    let len = word32_at order bytes 4 in
    let n = length bytes in
    elim (few_or_cut (nat_lt n 12) n (rows_after section bytes) (refusal.Cut required present) refused) [
      | inl few ↦ let below : n < 12 = ltb-true n 12 few in omega arith
      | inr after ↦
          let magic = word32_at Big bytes 8 in
          let cut = cut_after (framing_rows section.order kind magic len) (nat_lt n len) len n required present
          (complete_rows section.interfaces order kind len bytes) (tt, (tt, (tt, tt)))
          (tt, body_final section.interfaces order kind len (slice_range bytes 8 (len - 4))) after in
          let a = row_none (has_no_order section.order kind magic) _ _ cut.0 in
          let b = row_none (nat_lt len (min_len kind) || not (len % 4 == 0)) _ _ a.1 in
          let c = row_none (nat_lt most_block len) _ _ b.1 in
          let most : len ≤ most_block = ltb-false most_block len c.0 in
          let below : n < len = ltb-true n len cut.1 in
          omega arith
    ]
