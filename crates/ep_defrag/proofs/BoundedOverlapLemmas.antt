-- Buffers and overlapping fragments: what they hold where the first bytes are kept, and which fragments contradict it.
use Rattle.std.proofs.Common.{◌≡◌, ℕ, suc, zero, ◌+◌, ◌-◌, ◌<◌, ◌≤◌, max, Bool, true, false, not, ◌||◌, ◌&&◌, cond, eqb, ltb, leb}
use Rattle.std.proofs.Common.{List, [], ◌∷◌, ◌++◌, length, map, get_or, Option, Some, None, subst, sym, refl, ap, ◌∙◌, inl, inr, arith}
use Rattle.std.specs.List.{list_any, filter, range_with_len, slice_range}
use Rattle.std.specs.List.Sorted.{IsPermutation}
use Rattle.std.specs.Cmp.Lexicographic.{pointwise}
use Rattle.std.proofs.lemmas.Bool.{cases_Bool, cases_lt, false≢true, and_parts, and_from, and_right, or_cases, or_right}
use Rattle.std.proofs.lemmas.Bool.{eqb-true, eq-eqb, false_from_ne_true}
use Rattle.std.proofs.lemmas.Bool.Decides.{nat_tests}
use Rattle.std.proofs.lemmas.Grind.{same_number_lists}
use Rattle.std.proofs.lemmas.Slice.Eq.{bytes_eq-Decides}
use Rattle.std.proofs.lemmas.List.Edits.{get_or-between, length-between}
use Rattle.std.proofs.lemmas.List.FromFn.{length-map-range_with_len, get_or-map-range_with_len, fill_by_all}
use Rattle.ep_defrag.specs.declared.ip_defrag_buf.IpDefragBuf.{IpDefragBuf}
use Rattle.ep_defrag.specs.declared.ip_frag_range.IpFragRange.{IpFragRange}
use Rattle.ep_defrag.specs.Ranges.{has_byte, merges}
use Rattle.ep_defrag.specs.IpFragments.{IpFragment, fragment_start, fragment_end, range_of, is_covered, byte_at}
use Rattle.ep_defrag.specs.IpFragments.{reach_of, end_of}
use Rattle.ep_defrag.specs.FragmentRefusals.{end_row, FitsWithin, Fits}
use Rattle.ep_defrag.specs.Buffers.{HoldsFragments, data_of, sections_of, known_end_of, extended, data_after, end_after}
use Rattle.ep_defrag.specs.Buffers.{sections_after}
use Rattle.ep_defrag.specs.BoundedOverlaps.{positions_of, byte_of, shares_position, repeats_bytes, contradicts}
use Rattle.ep_defrag.specs.BoundedOverlaps.{overlap, includes, yielding, is_missing, data_with_missing}
use Rattle.ep_defrag.proofs.ListLemmas.{any_of_range, each_of_range, list_all-range}
use Rattle.ep_defrag.proofs.SectionLemmas.{IsOrdered}
use Rattle.ep_defrag.proofs.ApartLemmas.{AreApartFrom, from_apart, none_before, has_byte_at}
use Rattle.ep_defrag.proofs.DataLemmas.{fits_at, refusal_at-fits, covered_below_reach, uncovered_from_reach, end_is_greatest}
use Rattle.ep_defrag.proofs.DataLemmas.{get_or-assembled, get_or-append_zeros, length-extended, length-overwritten}
use Rattle.ep_defrag.proofs.DataLemmas.{get_or-overwritten}
use Rattle.ep_defrag.proofs.BufferLemmas.{data_len, HoldsFragments-push}

-- ---- a fragment with the bytes of earlier ones
-- byte at a position of a fragment that yields to accepted ones
abbrev first_byte : List IpFragment → IpFragment → ℕ → ℕ
first_byte accepted fragment position =
    cond (is_covered accepted position) (byte_at accepted position) (byte_of fragment position)

pub length-yielding : (accepted : List IpFragment) (fragment : IpFragment)
    → length (yielding accepted fragment).bytes ≡ length fragment.bytes
length-yielding accepted fragment =
    length-map-range_with_len (first_byte accepted fragment) (fragment_start fragment) (length fragment.bytes)

pub get_or-yielding : (accepted : List IpFragment) (fragment : IpFragment) (position : ℕ)
    → fragment_start fragment ≤ position → position < fragment_end fragment
    → get_or (yielding accepted fragment).bytes (position - fragment_start fragment) 0
    ≡ first_byte accepted fragment position
get_or-yielding accepted fragment position low high =
    get_or-map-range_with_len (first_byte accepted fragment) (fragment_start fragment) (length fragment.bytes)
    (position - fragment_start fragment) position 0 (omega arith) (omega arith)

-- range of positions from a start on
abbrev pub range_at : ℕ → ℕ → IpFragRange
range_at start len = record { start = start; end = start + len }

pub range_of-yielding : (accepted : List IpFragment) (fragment : IpFragment)
    → range_of (yielding accepted fragment) ≡ range_of fragment
range_of-yielding accepted fragment =
    ap (range_at (fragment_start fragment)) (length-yielding accepted fragment)

pub fits-yielding : (limit : ℕ) (accepted : List IpFragment) (fragment : IpFragment)
    → FitsWithin limit accepted fragment → FitsWithin limit accepted (yielding accepted fragment)
fits-yielding limit accepted fragment fits =
    let known = end_of accepted in
    let reach = reach_of accepted in
    let same_len = length-yielding accepted fragment in
    let parts = fits_at limit known reach fragment fits in
    refusal_at-fits limit known reach (yielding accepted fragment)
    (record {
      short = omega (arith, parts.short, same_len);
      aligned = rw same_len parts.aligned;
      agrees = same_row known parts.agrees;
    })
  where
    same_row : (known : Option ℕ) → (end_row known (reach_of accepted) fragment).0 ≡ false
        → (end_row known (reach_of accepted) (yielding accepted fragment)).0 ≡ false
    same_row None agrees = rw (length-yielding accepted fragment) agrees
    same_row (Some end) agrees = rw (length-yielding accepted fragment) agrees

-- The data then reaches to the end of the range, or as far as before.
pub length-missing : (contents : List ℕ) (sections : List IpFragRange) (range : IpFragRange) (bytes : List ℕ)
    → length (data_with_missing contents sections range bytes) ≡ max (length contents) range.end
length-missing contents sections range bytes = length-map-range_with_len _ 0 (max (length contents) range.end)

-- Writing of the missing bytes leaves what the fragment that yields leaves.
data-missing : (buffer : IpDefragBuf) (accepted : List IpFragment) (fragment : IpFragment)
    → HoldsFragments buffer accepted
    → data_with_missing (data_of buffer) (sections_of buffer) (range_of fragment) fragment.bytes
    ≡ data_after (data_of buffer) (yielding accepted fragment)
data-missing buffer accepted fragment holds =
    let contents = data_of buffer in
    let sections = sections_of buffer in
    let range = range_of fragment in
    let start = fragment_start fragment in
    let end = fragment_end fragment in
    let first = yielding accepted fragment in
    let same_len : length first.bytes ≡ length fragment.bytes = length-yielding accepted fragment in
    let same_end : fragment_end first ≡ end = omega (arith, same_len) in
    let longer = extended contents (fragment_end first) in
    let longer_len : length longer ≡ max (length contents) end =
    length-extended contents (fragment_end first) ∙ ap (λ (n : ℕ). max (length contents) n) same_end in
    let within : start + length first.bytes ≤ length longer = omega (arith, longer_len, same_end) in
    let old_byte : (position : ℕ) → is_covered accepted position ≡ true
    → get_or contents position 0 ≡ byte_at accepted position = λ position came.
    ap (λ bytes. get_or bytes position 0) holds.contents
    ∙ get_or-assembled accepted position
    (omega (arith, end_is_greatest 65535 accepted holds.in_turn, covered_below_reach accepted position came)) in
    sym
    (fill_by_all
    (λ position. cond (is_missing sections range position) (byte_of fragment position) (get_or contents position 0))
    (data_after contents first) (max (length contents) end) 0
    (length-overwritten longer start first.bytes within ∙ longer_len)
    (λ position below.
    get_or-overwritten longer start first.bytes position within
    ∙ ap (λ stop. cond (leb start position && ltb position stop) (get_or first.bytes (position - start) 0)
    (get_or longer position 0)) same_end
    ∙ elim (cases_Bool (has_byte position range)) [
      | inl here ↦
          let inside : (start ≤ position) × (position < end) = grind (arith, nat_tests, here) in
          rw here
          (get_or-yielding accepted fragment position inside.0 inside.1
          ∙ elim (cases_Bool (is_covered accepted position)) [
            | inl came ↦ rw (holds.bytes position, came) (sym (old_byte position came))
            | inr missing ↦ rw (holds.bytes position, missing) refl
          ])
      | inr away ↦ rw away (get_or-append_zeros contents (fragment_end first - length contents) position)
    ]))

-- A buffer that accepted the missing bytes of a fragment holds it with the bytes that came before.
pub HoldsFragments-missing : (old new : IpDefragBuf) (accepted : List IpFragment) (fragment : IpFragment)
    → HoldsFragments old accepted → Fits accepted fragment
    → data_of new ≡ data_with_missing (data_of old) (sections_of old) (range_of fragment) fragment.bytes
    → IsPermutation (sections_of new) (sections_after (range_of fragment) (sections_of old))
    → known_end_of new ≡ end_after (known_end_of old) fragment
    → HoldsFragments new (accepted ++ yielding accepted fragment ∷ [])
HoldsFragments-missing old new accepted fragment holds fits data_now sections_now end_now =
    HoldsFragments-push old new accepted (yielding accepted fragment) holds
    (fits-yielding 65535 accepted fragment fits)
    (data_now ∙ data-missing old accepted fragment holds)
    (subst (λ (range : IpFragRange). IsPermutation (sections_of new) (sections_after range (sections_of old)))
    (sym (range_of-yielding accepted fragment)) sections_now)
    (end_now ∙ sym (rw (length-yielding accepted fragment) refl))

-- ---- overlaps
none_of_range : (p : ℕ → Bool) (from n : ℕ) → ((k : ℕ) → from ≤ k → k < from + n → p k ≡ false)
    → list_any p (range_with_len from n) ≡ false
none_of_range p from zero each = refl
none_of_range p from (suc n) each =
    rw (each from (omega arith) (omega arith))
    (none_of_range p (from + 1) n (λ k low high. each k (omega arith) (omega arith)))

or_four : (a b c d : Bool) → ((a || b) || (c || d)) ≡ ((a || c) || (b || d))
or_four true b c d = refl
or_four false true true d = refl
or_four false true false d = refl
or_four false false c d = refl

any_of_both : {X : Type 0} (p q : X → Bool) (xs : List X)
    → list_any (λ x. p x || q x) xs ≡ (list_any p xs || list_any q xs)
any_of_both p q [] = refl
any_of_both p q (x ∷ xs) =
    ap (λ t. (p x || q x) || t) (any_of_both p q xs) ∙ or_four (p x) (q x) (list_any p xs) (list_any q xs)

shared_by_one : (start len : ℕ) (section : IpFragRange)
    → list_any (λ position. has_byte position section) (range_with_len start len)
    ≡ overlap (range_at start len) section
shared_by_one start len section = elim (cases_Bool (overlap (range_at start len) section)) [
  | inl some ↦
      let position = max start section.start in
      let inside : (max start section.start < start + len) × (max start section.start < section.end) =
      grind (arith, nat_tests, some) in
      any_of_range (λ at. has_byte at section) start len position (omega arith) inside.0 (grind (arith, nat_tests))
      ∙ sym some
  | inr none ↦
      none_of_range (λ at. has_byte at section) start len (λ k low high. grind (arith, nat_tests, none)) ∙ sym none
]

shared_by_any : (start len : ℕ) (sections : List IpFragRange)
    → list_any (λ position. list_any (has_byte position) sections) (range_with_len start len)
    ≡ list_any (overlap (range_at start len)) sections
shared_by_any start len [] = none_of_range (λ position. false) start len (λ k low high. refl)
shared_by_any start len (section ∷ later) =
    any_of_both (λ position. has_byte position section) (λ position. list_any (has_byte position) later)
    (range_with_len start len)
    ∙ ap (λ t. t || list_any (λ position. list_any (has_byte position) later) (range_with_len start len))
    (shared_by_one start len section)
    ∙ ap (λ t. overlap (range_at start len) section || t) (shared_by_any start len later)

-- Positions that are all covered are in one section.
included_in_one : (range : IpFragRange) → range.start < range.end → (least : ℕ) (sections : List IpFragRange)
    → AreApartFrom least sections
    → ((position : ℕ) → range.start ≤ position → position < range.end → list_any (has_byte position) sections ≡ true)
    → list_any (λ section. includes section range) sections ≡ true
included_in_one range some least [] apart all = absurd (false≢true (all range.start (omega arith) some))
included_in_one range some least (section ∷ later) apart all = elim (cases_lt range.start section.end) [
  | inl inside ↦
      let starts : section.start ≤ range.start = elim (cases_lt range.start section.start) [
        | inl before ↦
            absurd (false≢true
            (sym (none_before range.start (has_byte range.start) (has_byte_at range.start) section.start
            (section ∷ later) (omega arith, apart.1, apart.2) before)
            ∙ all range.start (omega arith) some))
        | inr after ↦ after
      ] in
      let ends : range.end ≤ section.end = elim (cases_lt section.end range.end) [
        | inl more ↦
            let away : has_byte section.end section ≡ false = grind (arith, nat_tests) in
            absurd (false≢true
            (sym (ap (λ t. t || list_any (has_byte section.end) later) away
            ∙ none_before section.end (has_byte section.end) (has_byte_at section.end) (section.end + 1) later apart.2
            (omega arith))
            ∙ all section.end (omega arith) more))
        | inr within ↦ within
      ] in
      let here : includes section range ≡ true = grind (arith, nat_tests, starts, ends) in
      ap (λ t. t || list_any (λ section. includes section range) later) here
  | inr after ↦
      or_right (includes section range) _
      (included_in_one range some (section.end + 1) later apart.2
      (λ position low high.
      let away : has_byte position section ≡ false = grind (arith, nat_tests, after, low) in
      rw away at (all position low high)))
]

-- Each position of a range in one section is covered.
covered_by_one : (range : IpFragRange) (position : ℕ) → range.start ≤ position → position < range.end
    → (sections : List IpFragRange) → list_any (λ section. includes section range) sections ≡ true
    → list_any (has_byte position) sections ≡ true
covered_by_one range position low high [] one = absurd (false≢true one)
covered_by_one range position low high (section ∷ later) one =
    elim (or_cases (includes section range) _ one) [
      | inl here ↦
          let inside : has_byte position section ≡ true = grind (arith, nat_tests, here, low, high) in
          ap (λ t. t || list_any (has_byte position) later) inside
      | inr elsewhere ↦ or_right (has_byte position section) _ (covered_by_one range position low high later elsewhere)
    ]

-- ---- a fragment against a buffer
module _ (buffer : IpDefragBuf) (accepted : List IpFragment) (fragment : IpFragment)
    (holds : HoldsFragments buffer accepted) where
  shares-sections : shares_position accepted fragment ≡ list_any (overlap (range_of fragment)) (sections_of buffer)
  shares-sections =
      ap (λ (test : ℕ → Bool). list_any test (positions_of fragment)) (λ i position. sym (holds.bytes position) i)
      ∙ shared_by_any (fragment_start fragment) (length fragment.bytes) (sections_of buffer)

  pub no_contradiction : list_any (overlap (range_of fragment)) (sections_of buffer) ≡ false
      → contradicts accepted fragment ≡ false
  no_contradiction none = rw (shares-sections ∙ none) refl

  -- A fragment that begins at the end of the data or after it overlaps nothing.
  pub no_contradiction-after : length (data_of buffer) ≤ fragment_start fragment
      → contradicts accepted fragment ≡ false
  no_contradiction-after after =
      rw (none_of_range (is_covered accepted) (fragment_start fragment) (length fragment.bytes)
      (λ position low high. uncovered_from_reach accepted position
      (omega (arith, after, low, data_len buffer accepted holds)))) refl

  module _ (some : list_any (overlap (range_of fragment)) (sections_of buffer) ≡ true) where
    against : repeats_bytes accepted fragment ≡ false → contradicts accepted fragment ≡ true
    against other = rw (shares-sections ∙ some, other) refl

    -- a position that is shared
    not_empty : fragment_start fragment < fragment_end fragment
    not_empty = overlap_some (sections_of buffer) some
      where
        overlap_some : (sections : List IpFragRange) → list_any (overlap (range_of fragment)) sections ≡ true
            → fragment_start fragment < fragment_end fragment
        overlap_some [] none = absurd (false≢true none)
        overlap_some (section ∷ later) some = elim (or_cases (overlap (range_of fragment) section) _ some) [
          | inl here ↦ grind (arith, nat_tests, here)
          | inr elsewhere ↦ overlap_some later elsewhere
        ]

    pub contradicts-beyond : list_any (λ section. includes section (range_of fragment)) (sections_of buffer) ≡ false
        → contradicts accepted fragment ≡ true
    contradicts-beyond none = against (false_from_ne_true (repeats_bytes accepted fragment) (λ repeats.
        false≢true
        (sym none
        ∙ included_in_one (range_of fragment) (not_empty) 0 (sections_of buffer)
        (from_apart (sections_of buffer) buffer.in_order)
        (λ position low high.
        holds.bytes position
        ∙ (and_parts (is_covered accepted position) _
        (each_of_range _ (fragment_start fragment) (length fragment.bytes) repeats position low high)).0))))

    module _ (one : list_any (λ section. includes section (range_of fragment)) (sections_of buffer) ≡ true) where
      came : (position : ℕ) → fragment_start fragment ≤ position → position < fragment_end fragment
          → is_covered accepted position ≡ true
      came position low high =
          sym (holds.bytes position)
          ∙ covered_by_one (range_of fragment) position low high (sections_of buffer) one

      abbrev kept : List ℕ
      kept = slice_range (data_of buffer) (fragment_start fragment) (fragment_end fragment)

      kept_byte : (position : ℕ) → fragment_start fragment ≤ position → position < fragment_end fragment
          → byte_at accepted position ≡ get_or kept (position - fragment_start fragment) 0
      kept_byte position low high =
          let place : fragment_start fragment + (position - fragment_start fragment) ≡ position = omega arith in
          sym
          (get_or-between (data_of buffer) (fragment_start fragment) (fragment_end fragment)
          (position - fragment_start fragment) 0 (omega arith)
          ∙ ap (λ at. get_or (data_of buffer) at 0) place
          ∙ ap (λ bytes. get_or bytes position 0) holds.contents
          ∙ get_or-assembled accepted position
          (omega (
            arith,
            end_is_greatest 65535 accepted holds.in_turn,
            covered_below_reach accepted position (came position low high),
          )))

      pub within_data : fragment_end fragment ≤ length (data_of buffer)
      within_data =
          let last = fragment_end fragment - 1 in
          let covered = came last (omega (arith, not_empty)) (omega (arith, not_empty)) in
          omega (arith, data_len buffer accepted holds, covered_below_reach accepted last covered, not_empty)

      kept_len : length kept ≡ length fragment.bytes
      kept_len =
          length-between (data_of buffer) (fragment_start fragment) (fragment_end fragment) (within_data) ∙ omega arith

      contradicts-repeat : kept ≡ fragment.bytes → contradicts accepted fragment ≡ false
      contradicts-repeat same =
          let repeats : repeats_bytes accepted fragment ≡ true =
          list_all-range _ (fragment_start fragment) (length fragment.bytes)
          (λ position low high.
          and_from _ _ (came position low high)
          (eq-eqb (byte_at accepted position) (byte_of fragment position)
          (kept_byte position low high
          ∙ ap (λ bytes. get_or bytes (position - fragment_start fragment) 0) same))) in
          rw repeats (and_right (shares_position accepted fragment) false refl)

      contradicts-other : (kept ≡ fragment.bytes → ⊥) → contradicts accepted fragment ≡ true
      contradicts-other differ = against (false_from_ne_true (repeats_bytes accepted fragment) (λ repeats.
          differ
          (same_number_lists kept fragment.bytes (kept_len)
          (λ k below.
          let position = fragment_start fragment + k in
          let place : position - fragment_start fragment ≡ k = omega arith in
          let high : position < fragment_end fragment = omega (arith, kept_len) in
          let byte = kept_byte position (omega arith) high in
          let both = each_of_range _ (fragment_start fragment) (length fragment.bytes) repeats position (omega arith)
          high in
          let equal : byte_at accepted position ≡ byte_of fragment position = eqb-true _ _ (and_parts _ _ both).1 in
          ap (λ at. get_or kept at 0) (sym place)
          ∙ sym byte
          ∙ equal
          ∙ ap (λ at. get_or fragment.bytes at 0) place))))

      pub contradicts-compared : (same : List ℕ) → same ≡ kept → (result : Bool)
          → result ≡ not (pointwise eqb same fragment.bytes) → result ≡ contradicts accepted fragment
      contradicts-compared same same_is result compared = elim (cases_Bool (pointwise eqb same fragment.bytes)) [
        | inl equal ↦
            compared
            ∙ ap not equal
            ∙ sym (contradicts-repeat (sym same_is ∙ (bytes_eq-Decides same fragment.bytes).0 equal))
        | inr differ ↦
            compared
            ∙ ap not differ
            ∙ sym
            (contradicts-other (λ equal.
            false≢true (sym differ ∙ (bytes_eq-Decides same fragment.bytes).1 (same_is ∙ equal))))
      ]

-- ---- the neighbours of a range
-- A test that only sections pass that merge with a range finds one among its neighbours, if there is any.
any_of_filtered : {X : Type 0} (test p : X → Bool) → ((x : X) → test x ≡ true → p x ≡ true) → (xs : List X)
    → list_any test (filter p xs) ≡ list_any test xs
any_of_filtered test p only [] = refl
any_of_filtered test p only (x ∷ xs) = elim (cases_Bool (p x)) [
  | inl passes ↦ rw passes (ap (λ t. test x || t) (any_of_filtered test p only xs))
  | inr fails ↦
      let not_here : test x ≡ false =
      false_from_ne_true (test x) (λ here. false≢true (sym fails ∙ only x here)) in
      rw (fails, not_here) (any_of_filtered test p only xs)
]

module _ (range : IpFragRange) (sections : List IpFragRange) where
  pub overlaps_near : list_any (overlap range) (filter (merges range) sections) ≡ list_any (overlap range) sections
  overlaps_near =
      any_of_filtered (overlap range) (merges range) (λ section shared. grind (arith, nat_tests, shared)) sections

  pub includes_near : IsOrdered range → list_any (λ section. includes section range) (filter (merges range) sections)
      ≡ list_any (λ section. includes section range) sections
  includes_near ordered =
      any_of_filtered (λ section. includes section range) (merges range)
      (λ section inside. grind (arith, nat_tests, inside, ordered)) sections

  has_byte_near : (position : ℕ) → has_byte position range ≡ true
      → list_any (has_byte position) (filter (merges range) sections) ≡ list_any (has_byte position) sections
  has_byte_near position in_range =
      any_of_filtered (has_byte position) (merges range)
      (λ section in_section. grind (arith, nat_tests, in_range, in_section))
      sections

  -- The missing positions are those that no section that merges with the range has.
  pub data_near : (contents bytes : List ℕ) → data_with_missing contents (filter (merges range) sections) range bytes
      ≡ data_with_missing contents sections range bytes
  data_near contents bytes =
      ap (λ (missing : ℕ → Bool).
      map (λ position. cond (missing position) (get_or bytes (position - range.start) 0) (get_or contents position 0))
      (range_with_len 0 (max (length contents) range.end)))
      (λ i position. same_missing position i)
    where
      same_missing : (position : ℕ) → is_missing (filter (merges range) sections) range position
          ≡ is_missing sections range position
      same_missing position = elim (cases_Bool (has_byte position range)) [
        | inl here ↦ ap (λ t. has_byte position range && not t) (has_byte_near position here)
        | inr away ↦ rw away refl
      ]

-- From tests of the sections near a fragment to tests of all sections.
module _ (buffer : IpDefragBuf) (fragment : IpFragment) (start : ℕ) (at : start ≡ fragment_start fragment)
    (near : List IpFragRange)
    (near_is : near ≡ filter (merges (range_at start (length fragment.bytes))) (sections_of buffer)) where
  abbrev here : IpFragRange
  here = range_at start (length fragment.bytes)

  same_range : here ≡ range_of fragment
  same_range = ap (λ (from : ℕ). range_at from (length fragment.bytes)) at

  pub overlap_found : (result : Bool) → result ≡ list_any (overlap here) near
      → list_any (overlap (range_of fragment)) (sections_of buffer) ≡ result
  overlap_found result found =
      ap (λ (range : IpFragRange). list_any (overlap range) (sections_of buffer)) (sym (same_range))
      ∙ sym (overlaps_near here (sections_of buffer))
      ∙ ap (λ (sections : List IpFragRange). list_any (overlap here) sections) (sym near_is)
      ∙ sym found

  inclusion_found : (result : Bool) → result ≡ list_any (λ section. includes section here) near
      → list_any (λ section. includes section (range_of fragment)) (sections_of buffer) ≡ result
  inclusion_found result found =
      ap (λ (range : IpFragRange). list_any (λ section. includes section range) (sections_of buffer)) (sym (same_range))
      ∙ sym (includes_near here (sections_of buffer) (omega arith))
      ∙ ap (λ (sections : List IpFragRange). list_any (λ section. includes section here) sections) (sym near_is)
      ∙ sym found

  pub tests_found : (overlapped included : Bool) → overlapped ≡ list_any (overlap here) near
      → included ≡ list_any (λ section. includes section here) near
      → (list_any (overlap (range_of fragment)) (sections_of buffer) ≡ overlapped)
      × (list_any (λ section. includes section (range_of fragment)) (sections_of buffer) ≡ included)
  tests_found overlapped included first second = (overlap_found overlapped first, inclusion_found included second)
