-- When a list of fragments is complete, in terms of the sections.
use Rattle.std.proofs.Common.{◌≡◌, ℕ, suc, zero, ◌+◌, ◌<◌, ◌≤◌, Bool, true, false, cond, ◌||◌, ◌&&◌, eqb, List, [], ◌∷◌}
use Rattle.std.proofs.Common.{length, sym, refl, ap, ◌∙◌, inl, inr, arith, ◌↔◌, Option, Some, None, is_some}
use Rattle.std.specs.List.{AllByRecursion, list_any, count_by}
use Rattle.std.specs.Option.{unwrap_or}
use Rattle.std.proofs.lemmas.Bool.{cases_lt, false≢true, or_cases, and_parts, and_from, or_left, or_right, eq-eqb}
use Rattle.std.proofs.lemmas.Bool.{eqb-true}
use Rattle.std.proofs.lemmas.Bool.Decides.{nat_tests}
use Rattle.std.proofs.lemmas.List.Sums.{sum_by-cons}
use Rattle.ep_defrag.specs.declared.ip_frag_range.IpFragRange.{IpFragRange}
use Rattle.ep_defrag.specs.Ranges.{has_byte, touches}
use Rattle.ep_defrag.specs.IpFragments.{IpFragment, fragment_start, fragment_end, range_of, is_covered, is_touched}
use Rattle.ep_defrag.specs.IpFragments.{reach_of, end_of, IsComplete}
use Rattle.ep_defrag.specs.Buffers.{is_gapless}
use Rattle.ep_defrag.proofs.ListLemmas.{list_all-range, each_of_range, count_by-positive}
use Rattle.ep_defrag.proofs.SectionLemmas.{IsOrdered}
use Rattle.ep_defrag.proofs.DataLemmas.{EndIsGreatest}

-- ---- positions that a list of fragments touches
-- No position after the greatest end is touched.
pub touched_to_reach : (fragments : List IpFragment) (position : ℕ) → is_touched fragments position ≡ true
    → position ≤ reach_of fragments
touched_to_reach [] position touched = absurd (false≢true touched)
touched_to_reach (fragment ∷ fragments) position touched =
    elim (or_cases (touches position (range_of fragment)) (is_touched fragments position) touched) [
      | inl here ↦ grind (arith, nat_tests)
      | inr later ↦ omega (arith, touched_to_reach fragments position later)
    ]

-- The greatest end is touched, if it is above 0.
pub reach_touched : (fragments : List IpFragment) (reach : ℕ) → reach ≡ reach_of fragments → 0 < reach
    → is_touched fragments reach ≡ true
reach_touched [] reach same some = absurd (omega arith)
reach_touched (fragment ∷ fragments) reach same some = elim (cases_lt (fragment_end fragment) reach) [
  | inl below ↦ or_right (touches reach (range_of fragment)) (is_touched fragments reach)
      (reach_touched fragments reach (omega arith) some)
  | inr above ↦
      let here : touches reach (range_of fragment) ≡ true = grind (arith, nat_tests, same) in
      ap (λ t. t || is_touched fragments reach) here
]

-- ---- separated sections
-- whether the section starts at the position
abbrev starts_at : ℕ → IpFragRange → Bool
starts_at position section = eqb section.start position

-- A section with the byte before a position and a section that starts there both touch it.
both_touch : (before : ℕ) (sections : List IpFragRange) → AllByRecursion IsOrdered sections
    → count_by (has_byte before) sections + count_by (starts_at (suc before)) sections
    ≤ count_by (touches (suc before)) sections
both_touch before [] all = omega arith
both_touch before (section ∷ sections) all =
    let each : cond (has_byte before section) 1 0 + cond (starts_at (suc before) section) 1 0
    ≤ cond (touches (suc before) section) 1 0 = grind (arith, nat_tests, all.0) in
    rw (
      sum_by-cons (λ s. cond (has_byte before s) 1 0) section sections,
      sum_by-cons (λ s. cond (starts_at (suc before) s) 1 0) section sections,
      sum_by-cons (λ s. cond (touches (suc before) s) 1 0) section sections,
    )
    (omega (arith, each, both_touch before sections all.1))

-- Holds if the sections fill the positions of the fragments, in order and separated.
pub record Fill (sections : List IpFragRange) (fragments : List IpFragment) : Type 0 where
  pub ordered : AllByRecursion IsOrdered sections
  pub apart : (position : ℕ) → count_by (touches position) sections ≤ 1
  pub bytes : (position : ℕ) → list_any (has_byte position) sections ≡ is_covered fragments position
  pub points : (position : ℕ) → list_any (touches position) sections ≡ is_touched fragments position

AllCovered : List IpFragment → Type 0
AllCovered fragments = (position : ℕ) → position < reach_of fragments → is_covered fragments position ≡ true

-- No section starts directly after a covered byte.
no_start_after : (sections : List IpFragRange) (fragments : List IpFragment) → Fill sections fragments → (before : ℕ)
    → is_covered fragments before ≡ true → list_any (starts_at (suc before)) sections ≡ true → ⊥
no_start_after sections fragments fill before covered starts =
    omega (
      arith,
      both_touch before sections fill.ordered,
      fill.apart (suc before),
      count_by-positive (has_byte before) sections (fill.bytes before ∙ covered),
      count_by-positive (starts_at (suc before)) sections starts,
    )

-- Each section starts at 0, if all positions are covered.
start_zero : (sections : List IpFragRange) (fragments : List IpFragment) → Fill sections fragments
    → AllCovered fragments → (start end : ℕ) → start ≤ end → list_any (starts_at start) sections ≡ true
    → list_any (touches end) sections ≡ true → start ≡ 0
unfolding AllCovered
start_zero sections fragments fill covered zero end ordered starts touched = refl
start_zero sections fragments fill covered (suc before) end ordered starts touched =
    let reached : end ≤ reach_of fragments = touched_to_reach fragments end (sym (fill.points end) ∙ touched) in
    absurd (no_start_after sections fragments fill before (covered before (omega arith)) starts)

starts_itself : (section : IpFragRange) → starts_at section.start section ≡ true
starts_itself section = eq-eqb section.start section.start refl

touches_end : (section : IpFragRange) → IsOrdered section → touches section.end section ≡ true
touches_end section ordered = grind (arith, nat_tests, ordered)

-- If all positions are covered, there is one section and it starts at 0.
gapless_if_covered : (sections : List IpFragRange) (fragments : List IpFragment) → Fill sections fragments
    → AllCovered fragments → 0 < length sections → is_gapless sections ≡ true
gapless_if_covered [] fragments fill covered some = absurd (omega arith)
gapless_if_covered (section ∷ []) fragments fill covered some =
    eq-eqb section.start 0
    (start_zero (section ∷ []) fragments fill covered section.start section.end fill.ordered.0
    (or_left _ _ (starts_itself section)) (or_left _ _ (touches_end section fill.ordered.0)))
gapless_if_covered (section ∷ other ∷ others) fragments fill covered some =
    let sections = section ∷ other ∷ others in
    let first = start_zero sections fragments fill covered section.start section.end fill.ordered.0
    (or_left _ _ (starts_itself section)) (or_left _ _ (touches_end section fill.ordered.0)) in
    let second =
    start_zero sections fragments fill covered other.start other.end fill.ordered.1.0
    (or_right (starts_at other.start section) _ (or_left _ _ (starts_itself other)))
    (or_right (touches other.end section) _ (or_left _ _ (touches_end other fill.ordered.1.0))) in
    let count : IpFragRange → ℕ = λ s. cond (touches 0 s) 1 0 in
    let section_counts : count section ≡ 1 = grind (arith, nat_tests, first) in
    let other_counts : count other ≡ 1 = grind (arith, nat_tests, second) in
    let counted = sum_by-cons count section (other ∷ others) in
    absurd (omega (arith, fill.apart 0, counted, sum_by-cons count other others, section_counts, other_counts))

-- If there is one section and it starts at 0, all positions are covered.
covered_if_gapless : (sections : List IpFragRange) (fragments : List IpFragment) → Fill sections fragments
    → is_gapless sections ≡ true → AllCovered fragments
unfolding AllCovered
covered_if_gapless [] fragments fill gapless position below = absurd (false≢true gapless)
covered_if_gapless (section ∷ []) fragments fill gapless position below =
    let zero_start : section.start ≡ 0 = eqb-true section.start 0 gapless in
    let reached : (touches (reach_of fragments) section || false) ≡ true =
    fill.points (reach_of fragments) ∙ reach_touched fragments (reach_of fragments) refl (omega arith) in
    sym (fill.bytes position) ∙ grind (arith, nat_tests, zero_start, reached, below)
covered_if_gapless (section ∷ other ∷ others) fragments fill gapless position below = absurd (false≢true gapless)

-- There is a section if there is a fragment.
some_section : (sections : List IpFragRange) (fragments : List IpFragment) → Fill sections fragments
    → is_some (end_of fragments) ≡ true → 0 < length sections
some_section sections [] fill known = absurd (false≢true known)
some_section [] (fragment ∷ fragments) fill known =
    let here : touches (fragment_start fragment) (range_of fragment) ≡ true = grind (arith, nat_tests) in
    absurd
    (false≢true (fill.points (fragment_start fragment)
    ∙ ap (λ t. t || is_touched fragments (fragment_start fragment)) here))
some_section (section ∷ sections) (fragment ∷ fragments) fill known = omega arith

known_reach : (known : Option ℕ) (reach : ℕ) → unwrap_or known reach ≡ reach → is_some known ≡ true
    → unwrap_or known 0 ≡ reach
known_reach None reach greatest some = absurd (false≢true some)
known_reach (Some end) reach greatest some = greatest

-- The fragments are complete exactly if their end is known, which is the greatest, and there is one section, which
-- starts at 0.
pub complete_by_sections : (sections : List IpFragRange) (fragments : List IpFragment) → Fill sections fragments
    → EndIsGreatest fragments
    → ((is_some (end_of fragments) && is_gapless sections) ≡ true) ↔ IsComplete fragments
unfolding AllCovered
complete_by_sections sections fragments fill greatest = (
  λ gapless.
      let parts = and_parts (is_some (end_of fragments)) (is_gapless sections) gapless in
      let covered = covered_if_gapless sections fragments fill parts.1 in
      let end = known_reach (end_of fragments) (reach_of fragments) greatest parts.0 in
      and_from _ _ parts.0
      (list_all-range (is_covered fragments) 0 (unwrap_or (end_of fragments) 0)
      (λ position low high. covered position (omega (arith, end, high)))),
  λ complete.
      let parts = and_parts (is_some (end_of fragments)) _ complete in
      let end = known_reach (end_of fragments) (reach_of fragments) greatest parts.0 in
      and_from _ _ parts.0
      (gapless_if_covered sections fragments fill
      (λ position below. each_of_range (is_covered fragments) 0 (unwrap_or (end_of fragments) 0) parts.1 position
      (omega arith) (omega (arith, end, below)))
      (some_section sections fragments fill parts.0)),
)
