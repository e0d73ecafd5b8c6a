-- The positions that the sections fill after a range is merged in.
use Rattle.std.proofs.Common.{◌≡◌, ℕ, ◌≤◌, Bool, true, false, not, ◌||◌, List, [], ◌∷◌, refl, ap, ◌∙◌, inl, inr, arith}
use Rattle.std.specs.List.{AllByRecursion, list_any, filter, fold}
use Rattle.std.proofs.lemmas.Bool.{cases_Bool}
use Rattle.std.proofs.lemmas.Bool.Decides.{nat_tests}
use Rattle.ep_defrag.specs.declared.ip_frag_range.IpFragRange.{IpFragRange}
use Rattle.ep_defrag.specs.Ranges.{has_byte, touches, merges, hull}
use Rattle.ep_defrag.specs.Buffers.{sections_after}
use Rattle.ep_defrag.proofs.ListLemmas.{list_any-filter_both}

-- Holds if the range does not start after its end.
abbrev pub IsOrdered : IpFragRange → Type 0
IsOrdered range = range.start ≤ range.end

-- Ranges with a common point merge.
pub merges-from_point : (a b : IpFragRange) (position : ℕ) → touches position a ≡ true → touches position b ≡ true
    → merges a b ≡ true
merges-from_point a b position in_a in_b = grind (arith, nat_tests)

-- Of two ordered ranges that merge each starts no later than the other ends.
pub overlap-from_merges : (a b : IpFragRange) → IsOrdered a → IsOrdered b → merges a b ≡ true
    → (a.start ≤ b.end) × (b.start ≤ a.end)
overlap-from_merges a b ordered_a ordered_b merged = grind (arith, nat_tests)

-- The hull of two ordered ranges that overlap or touch has the points of both, and no others.
pub touches-hull : (position : ℕ) (a b : IpFragRange) → IsOrdered a → IsOrdered b → a.start ≤ b.end → b.start ≤ a.end
    → touches position (hull a b) ≡ (touches position a || touches position b)
touches-hull position a b ordered_a ordered_b left right = grind (arith, nat_tests)

-- It also has the bytes of both, and no others.
pub has_byte-hull : (position : ℕ) (a b : IpFragRange) → IsOrdered a → IsOrdered b → a.start ≤ b.end → b.start ≤ a.end
    → has_byte position (hull a b) ≡ (has_byte position a || has_byte position b)
has_byte-hull position a b ordered_a ordered_b left right = grind (arith, nat_tests)

-- Holds if the test is true for a hull exactly if it is for one of the two ranges, as `touches` and `has_byte` at a
-- position are.
abbrev pub SplitsHull : (IpFragRange → Bool) → Type 0
SplitsHull test =
    (a b : IpFragRange) → IsOrdered a → IsOrdered b → a.start ≤ b.end → b.start ≤ a.end
    → test (hull a b) ≡ (test a || test b)

or_assoc : (a b c : Bool) → ((a || b) || c) ≡ (a || (b || c))
or_assoc true b c = refl
or_assoc false b c = refl

or_false : (a : Bool) → a ≡ (a || false)
or_false true = refl
or_false false = refl

module _ (test : IpFragRange → Bool) (splits : SplitsHull test) (range : IpFragRange) (ordered : IsOrdered range) where
  -- Such a test is true for the union exactly if it is for the range or for a section that merges with it.
  test-union : (sofar : IpFragRange) (sections : List IpFragRange) → sofar.start ≤ range.start → range.end ≤ sofar.end
      → AllByRecursion IsOrdered sections
      → test (fold hull sofar (filter (merges range) sections))
      ≡ (test sofar || list_any test (filter (merges range) sections))
  test-union sofar [] left right all = or_false (test sofar)
  test-union sofar (section ∷ sections) left right all = elim (cases_Bool (merges range section)) [
    | inl merged ↦
        let near = overlap-from_merges range section ordered all.0 merged in
        rw merged
        (test-union (hull sofar section) sections (omega arith) (omega arith) all.1
        ∙ ap (λ t. t || list_any test (filter (merges range) sections))
        (splits sofar section (omega arith) all.0 (omega (arith, near.0)) (omega (arith, near.1)))
        ∙ or_assoc (test sofar) (test section) (list_any test (filter (merges range) sections)))
    | inr apart ↦ rw apart (test-union sofar sections left right all.1)
  ]

  -- Such a test is true for a section after the merge exactly if it is for the range or for a section before.
  pub test-sections_after : (sections : List IpFragRange) → AllByRecursion IsOrdered sections
      → list_any test (sections_after range sections) ≡ (test range || list_any test sections)
  test-sections_after sections all =
      ap (λ t. t || list_any test (filter (λ section. not (merges range section)) sections))
      (test-union range sections (omega arith) (omega arith) all)
      ∙ or_assoc (test range) (list_any test (filter (merges range) sections))
      (list_any test (filter (λ section. not (merges range section)) sections))
      ∙ ap (λ t. test range || t) (list_any-filter_both (merges range) test sections)
