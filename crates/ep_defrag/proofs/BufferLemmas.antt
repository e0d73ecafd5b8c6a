-- The fragments that a buffer holds, before and after one more.
use Rattle.std.proofs.Common.{◌≡◌, ℕ, ◌≤◌, length, List, ◌∷◌, [], ◌++◌, Bool, true, false, not, ◌||◌, ◌&&◌, ◌↔◌, Option}
use Rattle.std.proofs.Common.{Some, None, is_some, sym, ◌∙◌, subst, ap, refl, arith, inl, inr}
use Rattle.std.specs.List.{All, list_any}
use Rattle.std.specs.List.Sorted.{IsPermutation}
use Rattle.std.specs.Option.{option_or}
use Rattle.std.proofs.lemmas.Bool.{cases_Bool, false≢true, or_cases, or_left, or_right}
use Rattle.std.proofs.lemmas.List.Elements.{recursion_from_All, All-from_recursion}
use Rattle.std.proofs.lemmas.List.Sorted.{list_any-IsPermutation}
use Rattle.ep_defrag.specs.declared.ip_defrag_buf.IpDefragBuf.{IpDefragBuf}
use Rattle.ep_defrag.specs.declared.ip_frag_range.IpFragRange.{IpFragRange}
use Rattle.ep_defrag.specs.Ranges.{has_byte, touches, merges}
use Rattle.ep_defrag.specs.IpFragments.{IpFragment, fragment_end, range_of, covers, reach_of, end_of, IsComplete}
use Rattle.ep_defrag.specs.declared.ip_defrag_error.IpDefragError.TheVariants.{AllocationFailure}
use Rattle.ep_defrag.specs.FragmentRefusals.{Fits, IsInPlace, MayNeedMemory, refusal_at, refusal_of}
use Rattle.ep_defrag.specs.Buffers.{HoldsFragments, data_of, sections_of, known_end_of, data_after, end_after}
use Rattle.ep_defrag.specs.Buffers.{sections_after, is_gapless}
use Rattle.ep_defrag.proofs.SectionLemmas.{IsOrdered, merges-from_point, touches-hull, has_byte-hull}
use Rattle.ep_defrag.proofs.SectionLemmas.{test-sections_after}
use Rattle.ep_defrag.proofs.ApartLemmas.{from_apart, ordered_from, at_most_one}
use Rattle.ep_defrag.proofs.DataLemmas.{FitAfter-push, FitsAt, fits_at, agrees_with, end_is_greatest, length-assembled}
use Rattle.ep_defrag.proofs.DataLemmas.{assembled-push, is_covered-push, is_touched-push, end_of-push, own_end}
use Rattle.ep_defrag.proofs.CompleteLemmas.{complete_by_sections}

-- Buffers with equal contents hold the same fragments.
pub HoldsFragments-same : (a b : IpDefragBuf) (fragments : List IpFragment) → HoldsFragments a fragments
    → data_of b ≡ data_of a → sections_of b ≡ sections_of a → known_end_of b ≡ known_end_of a
    → HoldsFragments b fragments
HoldsFragments-same a b fragments holds same_data same_sections same_end = record {
  in_turn = holds.in_turn;
  contents = same_data ∙ holds.contents;
  end = same_end ∙ holds.end;
  ordered = subst (λ (sections : List IpFragRange). All IsOrdered sections) (sym same_sections) holds.ordered;
  separate = λ position. rw same_sections (holds.separate position);
  bytes = λ position. rw same_sections (holds.bytes position);
  points = λ position. rw same_sections (holds.points position);
}

-- The known end after a fragment that fits is the former one, or else the fragment's if it is final.
end_after-fits : (known : Option ℕ) (reach : ℕ) (fragment : IpFragment) → FitsAt 65535 known reach fragment
    → end_after known fragment ≡ option_or known (own_end fragment)
end_after-fits None reach fragment fits = refl
end_after-fits (Some end) reach fragment fits = elim (cases_Bool fragment.more) [
  | inl more ↦ rw more refl
  | inr last ↦ rw (last, (agrees_with end fragment fits.agrees).1 last) refl
]

or_swap : (a b : Bool) → (a || b) ≡ (b || a)
or_swap true true = refl
or_swap true false = refl
or_swap false true = refl
or_swap false false = refl

-- A buffer that accepted a fragment holds it at the end of its list.
pub HoldsFragments-push : (old new : IpDefragBuf) (fragments : List IpFragment) (fragment : IpFragment)
    → HoldsFragments old fragments → Fits fragments fragment → data_of new ≡ data_after (data_of old) fragment
    → IsPermutation (sections_of new) (sections_after (range_of fragment) (sections_of old))
    → known_end_of new ≡ end_after (known_end_of old) fragment → HoldsFragments new (fragments ++ fragment ∷ [])
HoldsFragments-push old new fragments fragment holds fits data_now sections_now end_now =
    let range = range_of fragment in
    let sections = sections_of old in
    let ordered : IsOrdered range = omega arith in
    let all = recursion_from_All IsOrdered sections holds.ordered in
    let after = sections_after range sections in
    let in_order = from_apart (sections_of new) new.in_order in
    record {
      in_turn = FitAfter-push 65535 [] fragments fragment holds.in_turn fits;
      contents =
          data_now
          ∙ ap (λ contents. data_after contents fragment) holds.contents
          ∙ assembled-push 65535 fragments fragment (end_is_greatest 65535 fragments holds.in_turn) fits;
      end =
          end_now
          ∙ ap (λ known. end_after known fragment) holds.end
          ∙ end_after-fits (end_of fragments) (reach_of fragments) fragment
          (fits_at 65535 (end_of fragments) (reach_of fragments) fragment fits)
          ∙ sym (end_of-push fragments fragment);
      ordered = All-from_recursion IsOrdered (sections_of new) (ordered_from 0 (sections_of new) in_order);
      separate = λ position. at_most_one position 0 (sections_of new) in_order;
      bytes = λ position.
          list_any-IsPermutation (has_byte position) (sections_of new) after sections_now
          ∙ test-sections_after (has_byte position) (has_byte-hull position) range ordered sections all
          ∙ or_swap (has_byte position range) (list_any (has_byte position) sections)
          ∙ ap (λ t. t || covers position fragment) (holds.bytes position)
          ∙ sym (is_covered-push fragments fragment position);
      points = λ position.
          list_any-IsPermutation (touches position) (sections_of new) after sections_now
          ∙ test-sections_after (touches position) (touches-hull position) range ordered sections all
          ∙ or_swap (touches position range) (list_any (touches position) sections)
          ∙ ap (λ t. t || touches position range) (holds.points position)
          ∙ sym (is_touched-push fragments fragment position);
    }

-- The length of its data is the greatest end of a fragment.
pub data_len : (buffer : IpDefragBuf) (fragments : List IpFragment) → HoldsFragments buffer fragments
    → length (data_of buffer) ≡ reach_of fragments
data_len buffer fragments holds =
    ap length holds.contents ∙ length-assembled fragments ∙ end_is_greatest 65535 fragments holds.in_turn

-- The known end and the sections determine whether the fragments are complete.
pub complete_iff_gapless : (buffer : IpDefragBuf) (fragments : List IpFragment) → HoldsFragments buffer fragments
    → ((is_some (known_end_of buffer) && is_gapless (sections_of buffer)) ≡ true) ↔ IsComplete fragments
complete_iff_gapless buffer fragments holds =
    rw holds.end
    (complete_by_sections (sections_of buffer) fragments
    (record {
      ordered = recursion_from_All IsOrdered (sections_of buffer) holds.ordered;
      apart = holds.separate;
      bytes = holds.bytes;
      points = holds.points;
    })
    (end_is_greatest 65535 fragments holds.in_turn))

-- A section that touches a position of the range merges with it.
merging_from_point : (range : IpFragRange) (sections : List IpFragRange) (position : ℕ) → touches position range ≡ true
    → list_any (touches position) sections ≡ true → list_any (merges range) sections ≡ true
merging_from_point range [] position in_range in_sections = absurd (false≢true in_sections)
merging_from_point range (section ∷ sections) position in_range in_sections =
    elim (or_cases (touches position section) (list_any (touches position) sections) in_sections) [
      | inl first ↦ or_left _ _ (merges-from_point range section position in_range first)
      | inr later ↦ or_right _ _ (merging_from_point range sections position in_range later)
    ]

-- A fragment in place ends within the data, and merges with a section.
pub in_place_merges : (buffer : IpDefragBuf) (fragments : List IpFragment) (fragment : IpFragment)
    → HoldsFragments buffer fragments → IsInPlace fragments fragment
    → (fragment_end fragment ≤ length (data_of buffer))
    × (list_any (merges (range_of fragment)) (sections_of buffer) ≡ true)
in_place_merges buffer fragments fragment holds placed =
    let position = placed.touching.0 in (
      rw holds.contents placed.within,
      merging_from_point (range_of fragment) (sections_of buffer) position placed.touching.1
          (holds.points position ∙ placed.touching.2),
    )

module _ (buffer : IpDefragBuf) (reach : ℕ) (reaches : reach ≡ length (data_of buffer)) (fragments : List IpFragment)
    (fragment : IpFragment) (holds : HoldsFragments buffer fragments) where
  -- The known end and the greatest end of its data give the error of a fragment after its fragments.
  pub refusal_by_reach : refusal_of fragments fragment ≡ refusal_at (known_end_of buffer) reach fragment
  refusal_by_reach =
      let same : reach_of fragments ≡ reach = sym (reaches ∙ data_len buffer fragments holds) in
      λ i. refusal_at (sym holds.end i) (same i) fragment

  -- A fragment for which an allocation failed fits, and is not in place.
  pub failed_needs_memory : refusal_at (known_end_of buffer) reach fragment ≡ None → (range : IpFragRange)
      → range ≡ range_of fragment → (succeeds fails : Bool) → succeeds ≡ not fails → fails ≡ true
      → (range.end ≤ length (data_of buffer) → list_any (merges range) (sections_of buffer) ≡ true → succeeds ≡ true)
      → (len : ℕ) → len ≡ range.end
      → MayNeedMemory fragments fragment × (AllocationFailure len ≡ AllocationFailure (fragment_end fragment))
  failed_needs_memory fits range is succeeds fails negation failed in_place len end = (
    (
      refusal_by_reach ∙ fits,
      λ placed.
          let found = in_place_merges buffer fragments fragment holds placed in
          false≢true (sym (negation ∙ ap not failed) ∙ in_place (rw is found.0) (rw is found.1)),
    ),
    ap (λ (len : ℕ). AllocationFailure len) (end ∙ ap (λ (range : IpFragRange). range.end) is),
  )
