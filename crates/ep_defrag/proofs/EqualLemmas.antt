-- When buffers are equal, in terms of the lists of fragments that they hold.
use Rattle.std.proofs.Common.{◌≡◌, ℕ, zero, suc, ◌<◌, Bool, true, false, ◌||◌, List, [], ◌∷◌, length, sym, refl, ap}
use Rattle.std.proofs.Common.{◌∙◌, arith}
use Rattle.std.specs.List.{All, AllByRecursion, list_any}
use Rattle.std.proofs.lemmas.Bool.Decides.{nat_tests}
use Rattle.std.proofs.lemmas.List.Elements.{recursion_from_All}
use Rattle.ep_defrag.specs.declared.ip_defrag_buf.IpDefragBuf.{IpDefragBuf}
use Rattle.ep_defrag.specs.Ranges.{has_byte, touches}
use Rattle.ep_defrag.specs.IpFragments.{IpFragment, range_of, covers, is_covered, is_touched, FillEqually, TouchSamePositions}
use Rattle.ep_defrag.specs.Buffers.{HoldsFragments, IsUnchanged, ip_number_of, sections_of}
use Rattle.ep_defrag.proofs.ApartLemmas.{from_apart, same_from_positions}

-- Buffers with equal contents hold lists that fill and touch the same positions.
pub alike_from_same : (a b : IpDefragBuf) (fragments others : List IpFragment) → HoldsFragments a fragments
    → HoldsFragments b others → IsUnchanged a b → FillEqually fragments others × TouchSamePositions fragments others
alike_from_same a b fragments others holds holds' same = (
  record {
    covered = λ position.
        sym (holds.bytes position)
        ∙ ap (list_any (has_byte position)) (sym same.sections)
        ∙ holds'.bytes position;
    contents = sym holds.contents ∙ sym same.contents ∙ holds'.contents;
    end = sym holds.end ∙ sym same.end ∙ holds'.end;
  },
  λ position.
      sym (holds.points position)
      ∙ ap (list_any (touches position)) (sym same.sections)
      ∙ holds'.points position,
)

-- Buffers that hold lists which fill and touch the same positions have equal contents, since the sections are in order.
pub same_from_alike : (a b : IpDefragBuf) (fragments others : List IpFragment) → ip_number_of a ≡ ip_number_of b
    → HoldsFragments a fragments → HoldsFragments b others → FillEqually fragments others
    → TouchSamePositions fragments others
    → IsUnchanged a b
same_from_alike a b fragments others number holds holds' alike touched = record {
  ip_number = sym number;
  contents = holds'.contents ∙ sym alike.contents ∙ sym holds.contents;
  sections =
      sym
      (same_from_positions 0 0 (sections_of a) (sections_of b) (from_apart (sections_of a) a.in_order)
      (from_apart (sections_of b) b.in_order)
      (λ position. holds.bytes position ∙ alike.covered position ∙ sym (holds'.bytes position))
      (λ position. holds.points position ∙ touched position ∙ sym (holds'.points position)));
  end = holds'.end ∙ sym alike.end ∙ sym holds.end;
}

-- ---- fragments that are not empty
or_pairs : (a b c d : Bool) → ((a || b) || (c || d)) ≡ ((a || c) || (b || d))
or_pairs true b c d = refl
or_pairs false true true d = refl
or_pairs false true false d = refl
or_pairs false false true d = refl
or_pairs false false false d = refl

-- Fragments that are not empty touch position 0 exactly if they cover it.
touched_at_start : (fragments : List IpFragment) → AllByRecursion (λ fragment. 0 < length fragment.bytes) fragments
    → is_touched fragments 0 ≡ is_covered fragments 0
touched_at_start [] all = refl
touched_at_start (fragment ∷ fragments) all =
    let first : touches 0 (range_of fragment) ≡ covers 0 fragment = grind (arith, nat_tests, all.0) in
    ap (λ t. t || is_touched fragments 0) first
    ∙ ap (λ t. covers 0 fragment || t) (touched_at_start fragments all.1)

-- Fragments that are not empty touch any other position exactly if they cover it or the position before it.
touched_after : (before : ℕ) (fragments : List IpFragment)
    → AllByRecursion (λ fragment. 0 < length fragment.bytes) fragments
    → is_touched fragments (suc before) ≡ (is_covered fragments (suc before) || is_covered fragments before)
touched_after before [] all = refl
touched_after before (fragment ∷ fragments) all =
    let first : touches (suc before) (range_of fragment) ≡ (covers (suc before) fragment || covers before fragment) =
    grind (arith, nat_tests, all.0) in
    ap (λ t. t || is_touched fragments (suc before)) first
    ∙ ap (λ t. (covers (suc before) fragment || covers before fragment) || t) (touched_after before fragments all.1)
    ∙ or_pairs (covers (suc before) fragment) (covers before fragment) (is_covered fragments (suc before))
    (is_covered fragments before)

touch_by_recursion : (fragments others : List IpFragment) → FillEqually fragments others
    → AllByRecursion (λ fragment. 0 < length fragment.bytes) fragments
    → AllByRecursion (λ fragment. 0 < length fragment.bytes) others → (position : ℕ)
    → is_touched fragments position ≡ is_touched others position
touch_by_recursion fragments others alike all all' zero =
    touched_at_start fragments all ∙ alike.covered 0 ∙ sym (touched_at_start others all')
touch_by_recursion fragments others alike all all' (suc before) =
    touched_after before fragments all
    ∙ ap (λ t. t || is_covered fragments before) (alike.covered (suc before))
    ∙ ap (λ t. is_covered others (suc before) || t) (alike.covered before)
    ∙ sym (touched_after before others all')

-- Lists of such fragments touch the same positions if they fill the same positions.
pub touch_from_fill : (fragments others : List IpFragment) → FillEqually fragments others
    → All (λ fragment. 0 < length fragment.bytes) fragments → All (λ fragment. 0 < length fragment.bytes) others
    → TouchSamePositions fragments others
touch_from_fill fragments others alike all all' =
    touch_by_recursion fragments others alike
    (recursion_from_All (λ fragment. 0 < length fragment.bytes) fragments all)
    (recursion_from_All (λ fragment. 0 < length fragment.bytes) others all')
