use Rattle.std.proofs.Common.{◌≡◌, ◌&&◌, eqb, sym, refl, ap}
use Rattle.std.specs.Bool.{Decides}
use Rattle.std.proofs.lemmas.Bool.{and_parts, and_from, eqb-true, eq-eqb}
use Rattle.std.proofs.lemmas.Bool.Decides.{Decides-eqb}
use Rattle.std.proofs.lemmas.Slice.Eq.{slice_eq-Decides}
use Rattle.ep_base.proofs.ComparisonLemmas.{same_option}
use Rattle.std.specs.declared.cmp.Ordering.{Ordering}
use Rattle.std.specs.declared.cmp.Ordering.TheVariants.{Less, Equal, Greater}
use Rattle.std.specs.Ordering.{nat_cmp, ordering_then}
use Rattle.ep_defrag.specs.declared.ip_defrag_error.IpDefragError.TheVariants.{UnalignedFragmentPayloadLen}
use Rattle.ep_defrag.specs.declared.ip_defrag_error.IpDefragError.TheVariants.{SegmentTooBig, ConflictingEnd}
use Rattle.ep_defrag.specs.declared.ip_defrag_error.IpDefragError.TheVariants.{AllocationFailure}
use Rattle.ep_defrag.specs.declared.ip_frag_range.IpFragRange.{IpFragRange}
use Rattle.ep_defrag.proofs.laws.comparisons.Goals as goal

-- Ranges are compared by both numbers.
same_ranges : (a b : IpFragRange) → Decides (eqb a.start b.start && eqb a.end b.end) (a ≡ b)
same_ranges a b = (
  λ equal.
      let parts = and_parts _ _ equal in
      let starts : a.start ≡ b.start = eqb-true _ _ parts.0 in
      let ends : a.end ≡ b.end = eqb-true _ _ parts.1 in
      λ i. record { start = starts i; end = ends i },
  λ same. and_from _ _ (eq-eqb _ _ (ap (λ range. range.start) same)) (eq-eqb _ _ (ap (λ range. range.end) same)),
)

pub returns-clause-equal_buffers : goal.returns-clause-equal_buffers
returns-clause-equal_buffers c a b =
    let bytes = slice_eq-Decides Decides-eqb a.bytes.items b.bytes.items _ refl in
    let sections = slice_eq-Decides same_ranges a.sections.items b.sections.items _ refl in
    let end = same_option _ a.end b.end (λ x y is_x is_y. Decides-eqb x y) in (
      λ equal.
          let number = and_parts _ _ equal in
          let written = and_parts _ _ number.1 in
          let last = and_parts _ _ written.1 in
          record {
            ip_number = λ i. record { 0 = sym (eqb-true a.ip_number.0 b.ip_number.0 number.0) i };
            contents = sym (bytes.0 written.0);
            sections = sym (sections.0 last.0);
            end = sym (end.0 last.1);
          },
      λ same.
          and_from _ _ (eq-eqb a.ip_number.0 b.ip_number.0 (ap (λ number. number.0) (sym same.ip_number)))
          (and_from _ _ (bytes.1 (sym same.contents))
          (and_from _ _ (sections.1 (sym same.sections))
          (end.1 (sym same.end)))),
    )

-- No number is compared after the last ones.
then_equal : (order : Ordering) → order ≡ ordering_then order Equal
then_equal Less = refl
then_equal Equal = refl
then_equal Greater = refl

pub returns-clause-errors : goal.returns-clause-errors
returns-clause-errors c (UnalignedFragmentPayloadLen offset len) (UnalignedFragmentPayloadLen offset' len') =
    ap (ordering_then (nat_cmp offset offset')) (then_equal (nat_cmp len len'))
returns-clause-errors c (SegmentTooBig offset len max) (SegmentTooBig offset' len' max') =
    ap (λ order. ordering_then (nat_cmp offset offset') (ordering_then (nat_cmp len len') order))
    (then_equal (nat_cmp max max'))
returns-clause-errors c (ConflictingEnd previous new) (ConflictingEnd previous' new') =
    ap (ordering_then (nat_cmp previous previous')) (then_equal (nat_cmp new new'))
returns-clause-errors c (AllocationFailure len) (AllocationFailure len') = then_equal (nat_cmp len len')
returns-clause-errors c a b = refl
