use Rattle.std.proofs.Common.{◌≡◌, ◌-◌, ◌≤◌, Bool, ◌||◌, [], length, refl, sym, ap, ◌∙◌, arith}
use Rattle.std.proofs.lemmas.Bool.{eqb-true, eqb-false}
use Rattle.ep_base.specs.Bytes.{AreBytes}
use Rattle.ep_base.proofs.BytesLemmas.{rest_of}
use Rattle.ep_base.specs.Readings.{slices}
use Rattle.ep_ext.specs.Chains.{ipv6}
use Rattle.ep_ext.specs.Ipv6ExtensionSlices.{extension_slice_part, extension_slice_bytes}
use Rattle.ep_ext.proofs.HeaderLawLemmas.{header_laws}
use Rattle.ep_ext.proofs.ChainLemmas.{one_chain, refused_no_chain}
use Rattle.ep_ext.proofs.ReadLemmas.{read_nothing, slice_more, slice_refused, slice_misplaced, all_slices}
use Rattle.ep_ext.proofs.ipv6_exts_slice.Ipv6ExtensionsSlice.from_slice.Goals as goal
use Rattle.ep_ext.proofs.ipv6_exts_slice.Ipv6ExtensionsSlice.from_slice.Goals.{else-eq-via-then-eq+else-offset-gt0, else-eq-via-else-eq}

pub loop-offset-init : goal.loop-offset-init
loop-offset-init c = record {
  taken = [];
  parts = [];
  read = read_nothing ipv6 slices c.args.number.0
      c.args.slice.now;
  fragments = refl;
}

pub returns-then-offset-gt0-clause-err : goal.returns-then-offset-gt0-clause-err
returns-then-offset-gt0-clause-err c =
    slice_misplaced c.args.number.0 c.args.slice.now c.loop-offset.next.0 c.loop-offset.rest.now
    c.loop-offset.fragmented c.loop-offset.invariant
    (eqb-true _ _ (sym c.eq.ensures ∙ c.if-eq.true)) c.if-offset-gt0.true

pub returns-then-offset-gt0-clause-only : goal.returns-then-offset-gt0-clause-only
returns-then-offset-gt0-clause-only c =
    let bytes = c.args.slice.now in
    let fits : AreBytes bytes = λ i. omega (arith, c.type_inv.slice i) in
    let refused = slice_misplaced c.args.number.0 bytes c.loop-offset.next.0 c.loop-offset.rest.now
    c.loop-offset.fragmented c.loop-offset.invariant
    (eqb-true _ _ (sym c.eq.ensures ∙ c.if-eq.true)) c.if-offset-gt0.true in
    λ chain is. refused_no_chain header_laws ipv6 slices c.args.number.0 bytes fits _ refused chain is

pub returns-in-Err-clause-err : goal.returns-in-Err-clause-err
returns-in-Err-clause-err c =
    let bytes = c.args.slice.now in
    let number = c.loop-offset.next.0 in
    let rest = c.loop-offset.rest.now in
    let start : number ≡ 0 → length bytes - length rest ≤ 0 = λ zero_is. elim c.else-eq.branch [
      | else-eq-via-then-eq+else-offset-gt0 w ↦ omega arith
      | else-eq-via-else-eq w ↦ absurd (eqb-false _ _ (sym c.eq.ensures ∙ w.if-eq.false) zero_is)
    ] in
    slice_refused c.args.number.0 bytes number rest c.loop-offset.fragmented c.in-Err.error c.with_offset.result
    c.loop-offset.invariant
    (sym c.is_extension.ensures ∙ c.loop-offset-test.true) start c.in-Err.ensures.err c.with_offset.ensures

pub returns-in-Err-clause-only : goal.returns-in-Err-clause-only
returns-in-Err-clause-only c =
    let bytes = c.args.slice.now in
    let fits : AreBytes bytes = λ i. omega (arith, c.type_inv.slice i) in
    let number = c.loop-offset.next.0 in
    let rest = c.loop-offset.rest.now in
    let start : number ≡ 0 → length bytes - length rest ≤ 0 = λ zero_is. elim c.else-eq.branch [
      | else-eq-via-then-eq+else-offset-gt0 w ↦ omega arith
      | else-eq-via-else-eq w ↦ absurd (eqb-false _ _ (sym c.eq.ensures ∙ w.if-eq.false) zero_is)
    ] in
    let refused = slice_refused c.args.number.0 bytes number rest c.loop-offset.fragmented c.in-Err.error
    c.with_offset.result c.loop-offset.invariant
    (sym c.is_extension.ensures ∙ c.loop-offset-test.true) start c.in-Err.ensures.err c.with_offset.ensures in
    λ chain is. refused_no_chain header_laws ipv6 slices c.args.number.0 bytes fits _ refused chain is

pub loop-offset-preserved : goal.loop-offset-preserved
loop-offset-preserved c =
    let bytes = c.args.slice.now in
    let number = c.loop-offset.next.0 in
    let rest = c.loop-offset.rest.now in
    let start : number ≡ 0 → length bytes - length rest ≤ 0 = λ zero_is. elim c.else-eq.branch [
      | else-eq-via-then-eq+else-offset-gt0 w ↦ omega arith
      | else-eq-via-else-eq w ↦ absurd (eqb-false _ _ (sym c.eq.ensures ∙ w.if-eq.false) zero_is)
    ] in
    let ok = c.in-Ok.ensures.ok in
    let part = c.in-Ok.part in
    let after = rest_of rest (extension_slice_bytes part) ok.0 (length c.slice.result.now) ok.1
    (ap length c.slice.ensures) in
    slice_more c.args.number.0 bytes number rest c.loop-offset.fragmented
    (extension_slice_part part) ok.0 _ _ _ c.loop-offset.invariant
    (sym c.is_extension.ensures ∙ c.loop-offset-test.true) start ok.2 c.next_header-next.ensures after
    (ap (λ (b : Bool). c.loop-offset.fragmented || b) c.is_fragmenting_payload-fragmented.ensures)

pub invariant_of-shown : goal.invariant_of-shown
invariant_of-shown c =
    let all = all_slices c.args.number.0 c.args.slice.now c.loop-offset.next.0 c.loop-offset.rest.now
    c.loop-offset.fragmented c.loop-offset.invariant
    (sym c.is_extension.ensures ∙ c.loop-offset-test.false) in
    record { fragments = all.fragments }

pub returns-clause-ok : goal.returns-clause-ok
returns-clause-ok c =
    let all = all_slices c.args.number.0 c.args.slice.now c.loop-offset.next.0 c.loop-offset.rest.now
    c.loop-offset.fragmented c.loop-offset.invariant
    (sym c.is_extension.ensures ∙ c.loop-offset-test.false) in
    (all.split, all.chain)

pub returns-clause-only : goal.returns-clause-only
returns-clause-only c =
    let bytes = c.args.slice.now in
    let fits : AreBytes bytes = λ i. omega (arith, c.type_inv.slice i) in
    let all = all_slices c.args.number.0 bytes c.loop-offset.next.0 c.loop-offset.rest.now c.loop-offset.fragmented
    c.loop-offset.invariant
    (sym c.is_extension.ensures ∙ c.loop-offset-test.false) in
    λ chain is. one_chain header_laws ipv6 slices c.args.number.0 bytes fits _ chain all.chain is
