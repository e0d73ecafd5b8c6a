use Rattle.std.proofs.Common.{◌≡◌, ◌-◌, ◌≤◌, Some, length, sym, subst, ◌∙◌, arith}
use Rattle.std.proofs.lemmas.Bool.{eqb-true, eqb-false}
use Rattle.ep_ext.specs.declared.ipv6_exts.Ipv6Extensions.{Ipv6Extensions}
use Rattle.ep_ext.proofs.RefusalLemmas.{part_at_start}
use Rattle.ep_ext.proofs.ValuePrefixLemmas.{IsLaxValueOf, value_nothing, value_more, value_refused, value_misplaced, value_ends, value_second}
use Rattle.ep_ext.proofs.ipv6_exts.Ipv6Extensions.fill_lax.Goals as goal
use Rattle.ep_ext.proofs.ipv6_exts.Ipv6Extensions.fill_lax.Goals.{else-eq-via-then-eq+else-offset-gt0, else-eq-via-else-eq}

pub loop-offset-init : goal.loop-offset-init
loop-offset-init c = value_nothing c.args.number.0 c.args.slice.now c.args.self.now c.requires

pub returns-then-offset-gt0 : goal.returns-then-offset-gt0
returns-then-offset-gt0 c =
    value_misplaced c.args.number.0 c.args.slice.now c.loop-offset.next.0 c.loop-offset.rest.now c.loop-offset.self
    c.loop-offset.invariant
    (eqb-true _ _ (sym c.eq.ensures ∙ c.if-eq.true)) c.if-offset-gt0.true

pub returns-then-has : goal.returns-then-has
returns-then-has c =
    let start : c.loop-offset.next.0 ≡ 0 → length c.args.slice.now - length c.loop-offset.rest.now ≤ 0 = λ zero_is.
    elim c.else-eq.branch [
      | else-eq-via-then-eq+else-offset-gt0 w ↦ omega arith
      | else-eq-via-else-eq w ↦ absurd (eqb-false _ _ (sym c.eq.ensures ∙ w.if-eq.false) zero_is)
    ] in
    value_second c.args.number.0 c.args.slice.now c.loop-offset.next.0 c.loop-offset.rest.now
    c.loop-offset.self c.loop-offset.invariant
    (sym c.is_extension.ensures ∙ c.loop-offset-test.true) start (sym c.has.ensures ∙ c.if-has.true)

pub with_offset-requires : goal.with_offset-requires
with_offset-requires c =
    let start = part_at_start c.loop-offset.next.0 c.loop-offset.rest.now c.in-Err.error c.in-Err.ensures.err in
    omega (arith, start)

pub loop-offset-preserved : goal.loop-offset-preserved
loop-offset-preserved c =
    let start : c.loop-offset.next.0 ≡ 0 → length c.args.slice.now - length c.loop-offset.rest.now ≤ 0 = λ zero_is.
    elim c.else-eq.branch [
      | else-eq-via-then-eq+else-offset-gt0 w ↦ omega arith
      | else-eq-via-else-eq w ↦ absurd (eqb-false _ _ (sym c.eq.ensures ∙ w.if-eq.false) zero_is)
    ] in
    let ok = c.in-Ok.ensures.ok in
    value_more c.args.number.0 c.args.slice.now c.loop-offset.next.0 c.loop-offset.rest.now c.loop-offset.self ok.0
    c.in-Ok.after.now _ _ c.loop-offset.invariant
    (sym c.is_extension.ensures ∙ c.loop-offset-test.true) start (sym c.has.ensures ∙ c.if-has.false) ok.3 ok.2 ok.1

pub returns-in-Err : goal.returns-in-Err
returns-in-Err c =
    let start : c.loop-offset.next.0 ≡ 0 → length c.args.slice.now - length c.loop-offset.rest.now ≤ 0 = λ zero_is.
    elim c.else-eq.branch [
      | else-eq-via-then-eq+else-offset-gt0 w ↦ omega arith
      | else-eq-via-else-eq w ↦ absurd (eqb-false _ _ (sym c.eq.ensures ∙ w.if-eq.false) zero_is)
    ] in
    subst (λ (e : Ipv6Extensions). IsLaxValueOf c.args.number.0 c.args.slice.now c.loop-offset.next.0
    c.loop-offset.rest.now e (Some c.error_with_layer.result)) (sym c.in-Err.ensures.unchanged)
    (value_refused c.args.number.0 c.args.slice.now c.loop-offset.next.0 c.loop-offset.rest.now c.loop-offset.self
    c.in-Err.error c.with_offset.result c.error_with_layer.result c.loop-offset.invariant
    (sym c.is_extension.ensures ∙ c.loop-offset-test.true) start (sym c.has.ensures
    ∙ c.if-has.false) c.in-Err.ensures.err c.with_offset.ensures c.error_with_layer.ensures)

pub returns : goal.returns
returns c =
    value_ends c.args.number.0 c.args.slice.now c.loop-offset.next.0 c.loop-offset.rest.now c.loop-offset.self
    c.loop-offset.invariant
    (sym c.is_extension.ensures ∙ c.loop-offset-test.false)
