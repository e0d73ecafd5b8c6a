use Rattle.std.proofs.Common.{◌≡◌, ◌-◌, ◌≤◌, length, sym, ◌∙◌, arith}
use Rattle.std.proofs.lemmas.Bool.{eqb-true, eqb-false}
use Rattle.ep_ext.proofs.RefusalLemmas.{part_at_start}
use Rattle.ep_ext.proofs.ValueLemmas.{headers_nothing, headers_more, headers_refused, headers_misplaced, headers_end_read, headers_second_read}
use Rattle.ep_ext.proofs.ipv6_exts.Ipv6Extensions.fill.Goals as goal
use Rattle.ep_ext.proofs.ipv6_exts.Ipv6Extensions.fill.Goals.{else-eq-via-then-eq+else-offset-gt0, else-eq-via-else-eq}

pub loop-offset-init : goal.loop-offset-init
loop-offset-init c = headers_nothing c.args.number.0 c.args.slice.now c.args.self.now c.requires

pub returns-then-offset-gt0-clause-err : goal.returns-then-offset-gt0-clause-err
returns-then-offset-gt0-clause-err c =
    headers_misplaced c.args.number.0 c.args.slice.now c.loop-offset.next.0 c.loop-offset.rest.now c.loop-offset.self
    c.loop-offset.invariant
    (eqb-true _ _ (sym c.eq.ensures ∙ c.if-eq.true)) c.if-offset-gt0.true

pub returns-then-has-clause-ok : goal.returns-then-has-clause-ok
returns-then-has-clause-ok c =
    let start : c.loop-offset.next.0 ≡ 0 → length c.args.slice.now - length c.loop-offset.rest.now ≤ 0 = λ zero_is.
    elim c.else-eq.branch [
      | else-eq-via-then-eq+else-offset-gt0 w ↦ omega arith
      | else-eq-via-else-eq w ↦ absurd (eqb-false _ _ (sym c.eq.ensures ∙ w.if-eq.false) zero_is)
    ] in
    headers_second_read c.args.number.0 c.args.slice.now c.loop-offset.next.0 c.loop-offset.rest.now
    c.loop-offset.self c.loop-offset.invariant
    (sym c.is_extension.ensures ∙ c.loop-offset-test.true) start (sym c.has.ensures ∙ c.if-has.true)

pub with_offset-requires : goal.with_offset-requires
with_offset-requires c =
    let start = part_at_start c.loop-offset.next.0 c.loop-offset.rest.now c.in-Err.error c.in-Err.ensures.err in
    omega (arith, start)

pub loop-offset-preserved : goal.loop-offset-preserved
loop-offset-preserved c =
    let start : c.loop-offset.next.0 ≡ 0 → length c.args.slice.now - length c.loop-offset.rest.now ≤ 0 = λ zero_is.
    elim c.else-eq.branch [
      | else-eq-via-then-eq+else-offset-gt0 w ↦ omega arith
      | else-eq-via-else-eq w ↦ absurd (eqb-false _ _ (sym c.eq.ensures ∙ w.if-eq.false) zero_is)
    ] in
    let ok = c.in-Ok.ensures.ok in
    headers_more c.args.number.0 c.args.slice.now c.loop-offset.next.0 c.loop-offset.rest.now c.loop-offset.self ok.0
    c.in-Ok.after.now _ _ c.loop-offset.invariant
    (sym c.is_extension.ensures ∙ c.loop-offset-test.true) start (sym c.has.ensures ∙ c.if-has.false) ok.3 ok.2 ok.1

pub returns-in-Err-clause-err : goal.returns-in-Err-clause-err
returns-in-Err-clause-err c =
    let start : c.loop-offset.next.0 ≡ 0 → length c.args.slice.now - length c.loop-offset.rest.now ≤ 0 = λ zero_is.
    elim c.else-eq.branch [
      | else-eq-via-then-eq+else-offset-gt0 w ↦ omega arith
      | else-eq-via-else-eq w ↦ absurd (eqb-false _ _ (sym c.eq.ensures ∙ w.if-eq.false) zero_is)
    ] in
    headers_refused c.args.number.0 c.args.slice.now c.loop-offset.next.0 c.loop-offset.rest.now c.loop-offset.self
    c.in-Err.error c.with_offset.result c.loop-offset.invariant
    (sym c.is_extension.ensures ∙ c.loop-offset-test.true) start (sym c.has.ensures
    ∙ c.if-has.false) c.in-Err.ensures.err c.with_offset.ensures

pub returns-clause-ok : goal.returns-clause-ok
returns-clause-ok c =
    headers_end_read c.args.number.0 c.args.slice.now c.loop-offset.next.0 c.loop-offset.rest.now c.loop-offset.self
    c.loop-offset.invariant
    (sym c.is_extension.ensures ∙ c.loop-offset-test.false)
