use Rattle.std.proofs.Common.{◌≡◌, ◌≢◌, ◌+◌, ◌-◌, ◌*◌, ◌/◌, subst, length, take, drop, arith}
use Rattle.std.specs.List.{All}
use Rattle.std.proofs.lemmas.List.{length-drop, take_all}
use Rattle.frame_bench.proofs.SearchLemmas.{mark_in_step, prefix_without, without_in_rest, without_in_step}
use Rattle.frame_bench.proofs.texts.len_before.Goals as goal

pub returns-then-len-lt-STEP-clause-none_before : goal.returns-then-len-lt-STEP-clause-none_before
returns-then-len-lt-STEP-clause-none_before c =
    let text = c.args.text.now in
    let start = 16 * c.steps.step in
    let len = c.len_in_step-len.result in
    prefix_without c.args.mark (start + len) text (omega (arith, c.steps-test.true, c.if-len-lt-STEP.true))
    (without_in_step c.args.mark start len text (omega (arith, c.steps-test.true)) c.len_in_step-len.ensures
    c.steps.invariant)

pub returns-then-len-lt-STEP-clause-found : goal.returns-then-len-lt-STEP-clause-found
returns-then-len-lt-STEP-clause-found c = λ within.
    mark_in_step c.args.mark (16 * c.steps.step) c.len_in_step-len.result c.args.text.now
    (omega (arith, c.steps-test.true)) c.len_in_step-len.ensures c.if-len-lt-STEP.true

pub steps-preserved : goal.steps-preserved
steps-preserved c = λ at below.
    without_in_step c.args.mark (16 * c.steps.step) c.len_in_step-len.result c.args.text.now
    (omega (arith, c.steps-test.true)) c.len_in_step-len.ensures c.steps.invariant at
    (omega (arith, below, c.if-len-lt-STEP.false))

pub returns-clause-none_before : goal.returns-clause-none_before
returns-clause-none_before c =
    let text = c.args.text.now in
    let start = length text / 16 * 16 in
    let len = c.len_before_by_one.result in
    let rest : take (length text - start) (drop start text) ≡ drop start text =
    take_all (length text - start) (drop start text) (omega (arith, length-drop start text)) in
    let within = c.len_before_by_one.ensures.within in
    prefix_without c.args.mark (start + len) text (omega (arith, within))
    (without_in_rest c.args.mark start len text (omega (arith, within))
    (λ at below. c.steps.invariant at (omega (arith, below, c.steps-test.false)))
    (subst (λ t. All (λ byte. byte ≢ c.args.mark) (take len t)) rest c.len_before_by_one.ensures.none_before))
