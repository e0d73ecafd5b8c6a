use Rattle.std.proofs.Common.{◌≡◌, true}
use Rattle.frame_bench.proofs.RequestLemmas.{asked_slice, asked_slice_of}
use Rattle.frame_bench.proofs.requests.parse_slice.Goals as goal

pub returns-in_default-clause-none : goal.returns-in_default-clause-none
returns-in_default-clause-none c = λ request frame asks.
    let asked = asked_slice c.args.text.now request frame asks in
    c.in_default.ensures.none asked.0 asked.1 asked.2

pub returns-else-branch-clause-none : goal.returns-else-branch-clause-none
returns-else-branch-clause-none c = λ request frame asks.
    let is =
    asked_slice_of c.args.text.now c.in-Some.digits.now c.in-Some.entry c.in-Some.ensures.some request frame asks in
    let holds : c.in_ok-decode.field-0 ≡ true = c.in_ok-decode.ensures.only frame is.1 in
    cc (holds, c.if-branch.false)
