use Rattle.std.proofs.Common.{◌≡◌, true, arith}
use Rattle.std.proofs.lemmas.Grind.{common_steps}
use Rattle.frame_bench.proofs.RequestLemmas.{asked_fragment, asked_fragment_of, asked_from_channel}
use Rattle.frame_bench.proofs.RequestLemmas.{asked_from_timestamp}
use Rattle.frame_bench.proofs.pool_requests.parse_fragment.Goals as goal

pub returns-in_default-clause-none : goal.returns-in_default-clause-none
returns-in_default-clause-none c = λ request frame asks.
    let asked = asked_fragment c.args.text.now request frame asks in
    c.in_default.ensures.none asked.0 asked.1 asked.2

pub returns-in_default-number_at-2-clause-none : goal.returns-in_default-number_at-2-clause-none
returns-in_default-number_at-2-clause-none c = λ request frame asks.
    let entry = c.in-Some.entry in
    let timed = c.in-Some.timed.now in
    let time = c.in-Some-number_at.ensures.some in
    let asked =
    asked_from_timestamp timed time.0 c.in-Some-number_at.numbered.now c.in-Some-number_at.timestamp entry
    (time.1, time.2) request frame
    (asked_fragment_of c.args.text.now timed entry c.in-Some.ensures.some request frame asks) in
    c.in_default-number_at-2.ensures.none asked.0 asked.1 asked.2 asked.3.0 asked.3.1

pub returns-else-branch-clause-none : goal.returns-else-branch-clause-none
returns-else-branch-clause-none c = λ request frame asks.
    let entry = c.in-Some.entry in
    let timed = c.in-Some.timed.now in
    let timestamp = c.in-Some-number_at.timestamp in
    let numbered = c.in-Some-number_at.numbered.now in
    let time = c.in-Some-number_at.ensures.some in
    let number = c.in-Some-number_at-2.ensures.some in
    let asked =
    asked_from_timestamp timed time.0 numbered timestamp entry (time.1, time.2) request frame
    (asked_fragment_of c.args.text.now timed entry c.in-Some.ensures.some request frame asks) in
    let is =
    asked_from_channel numbered number.0 c.in-Some-number_at-2.digits.now timestamp c.in-Some-number_at-2.channel entry
    (number.1, number.2) request frame asked in
    let holds : c.in_ok-decode.field-0 ≡ true = c.in_ok-decode.ensures.only frame is.1 in
    cc (holds, c.if-branch.false)

pub returns-then-branch-clause-some : goal.returns-then-branch-clause-some
returns-then-branch-clause-some c = grind (arith, common_steps)
