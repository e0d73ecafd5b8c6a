use Rattle.std.proofs.Common.{rules, sym, ◌∙◌, arith}
use Rattle.ep_defrag.proofs.FrameLemmas.{only_read, one_reading, read_cuts_at}
use Rattle.ep_defrag.proofs.LoopLemmas.{answered_all, answered_none, some_left, has_space, next_at, answered_more}
use Rattle.ep_defrag.proofs.frame_run.run_frames.Goals as goal

pub returns-clause-answers : goal.returns-clause-answers
returns-clause-answers g c = λ reads read decide decided.
    let known = c.loop-call.invariant in
    let all = answered_all known (sym c.loop-call.call-iterator.rest.ok.0 ∙ c.in-None.ensures.steps.0) in
    rw (one_reading c.loop-call.yielded known.reads reads known.each (rw all read)) (known.answered decide decided)

pub loop-call-init : goal.loop-call-init
loop-call-init g c = answered_none c.in-Ok.ensures.items (search rules) (search rules) c.new-pool.ensures.holds
    c.new-pool.ensures.limit

pub loop-call-preserved : goal.loop-call-preserved
loop-call-preserved g c =
    let step = c.in-Ok-answer_frame.ensures in
    let read = c.answer_frame.ensures.read in
    answered_more c.loop-call.invariant c.in-Some.call c.next.new.self.rest.items c.in-Some.ensures.steps.0
    {read = read.0} {new = c.answer_frame.new.pool} read.1 (record {
      stated = step.answer read.0 read.1.is;
      holds = step.holds read.0 read.1.is;
      limit = step.limit;
      no_memory = step.no_memory;
    }) (rw c.unwrap.ensures at c.push.ensures.items) c.push.ensures.capacity

pub unwrap-requires : goal.unwrap-requires
unwrap-requires g c = c.push.ensures.succeeds (omega (
  arith,
  has_space c.loop-call.invariant _ _
      c.in-Some.ensures.steps.0,
))

-- The calls before the one at which it stops are those that were made.
pub returns-in_default-answer_frame-clause-read : goal.returns-in_default-answer_frame-clause-read
returns-in_default-answer_frame-clause-read g c =
    let known = c.loop-call.invariant in
    let call = c.in-Some.call in
    let place = next_at known call c.next.new.self.rest.items c.in-Some.ensures.steps.0 call in
    let at = c.len-at.ensures ∙ c.loop-call.answers.ok.0 in
    (known.reads, rw (at, place.0) (only_read c.loop-call.yielded known.reads known.each))

pub returns-in_default-answer_frame-clause-within : goal.returns-in_default-answer_frame-clause-within
returns-in_default-answer_frame-clause-within g c =
    rw (c.len-at.ensures ∙ c.loop-call.answers.ok.0)
    (some_left c.loop-call.invariant c.in-Some.call c.next.new.self.rest.items c.in-Some.ensures.steps.0)

pub returns-in_default-answer_frame-clause-stopped : goal.returns-in_default-answer_frame-clause-stopped
returns-in_default-answer_frame-clause-stopped g c = λ _ reads read decide decided d.
    let known = c.loop-call.invariant in
    let place = next_at known c.in-Some.call c.next.new.self.rest.items c.in-Some.ensures.steps.0 d in
    let at = c.len-at.ensures ∙ c.loop-call.answers.ok.0 in
    let same = one_reading c.loop-call.yielded known.reads reads known.each (rw (at, place.0) at read) in
    rw (at, place.1, same)
    (rw known.limit at (c.in_default-answer_frame.ensures.memory _ (known.held decide decided)))

pub returns-clause-no_memory : goal.returns-clause-no_memory
returns-clause-no_memory g c = c.loop-call.invariant.no_memory

pub returns-clause-limit : goal.returns-clause-limit
returns-clause-limit g c = c.loop-call.invariant.limit

pub returns-clause-read : goal.returns-clause-read
returns-clause-read g c =
    let known = c.loop-call.invariant in
    let all = answered_all known (sym c.loop-call.call-iterator.rest.ok.0 ∙ c.in-None.ensures.steps.0) in
    (known.reads, rw (← all) (only_read c.loop-call.yielded known.reads known.each))

pub returns-clause-holds : goal.returns-clause-holds
returns-clause-holds g c = λ reads read decide decided.
    let known = c.loop-call.invariant in
    let all = answered_all known (sym c.loop-call.call-iterator.rest.ok.0 ∙ c.in-None.ensures.steps.0) in
    rw (one_reading c.loop-call.yielded known.reads reads known.each (rw all read)) (known.held decide decided)

pub returns-clause-cuts : goal.returns-clause-cuts
returns-clause-cuts g c = λ reads read decide decided.
    read_cuts_at 65535 g.CustomChannelId.PartialEq.eq decide reads c.loop-call.answers.items
    (returns-clause-answers g c reads read decide decided)
