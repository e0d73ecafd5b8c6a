use Rattle.std.proofs.Common.{rules, Bool, map, sym, ap, ◌∙◌, refl, arith}
use Rattle.ep_defrag.specs.Calls.{answers_to}
use Rattle.ep_defrag.specs.FrameCalls.{calls_pool, pool_answers}
use Rattle.ep_defrag.specs.Pools.{IsDecidedBy, plain_call, plain_answer}
use Rattle.ep_defrag.proofs.AloneLemmas.{cuts_at}
use Rattle.ep_defrag.proofs.FrameLemmas.{calls_read, calls_answered}
use Rattle.ep_defrag.proofs.LoopLemmas.{answered_all, answered_none, some_left, has_space, next_at, answered_more}
use Rattle.ep_defrag.proofs.pool_run.run_calls_with_limit.Goals as goal

pub loop-call-init : goal.loop-call-init
loop-call-init g c = answered_none c.in-Ok.ensures.items (search rules) (search rules) c.with_limit-pool.ensures.holds
    c.with_limit-pool.ensures.limit

pub loop-call-preserved : goal.loop-call-preserved
loop-call-preserved g c =
    let step = c.in-Ok-answer_next.ensures in
    answered_more c.loop-call.invariant c.in-Some.call c.next.new.self.rest.items c.in-Some.ensures.steps.0
    {read = calls_pool (plain_call c.in-Some.call)} {new = c.answer_next.new.pool} refl (record {
      stated = λ table holds. ap (λ printed. pool_answers printed) (step.answer table holds);
      holds = step.holds;
      limit = step.limit;
      no_memory = step.no_memory;
    }) (rw c.unwrap.ensures at c.push.ensures.items) c.push.ensures.capacity

pub unwrap-requires : goal.unwrap-requires
unwrap-requires g c = c.push.ensures.succeeds (omega (
  arith,
  has_space c.loop-call.invariant _ _
      c.in-Some.ensures.steps.0,
))

pub returns-in_default-answer_next : goal.returns-in_default-answer_next
returns-in_default-answer_next g c =
    let known = c.loop-call.invariant in
    let call = c.in-Some.call in
    let left = c.next.new.self.rest.items in
    let at = c.len-at.ensures ∙ c.loop-call.answers.ok.0 in
    record {
      answers = tt;
      limit = tt;
      holds = tt;
      cuts = tt;
      no_memory = tt;
      within = rw at (some_left known call left c.in-Some.ensures.steps.0);
      stopped = λ _ decide decided d.
          let place = next_at known call left c.in-Some.ensures.steps.0 d in
          rw (at, place.0, place.1, ← calls_read c.loop-call.yielded known.reads known.each)
          (rw known.limit at (c.in_default-answer_next.ensures.memory _ (known.held decide decided)));
    }

pub returns : goal.returns
returns g c =
    let known = c.loop-call.invariant in
    let eq = g.CustomChannelId.PartialEq.eq in
    let all = answered_all known (sym c.loop-call.call-iterator.rest.ok.0 ∙ c.in-None.ensures.steps.0) in
    let calls = calls_read c.loop-call.yielded known.reads known.each ∙ ap (map plain_call) all in
    let answers = λ (decide : g.row.V.Denot → g.row.Timestamp.Denot → Bool)
    (decided : IsDecidedBy g.F.Fn c.args.keep decide).
    calls_answered c.args.max eq decide known.reads c.loop-call.answers.items (known.answered decide decided)
    ∙ ap (answers_to c.args.max eq decide) calls in
    record {
      answers = answers;
      limit = known.limit;
      holds = λ decide decided. rw (← calls) (known.held decide decided);
      cuts = λ decide decided.
          cuts_at c.args.max eq decide plain_call plain_answer c.args.calls.items c.loop-call.answers.items
          (answers decide decided);
      no_memory = known.no_memory;
      within = tt;
      stopped = tt;
    }
