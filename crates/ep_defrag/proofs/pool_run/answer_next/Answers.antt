use Rattle.std.proofs.Common.{sym, ◌∙◌, of_calls}
use Rattle.ep_defrag.proofs.TakingLemmas.{frame_answer, frame_holds, frame_memory, frame_limit}
use Rattle.ep_defrag.proofs.pool_run.answer_next.Goals as goal

pub returns-then-failed_to_allocate-clause-memory : goal.returns-then-failed_to_allocate-clause-memory
returns-then-failed_to_allocate-clause-memory g c = λ table holds.
    rw c.in-Frame.is
    (frame_memory g.CustomChannelId.PartialEq.eq c.args.pool.now c.process_sliced_packet-answer.new.self _ _
    c.process_sliced_packet-answer.result _ c.process_sliced_packet-answer.ensures
    (sym c.failed_to_allocate.ensures ∙ c.if-failed_to_allocate.true) table holds)

pub returns-else-failed_to_allocate-clause-answer : goal.returns-else-failed_to_allocate-clause-answer
returns-else-failed_to_allocate-clause-answer g c = λ table holds.
    rw c.in-Frame.is
    (frame_answer g.CustomChannelId.PartialEq.eq c.args.pool.now c.process_sliced_packet-answer.new.self _ _
    c.process_sliced_packet-answer.result _ c.process_sliced_packet-answer.ensures
    (sym c.failed_to_allocate.ensures ∙ c.if-failed_to_allocate.false) table holds)

pub returns-else-failed_to_allocate-clause-holds : goal.returns-else-failed_to_allocate-clause-holds
returns-else-failed_to_allocate-clause-holds g c = λ decide decided table holds.
    rw c.in-Frame.is
    (frame_holds g.CustomChannelId.PartialEq.eq c.args.pool.now c.process_sliced_packet-answer.new.self _ _
    c.process_sliced_packet-answer.result _ c.process_sliced_packet-answer.ensures
    (sym c.failed_to_allocate.ensures ∙ c.if-failed_to_allocate.false) table holds)

pub returns-else-failed_to_allocate-clause-no_memory : goal.returns-else-failed_to_allocate-clause-no_memory
returns-else-failed_to_allocate-clause-no_memory g c = sym c.failed_to_allocate.ensures ∙ c.if-failed_to_allocate.false

pub returns-else-failed_to_allocate-clause-limit : goal.returns-else-failed_to_allocate-clause-limit
returns-else-failed_to_allocate-clause-limit g c =
    frame_limit g.CustomChannelId.PartialEq.eq c.args.pool.now c.process_sliced_packet-answer.new.self _ _
    c.process_sliced_packet-answer.result _ c.process_sliced_packet-answer.ensures

-- A drop does not fail to allocate.
pub returns-in-Drop-clause-memory : goal.returns-in-Drop-clause-memory
returns-in-Drop-clause-memory g c = tt

pub returns-in-Drop-clause-holds : goal.returns-in-Drop-clause-holds
returns-in-Drop-clause-holds g c = λ decide decided table holds.
    rw c.in-Drop.is
    (c.retain.ensures.holds table holds (decide c.in-Drop.value) (λ timestamp answer met. search (of_calls, decided)))

pub returns-in-Return-clause-holds : goal.returns-in-Return-clause-holds
returns-in-Return-clause-holds g c = λ decide decided table holds.
    rw c.in-Return.is (c.return_buf.ensures.holds table holds)
