use Rattle.std.proofs.Common.{◌++◌, ◌∙◌, ap}
use Rattle.etherparse.specs.Calls.{Answer}
use Rattle.etherparse.specs.Pools.{fragment_in}
use Rattle.etherparse.specs.Layers.{layers_of}
use Rattle.etherparse.proofs.PoolLemmas.{frame_answered, holds_frame}
use Rattle.frame_bench.specs.LineCalls.{frame_call, table_after_lines, with_call}
use Rattle.frame_bench.specs.PoolReplies.{pool_answer_text}
use Rattle.frame_bench.proofs.pool_replies.push_frame.Goals as goal

pub returns-clause-reply : goal.returns-clause-reply
returns-clause-reply c = λ history kept.
    c.in_ok-push_pool_answer.ensures.text
    ∙ ap (λ (answer : Answer). c.args.output.now.items ++ pool_answer_text answer)
    (frame_answered c.args.pool.now c.process_sliced_packet-answer.new.self (fragment_in c.args.packet.now)
    c.args.timestamp c.args.channel c.process_sliced_packet-answer.result c.process_sliced_packet-answer.ensures
    c.in_ok-push_pool_answer.ensures.memory history.limit (table_after_lines history) kept.limit kept.table)

pub returns-clause-holds : goal.returns-clause-holds
returns-clause-holds c = λ history kept.
    let after = holds_frame c.one_more_call.ensures c.args.pool.now c.process_sliced_packet-answer.new.self
    (fragment_in c.args.packet.now) c.args.timestamp c.args.channel c.process_sliced_packet-answer.result
    c.process_sliced_packet-answer.ensures c.in_ok-push_pool_answer.ensures.memory history.limit history.calls
    kept.limit
    kept.table in
    c.give_back.ensures
    (with_call history (frame_call (layers_of c.args.packet.now) c.args.timestamp c.args.channel))
    (record { limit = after.0; table = after.1 })
