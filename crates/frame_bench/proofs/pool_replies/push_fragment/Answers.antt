use Rattle.std.proofs.Common.{inl, inr, refl}
use Rattle.std.proofs.lemmas.Result.{on_ok_weaker}
use Rattle.etherparse.specs.Layers.{layers_of}
use Rattle.frame_bench.specs.LineCalls.{frame_call, with_call}
use Rattle.frame_bench.specs.PoolReplies.{call_reply}
use Rattle.frame_bench.specs.SliceReplies.{refusal_text}
use Rattle.frame_bench.proofs.pool_replies.push_fragment.Goals as goal

pub returns-in-Ok-clause-reply : goal.returns-in-Ok-clause-reply
returns-in-Ok-clause-reply c =
    let layers = layers_of c.in-Ok.packet in
    on_ok_weaker c.push_frame.result
    (λ reported history kept. (
      call_reply history (frame_call layers c.args.timestamp c.args.channel),
      inl (layers, c.in-Ok.ensures.ok, refl),
      reported history kept,
    )) c.push_frame.ensures.reply

pub returns-in-Ok-clause-holds : goal.returns-in-Ok-clause-holds
returns-in-Ok-clause-holds c =
    let layers = layers_of c.in-Ok.packet in
    on_ok_weaker c.push_frame.result
    (λ reported history kept. (
      with_call history (frame_call layers c.args.timestamp c.args.channel),
      inl (layers, c.in-Ok.ensures.ok, refl),
      reported history kept,
    )) c.push_frame.ensures.holds

pub returns-in-Err-clause-reply : goal.returns-in-Err-clause-reply
returns-in-Err-clause-reply c =
    on_ok_weaker c.push_refusal.result
    (λ pushed history kept.
    (refusal_text c.in-Err.error, inr (c.in-Err.error, c.in-Err.ensures.err, refl), pushed)) c.push_refusal.ensures

pub returns-in-Err-clause-holds : goal.returns-in-Err-clause-holds
returns-in-Err-clause-holds c =
    on_ok_weaker c.push_refusal.result
    (λ pushed history kept. (history, inr (c.in-Err.error, c.in-Err.ensures.err, refl), kept)) c.push_refusal.ensures
