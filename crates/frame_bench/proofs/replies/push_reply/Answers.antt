use Rattle.std.proofs.Common.{refl}
use Rattle.std.proofs.lemmas.Result.{on_ok_weaker}
use Rattle.etherparse.specs.Calls.{drops_streams}
use Rattle.frame_bench.specs.LineCalls.{new_pool, with_call}
use Rattle.frame_bench.proofs.PoolLemmas.{HoldsHistory-new, at_ok}
use Rattle.frame_bench.proofs.replies.push_reply.Goals as goal

pub returns-in-Slice-clause-reply : goal.returns-in-Slice-clause-reply
returns-in-Slice-clause-reply c =
    rw c.in-Slice.is (on_ok_weaker c.push_slice.result (λ reported history kept. reported) c.push_slice.ensures)

pub returns-in-Slice-clause-holds : goal.returns-in-Slice-clause-holds
returns-in-Slice-clause-holds c =
    rw c.in-Slice.is (at_ok c.push_slice.result (λ history kept. (history, refl, kept)))

pub returns-in-Fragment-clause-reply : goal.returns-in-Fragment-clause-reply
returns-in-Fragment-clause-reply c = rw c.in-Fragment.is c.push_fragment.ensures.reply

pub returns-in-Fragment-clause-holds : goal.returns-in-Fragment-clause-holds
returns-in-Fragment-clause-holds c = rw c.in-Fragment.is c.push_fragment.ensures.holds

pub returns-in-Drop-clause-holds : goal.returns-in-Drop-clause-holds
returns-in-Drop-clause-holds c =
    rw c.in-Drop.is
    (at_ok c.extend_from_slice.result
    (λ history kept.
    (with_call history (drops_streams c.in-Drop.timestamp), refl, c.drop_below.ensures history kept)))

pub returns-in-Limit-clause-holds : goal.returns-in-Limit-clause-holds
returns-in-Limit-clause-holds c =
    rw c.in-Limit.is
    (at_ok c.extend_from_slice-in-Limit.result
    (λ history kept. (
      new_pool c.in-Limit.max,
      refl,
      HoldsHistory-new c.with_limit.result c.in-Limit.max c.with_limit.ensures.limit c.with_limit.ensures.holds,
    )))
