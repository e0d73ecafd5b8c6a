use Rattle.std.proofs.Common.{◌≡◌, ◌∷◌, ◌++◌, ℕ, List, [], inl, inr, refl}
use Rattle.std.proofs.lemmas.Result.{on_ok_weaker}
use Rattle.etherparse.specs.Types.IpDefragPool.{IpDefragPool}
use Rattle.frame_bench.specs.Answers.{IsAnswer}
use Rattle.frame_bench.specs.LineCalls.{PoolHistory, IsAfterRequest, HoldsHistory, HoldsLines}
use Rattle.frame_bench.specs.Replies.{IsReply}
use Rattle.frame_bench.specs.Requests.{Asks}
use Rattle.frame_bench.specs.declared.requests.Request.{Request}
use Rattle.frame_bench.proofs.PoolLemmas.{HoldsLines-push, at_ok}
use Rattle.frame_bench.proofs.replies.push_answer.Goals as goal

-- The reply to a line's request is the answer to the line.
reply_answers : (line : List ℕ) (request : Request) (bytes old new : List ℕ) (pool : IpDefragPool ℕ ℕ)
    → Asks line request bytes
    → ((history : PoolHistory) → HoldsHistory history pool → (reply : List ℕ) × IsReply history request bytes reply
    × (new ≡ old ++ reply))
    → (before : List (List ℕ)) → HoldsLines before pool → (answer : List ℕ) × IsAnswer before line answer
    × (new ≡ old ++ answer)
reply_answers line request bytes old new pool asks replied before (history, are, kept) =
    let reply = replied history kept in
    (reply.0, inl (request, bytes, asks, (history, are, reply.1)), reply.2)

-- The pool after a line's request is in the state after the line.
reply_holds : (line : List ℕ) (request : Request) (bytes : List ℕ) (pool next : IpDefragPool ℕ ℕ)
    → Asks line request bytes
    → ((history : PoolHistory) → HoldsHistory history pool → (after : PoolHistory)
    × IsAfterRequest history request bytes after × HoldsHistory after next)
    → (before : List (List ℕ)) → HoldsLines before pool → HoldsLines (before ++ line ∷ []) next
reply_holds line request bytes pool next asks made before (history, are, kept) =
    let more = made history kept in
    HoldsLines-push before line history more.0 next are (inl (request, bytes, asks, more.1)) more.2

-- A line that is not a request does not change the pool.
nothing_holds : (line : List ℕ) (pool : IpDefragPool ℕ ℕ)
    → ((request : Request) (bytes : List ℕ) → Asks line request bytes → ⊥)
    → (before : List (List ℕ)) → HoldsLines before pool → HoldsLines (before ++ line ∷ []) pool
nothing_holds line pool none before (history, are, kept) =
    HoldsLines-push before line history history pool are (inr (none, refl)) kept

pub returns-in-Some-clause-answer : goal.returns-in-Some-clause-answer
returns-in-Some-clause-answer c =
    let asks = rw c.in-Some.is at c.in_ok-request.ensures.some in
    let bytes = c.as_slice.result.now in
    on_ok_weaker c.push_reply.result
    (reply_answers c.args.line.now c.in-Some.request bytes c.args.output.now.items c.push_reply.new.output.items
    c.args.pool.now (rw c.as_slice.ensures.value asks)) c.push_reply.ensures.reply

pub returns-in-Some-clause-holds : goal.returns-in-Some-clause-holds
returns-in-Some-clause-holds c =
    let asks = rw c.in-Some.is at c.in_ok-request.ensures.some in
    let bytes = c.as_slice.result.now in
    on_ok_weaker c.push_reply.result
    (reply_holds c.args.line.now c.in-Some.request bytes c.args.pool.now c.push_reply.new.pool
    (rw c.as_slice.ensures.value asks)) c.push_reply.ensures.holds

pub returns-in-None-clause-holds : goal.returns-in-None-clause-holds
returns-in-None-clause-holds c =
    at_ok c.extend_from_slice.result
    (nothing_holds c.args.line.now c.args.pool.now (rw c.in-None.is at c.in_ok-request.ensures.none))
