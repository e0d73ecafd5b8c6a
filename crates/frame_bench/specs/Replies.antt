-- Replies to requests.
use Rattle.std.specs.Prelude.{◌≡◌, ℕ, List, codes}
use Rattle.etherparse.specs.Calls.{drops_streams}
use Rattle.frame_bench.specs.LineCalls.{PoolHistory}
use Rattle.frame_bench.specs.PoolReplies.{IsFragmentReply, call_reply}
use Rattle.frame_bench.specs.SliceReplies.{IsSliceReply}
use Rattle.frame_bench.specs.declared.requests.Request.{Request}
use Rattle.frame_bench.specs.declared.requests.Request.TheVariants.{Slice, Fragment, Drop, Limit}

-- Holds if this is the reply to a request with these bytes, on a pool with this history. A request about a frame's
-- layers does not depend on the history.
abbrev pub IsReply : PoolHistory → Request → List ℕ → List ℕ → Type 0
IsReply history (Slice entry) bytes reply = IsSliceReply entry bytes reply
IsReply history (Fragment entry timestamp channel) bytes reply =
    IsFragmentReply history entry timestamp channel bytes reply
IsReply history (Drop timestamp) bytes reply = reply ≡ call_reply history (drops_streams timestamp)
IsReply history (Limit max) bytes reply = reply ≡ codes "ok"
