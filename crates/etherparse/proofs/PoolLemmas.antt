-- The state and the answers of a pool, with numbers as timestamps and channels, after a list of calls and one more
-- call.
use Rattle.std.proofs.Common.{◌≡◌, ℕ, Bool, nat_eq, nat_le, List, [], ◌∷◌, ◌++◌, Option, Some, None, sym, ap, ◌∙◌}
use Rattle.std.proofs.Common.{subst}
use Rattle.std.specs.Prelude.{IsFalse, Result}
use Rattle.etherparse.specs.Types.IpDefragError.{IpDefragError}
use Rattle.etherparse.specs.Types.IpDefragPayloadVec.{IpDefragPayloadVec}
use Rattle.etherparse.specs.Types.IpDefragPool.{IpDefragPool}
use Rattle.etherparse.specs.Types.IpFragId.{IpFragId}
use Rattle.etherparse.specs.Calls.{Call, Kept, gives_frame, table_after, answer_to, table_with}
use Rattle.etherparse.specs.Pools.{limit_of, HoldsEntry, HoldsTable, TakesFrame, plain_frame_answer, stream_named}
use Rattle.etherparse.specs.Pools.{is_allocation_failure_in}
use Rattle.etherparse.specs.Streams.{PacketFragment}

-- How one more call changes the state kept for each stream, as the library's law states it.
abbrev pub OneMoreCall : Type 0
OneMoreCall = (limit : ℕ) (keep : ℕ → ℕ → Bool) (calls : List (Call ℕ ℕ ℕ)) (call : Call ℕ ℕ ℕ) (name : IpFragId ℕ)
    → table_after limit nat_eq keep (calls ++ call ∷ []) name
    ≡ table_with limit nat_eq keep (table_after limit nat_eq keep calls) call name

-- The pool holds the state that these calls leave.
abbrev pub HoldsCalls : ℕ → List (Call ℕ ℕ ℕ) → IpDefragPool ℕ ℕ → Type 0
HoldsCalls limit calls pool = HoldsTable nat_eq pool (table_after limit nat_eq nat_le calls)

-- A pool that holds the state after these calls, changed by one more call, holds the state after all of the calls.
pub holds_one_more : OneMoreCall → (pool : IpDefragPool ℕ ℕ) (limit : ℕ) (calls : List (Call ℕ ℕ ℕ))
    (call : Call ℕ ℕ ℕ) → HoldsTable nat_eq pool (table_with limit nat_eq nat_le (table_after limit nat_eq nat_le calls)
    call)
    → HoldsCalls limit (calls ++ call ∷ []) pool
holds_one_more law pool limit calls call stored = record {
  apart = stored.apart;
  each = λ name.
      subst (λ kept. HoldsEntry (limit_of pool) (stream_named nat_eq name pool) kept)
      (sym (law limit nat_le calls call name)) (stored.each name);
}

-- The state of a pool after a frame for which no allocation failed.
pub holds_frame : OneMoreCall → (old new : IpDefragPool ℕ ℕ) (carried : Option PacketFragment) (timestamp channel : ℕ)
    (result : Result (Option IpDefragPayloadVec) IpDefragError)
    → TakesFrame nat_eq old new carried timestamp channel result → IsFalse (is_allocation_failure_in result)
    → (limit : ℕ) (calls : List (Call ℕ ℕ ℕ)) → limit_of old ≡ limit → HoldsCalls limit calls old
    → (limit_of new ≡ limit) × HoldsCalls limit (calls ++ gives_frame carried timestamp channel ∷ []) new
holds_frame law old new None timestamp channel result takes enough limit calls is stored = (
  ap limit_of takes.1 ∙ is,
  holds_one_more law new limit calls (gives_frame None timestamp channel) (rw takes.1 stored),
)
holds_frame law old new (Some carried) timestamp channel result takes enough limit calls is stored = (
  takes.limit ∙ is,
  holds_one_more law new limit calls (gives_frame (Some carried) timestamp channel)
      (rw is at (takes.holds enough (table_after limit nat_eq nat_le calls) stored)),
)

pub frame_answered : (old new : IpDefragPool ℕ ℕ) (carried : Option PacketFragment) (timestamp channel : ℕ)
    (result : Result (Option IpDefragPayloadVec) IpDefragError)
    → TakesFrame nat_eq old new carried timestamp channel result → IsFalse (is_allocation_failure_in result)
    → (limit : ℕ) (table : IpFragId ℕ → Option (Kept ℕ)) → limit_of old ≡ limit → HoldsTable nat_eq old table
    → plain_frame_answer result ≡ answer_to {V = ℕ} limit table (gives_frame carried timestamp channel)
frame_answered old new None timestamp channel result takes enough limit table is stored = ap plain_frame_answer takes.0
frame_answered old new (Some carried) timestamp channel result takes enough limit table is stored =
    rw is at (takes.answer enough table stored)
