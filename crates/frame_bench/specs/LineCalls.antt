-- The calls of lines on the program's pool, whose timestamps, channels and values of drops are numbers.
use Rattle.std.specs.Prelude.{◌≡◌, ℕ, ◌⊎◌, nat_eq, nat_le, List, [], ◌∷◌, ◌++◌, Option}
use Rattle.std.specs.Option.{option_map}
use Rattle.etherparse.specs.Types.IpDefragPool.{IpDefragPool}
use Rattle.etherparse.specs.Types.IpFragId.{IpFragId}
use Rattle.etherparse.specs.Calls.{Call, gives_frame, drops_streams, Kept, table_after}
use Rattle.etherparse.specs.Pools.{limit_of, HoldsTable}
use Rattle.etherparse.specs.Streams.{packet_fragment}
use Rattle.etherparse.specs.Types.SliceError.{SliceError}
use Rattle.etherparse.specs.FrameFragments.{fragment_of}
use Rattle.etherparse.specs.Frame.{IsFrame}
use Rattle.etherparse.specs.Layers.{Layers}
use Rattle.etherparse.specs.FrameRefusals.{RefusesFrame}
use Rattle.frame_bench.specs.Requests.{Asks}
use Rattle.frame_bench.specs.declared.requests.Request.{Request}
use Rattle.frame_bench.specs.declared.requests.Request.TheVariants.{Slice, Fragment, Drop, Limit}

-- a call on the program's pool
abbrev pub NumberCall : Type 0
NumberCall = Call ℕ ℕ ℕ

-- call with a frame: the fragment of its layers, if any, its timestamp and its channel
abbrev pub frame_call : Layers → ℕ → ℕ → NumberCall
frame_call layers timestamp channel = gives_frame (option_map packet_fragment (fragment_of layers)) timestamp channel

-- History of the program's pool: the limit of the last line `limit`, or else 65535, and the calls since that line, in
-- their order.
pub record PoolHistory : Type 0 where
  pub limit : ℕ
  pub calls : List NumberCall

abbrev pub new_pool : ℕ → PoolHistory
new_pool limit = record { limit = limit; calls = [] }

abbrev pub with_call : PoolHistory → NumberCall → PoolHistory
with_call history call = record { limit = history.limit; calls = history.calls ++ call ∷ [] }

-- Holds if this is the history after a request with these bytes. A request about a frame's layers makes no call, nor do
-- bytes that are not a frame; a limit begins a new pool.
abbrev pub IsAfterRequest : PoolHistory → Request → List ℕ → PoolHistory → Type 0
IsAfterRequest before (Slice entry) bytes after = after ≡ before
IsAfterRequest before (Fragment entry timestamp channel) bytes after =
    ((layers : Layers) × IsFrame entry bytes layers
    × (after ≡ with_call before (frame_call layers timestamp channel)))
    ⊎ ((error : SliceError) × RefusesFrame entry bytes error × (after ≡ before))
IsAfterRequest before (Drop timestamp) bytes after = after ≡ with_call before (drops_streams timestamp)
IsAfterRequest before (Limit max) bytes after = after ≡ new_pool max

-- Holds if this is the history after a line: changed by its request, or unchanged if it is none.
abbrev pub IsAfterLine : PoolHistory → List ℕ → PoolHistory → Type 0
IsAfterLine before line after =
    ((request : Request) × (bytes : List ℕ) × Asks line request bytes × IsAfterRequest before request bytes after)
    ⊎ (((request : Request) (bytes : List ℕ) → Asks line request bytes → ⊥) × (after ≡ before))

-- Holds if this is the history after lines, in their order.
abbrev pub IsAfterLines : PoolHistory → List (List ℕ) → PoolHistory → Type 0
IsAfterLines before [] after = after ≡ before
IsAfterLines before (line ∷ lines) after =
    (next : PoolHistory) × IsAfterLine before line next × IsAfterLines next lines after

-- Holds if this is the history after these lines, the first of the text.
abbrev pub IsHistory : List (List ℕ) → PoolHistory → Type 0
IsHistory lines history = IsAfterLines (new_pool 65535) lines history

-- state of each stream of a pool with this history; a drop keeps the streams whose timestamp isn't below its value
abbrev pub table_after_lines : PoolHistory → IpFragId ℕ → Option (Kept ℕ)
table_after_lines history = table_after history.limit nat_eq nat_le history.calls

-- Holds if the pool has the limit of the history, and the streams after its calls.
pub record HoldsHistory (history : PoolHistory) (pool : IpDefragPool ℕ ℕ) : Type 0 where
  pub limit : limit_of pool ≡ history.limit
  pub table : HoldsTable nat_eq pool (table_after_lines history)

-- Holds if the pool is in the state after these lines.
abbrev pub HoldsLines : List (List ℕ) → IpDefragPool ℕ ℕ → Type 0
HoldsLines lines pool = (history : PoolHistory) × IsHistory lines history × HoldsHistory history pool
