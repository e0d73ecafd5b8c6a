-- The effect of a call on the pool without the memory of streams, which the allocator decides.
use Rattle.std.specs.Prelude.{ℕ, IsFalse, List, Some, map, nat_eq}
use Rattle.std.specs.List.{list_any}
use Rattle.etherparse.specs.Types.DefragLimits.{DefragLimits}
use Rattle.etherparse.specs.BoundedSteps.{BoundedCall, Gone, Row, Step, call_step, is_for_bytes}

-- a name of the table without the memory of its stream
abbrev pub without_memory : Row ℕ → Row ℕ
without_memory row = record row { room = 0 }

-- a name that left the table, without the memory of its stream
abbrev pub gone_without_memory : Gone ℕ → Gone ℕ
gone_without_memory one = record one { row = without_memory one.row }

-- the effect of a call without the memory of streams
abbrev pub step_without_memory : Step ℕ → Step ℕ
step_without_memory step = record step {
  rows = map without_memory step.rows;
  gone = map gone_without_memory step.gone;
  removed = map without_memory step.removed;
}

-- the effect of a call for which the allocator grants this memory
abbrev pub granted_step : DefragLimits → List (Row ℕ) → BoundedCall ℕ → ℕ → ℕ → Step ℕ
granted_step limits rows call number room = call_step limits nat_eq rows call number (Some room)

-- No stream is evicted for its memory.
abbrev pub EvictsNoneForMemory : Step ℕ → Type 0
EvictsNoneForMemory step = IsFalse (list_any (λ one. is_for_bytes one.cause) step.gone)
