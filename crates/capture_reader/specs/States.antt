-- Invariants of a reader's fields.
use Rattle.std.specs.Prelude.{ℕ}
use Rattle.capture_reader.specs.declared.reader.State.{State}
use Rattle.capture_reader.specs.declared.reader.State.TheVariants.{Start}

-- the number of interfaces that are described although nothing was read; the reader's invariant is that there are none
abbrev pub described_at_start : State → ℕ → ℕ
described_at_start Start described = described
described_at_start state described = 0
