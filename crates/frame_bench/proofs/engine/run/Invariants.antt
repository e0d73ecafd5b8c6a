use Rattle.std.proofs.Common.{◌≡◌, ◌<◌, [], false, true, length}
use Rattle.std.specs.Io.KnownBytes.{IsAtEnd}
use Rattle.line_io.specs.Lines.{IsWithinLine}
use Rattle.line_io.specs.Transfers.{Moves}
use Rattle.line_io.specs.WatchedWords.{KeepsReads, has_failed, inner_of, is_at_end, reads_left}
use Rattle.frame_bench.specs.Advances.{AdvancesTo}
use Rattle.frame_bench.proofs.engine.run.Given as goal

abbrev pub invariant-pieces : goal.invariant-pieces
invariant-pieces g l =
    Moves (λ read written. AdvancesTo [] [] read written l.session.line.items l.session.pool)
    (g.R.Read.remaining (inner_of l.initial.reader)) (g.R.Read.remaining (inner_of l.reader))
    (g.W.Write.contents (inner_of l.initial.writer)) (g.W.Write.contents (inner_of l.writer))
    × IsWithinLine l.session.line.items
    × (has_failed l.reader ≡ false) × (has_failed l.writer ≡ false) × (0 < length l.piece)
    × (is_at_end l.reader ≡ true → IsAtEnd (g.R.Read.remaining (inner_of l.reader)))
    × KeepsReads l.initial.writer l.writer

abbrev pub decreases-pieces : goal.decreases-pieces
decreases-pieces g l = reads_left l.reader
