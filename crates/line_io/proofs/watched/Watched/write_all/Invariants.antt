use Rattle.std.proofs.Common.{◌≡◌, ◌++◌, List, ℕ, length, false}
use Rattle.std.specs.Io.KnownBytes.{Appends}
use Rattle.line_io.specs.WatchedWords.{KeepsReads, has_failed, inner_of}
use Rattle.line_io.proofs.watched.Watched.write_all.Given as goal

abbrev pub invariant-parts : goal.invariant-parts
invariant-parts g l =
    (written : List ℕ)
    × Appends (g.W.Write.contents (inner_of l.initial.self)) (g.W.Write.contents (inner_of l.self)) written
    × (l.fn.bytes ≡ written ++ l.rest) × (has_failed l.self ≡ false) × KeepsReads l.initial.self l.self

abbrev pub decreases-parts : goal.decreases-parts
decreases-parts g l = length l.rest
