use Rattle.std.proofs.Common.{◌≡◌, ◌++◌, List, ℕ, length}
use Rattle.frame_bench.specs.LineCalls.{HoldsLines}
use Rattle.frame_bench.specs.Advances.{AdvancesTo}
use Rattle.frame_bench.proofs.engine.Session.take.Given as goal

abbrev pub invariant-lines : goal.invariant-lines
invariant-lines l =
    (taken : List ℕ) × (l.fn.piece ≡ taken ++ l.rest)
    × ((before : List (List ℕ)) → HoldsLines before l.fn.self.pool
    → AdvancesTo before l.fn.self.line.items taken l.self.output.items l.self.line.items l.self.pool)

abbrev pub decreases-lines : goal.decreases-lines
decreases-lines l = length l.rest
