use Rattle.std.proofs.Common.{◌*◌}
use Rattle.frame_bench.proofs.SearchLemmas.{IsWithoutBefore}
use Rattle.frame_bench.proofs.texts.len_before.Given as goal

-- No byte of the steps so far is the mark.
abbrev pub invariant-steps : goal.invariant-steps
invariant-steps l = IsWithoutBefore l.fn.mark l.fn.text (16 * l.step)
