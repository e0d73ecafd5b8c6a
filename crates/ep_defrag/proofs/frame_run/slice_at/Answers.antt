use Rattle.std.proofs.Common.{arith}
use Rattle.ep_defrag.proofs.frame_run.slice_at.Goals as goal

pub returns-clause-decided : goal.returns-clause-decided
returns-clause-decided c =
    c.frames.ensures.slices c.args.entry c.args.bytes.now (λ i. omega (arith, c.type_inv.bytes i))
