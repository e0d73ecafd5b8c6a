use Rattle.std.proofs.Common.{arith}
use Rattle.std.proofs.lemmas.Grind.{common_steps}
use Rattle.capture_reader.proofs.FrameLemmas.{few_no_block}
use Rattle.capture_reader.proofs.block.Block.parse_complete.Goals as goal

pub returns-then-bytes-lt12-clause-none : goal.returns-then-bytes-lt12-clause-none
returns-then-bytes-lt12-clause-none c =
    few_no_block c.args.order c.args.interfaces.now c.args.bytes.now c.if-bytes-lt12.true

pub of_kind-requires-in-ObsoletePacket-clause-kind : goal.of_kind-requires-in-ObsoletePacket-clause-kind
of_kind-requires-in-ObsoletePacket-clause-kind c = grind (arith, common_steps)
