use Rattle.std.proofs.Common.{arith}
use Rattle.std.proofs.lemmas.Grind.{common_steps}
use Rattle.link_types.proofs.openings.skips_sll.Goals as goal

pub returns-then-word_at-le-MAX_PACKET_TYPE-clause-value : goal.returns-then-word_at-le-MAX_PACKET_TYPE-clause-value
returns-then-word_at-le-MAX_PACKET_TYPE-clause-value c = grind (arith, common_steps)
