use Rattle.std.proofs.lemmas.Grind.{common_steps}
use Rattle.std.proofs.Common.{arith}
use Rattle.ep_defrag.proofs.carried_fragment.ipv4_fragment.Goals as goal

pub returns-then-not-is_fragmenting_payload : goal.returns-then-not-is_fragmenting_payload
returns-then-not-is_fragmenting_payload c = grind (arith, common_steps)
