use Rattle.std.proofs.Common.{arith}
use Rattle.std.proofs.lemmas.Grind.{common_steps}
use Rattle.ep_transport.proofs.tcp_option_element.append_bytes_if_fit.Goals as goal

pub returns-else-option-remaining_capacity-clause-appended : goal.returns-else-option-remaining_capacity-clause-appended
returns-else-option-remaining_capacity-clause-appended c = grind (arith, common_steps)
