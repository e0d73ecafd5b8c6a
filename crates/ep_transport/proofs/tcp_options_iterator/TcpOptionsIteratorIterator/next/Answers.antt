use Rattle.std.proofs.lemmas.Grind.{common_steps}
use Rattle.std.proofs.Common.{rules, arith}
use Rattle.ep_transport.proofs.tcp_options_iterator.TcpOptionsIteratorIterator.next.Goals as goal

pub returns-in-Err-clause-steps : goal.returns-in-Err-clause-steps
returns-in-Err-clause-steps c = search rules

pub returns-then-kind-eq1-clause-steps : goal.returns-then-kind-eq1-clause-steps
returns-then-kind-eq1-clause-steps c = grind (arith, common_steps)
