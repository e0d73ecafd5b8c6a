use Rattle.std.proofs.Common.{arith}
use Rattle.ep_ext.proofs.ValueLemmas.{value_len}
use Rattle.ep_ext.proofs.ipv6_exts.Ipv6Extensions.header_len.Goals as goal

pub returns-clause-bytes : goal.returns-clause-bytes
returns-clause-bytes c = omega (arith, value_len c.args.self.now)
