use Rattle.std.proofs.Common.{rules}
use Rattle.ep_transport.proofs.icmpv6_header.Icmpv6Header.write.Goals as goal

pub returns-clause-ok : goal.returns-clause-ok
returns-clause-ok c = search rules
