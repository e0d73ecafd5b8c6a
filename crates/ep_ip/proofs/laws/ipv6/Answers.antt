use Rattle.ep_ip.proofs.PacketLemmas.{ipv6_decided}
use Rattle.ep_ip.proofs.laws.ipv6.Goals as goal

pub returns : goal.returns
returns c = ipv6_decided
