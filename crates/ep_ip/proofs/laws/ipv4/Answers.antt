use Rattle.ep_ip.proofs.PacketLemmas.{ipv4_decided}
use Rattle.ep_ip.proofs.laws.ipv4.Goals as goal

pub returns : goal.returns
returns c = ipv4_decided
