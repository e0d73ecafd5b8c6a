use Rattle.ep_ip.proofs.PacketLemmas.{ip_decided}
use Rattle.ep_ip.proofs.laws.ip.Goals as goal

pub returns : goal.returns
returns c = ip_decided
