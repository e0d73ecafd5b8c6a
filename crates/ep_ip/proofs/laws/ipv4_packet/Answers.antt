use Rattle.ep_base.proofs.TableLemmas.{decided}
use Rattle.ep_ip.proofs.Ipv4Lemmas.{ipv4_packet_is_read}
use Rattle.ep_ip.proofs.laws.ipv4_packet.Goals as goal

pub returns : goal.returns
returns c = decided ipv4_packet_is_read
