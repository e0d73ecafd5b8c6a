use Rattle.ep_base.proofs.TableLemmas.{decided}
use Rattle.ep_ip.proofs.Ipv4Lemmas.{ipv4_header_is_read}
use Rattle.ep_ip.proofs.laws.ipv4_header.Goals as goal

pub returns : goal.returns
returns c = decided ipv4_header_is_read
