use Rattle.ep_base.proofs.TableLemmas.{decided}
use Rattle.ep_ip.proofs.Ipv6Lemmas.{ipv6_header_is_read}
use Rattle.ep_ip.proofs.laws.ipv6_header.Goals as goal

pub returns : goal.returns
returns c = decided ipv6_header_is_read
