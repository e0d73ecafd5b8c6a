use Rattle.ep_base.proofs.TableLemmas.{decided}
use Rattle.ep_link.proofs.ArpLemmas.{arp_is_read}
use Rattle.ep_link.proofs.laws.arp.Goals as goal

pub returns : goal.returns
returns c = decided arp_is_read
