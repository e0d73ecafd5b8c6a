use Rattle.ep_base.proofs.TableLemmas.{decided}
use Rattle.ep_link.proofs.LinuxSllLemmas.{linux_sll_is_read}
use Rattle.ep_link.proofs.laws.linux_sll.Goals as goal

pub returns : goal.returns
returns c = decided linux_sll_is_read
