use Rattle.ep_base.proofs.TableLemmas.{decided}
use Rattle.ep_link.proofs.Ethernet2Lemmas.{ethernet2_is_read}
use Rattle.ep_link.proofs.laws.ethernet2.Goals as goal

pub returns : goal.returns
returns c = decided ethernet2_is_read
