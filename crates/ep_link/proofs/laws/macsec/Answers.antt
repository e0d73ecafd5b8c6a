use Rattle.ep_base.proofs.TableLemmas.{decided}
use Rattle.ep_link.proofs.MacsecLemmas.{macsec_is_read}
use Rattle.ep_link.proofs.laws.macsec.Goals as goal

pub returns : goal.returns
returns c = decided macsec_is_read
