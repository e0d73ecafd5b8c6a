use Rattle.ep_base.proofs.TableLemmas.{decided}
use Rattle.ep_ext.proofs.IpAuthLemmas.{ip_auth_is_read}
use Rattle.ep_ext.proofs.laws.ip_auth.Goals as goal

pub returns : goal.returns
returns c = decided ip_auth_is_read
