use Rattle.ep_base.proofs.TableLemmas.{decided}
use Rattle.ep_transport.proofs.TcpOptionReadLemmas.{option_is_read}
use Rattle.ep_transport.proofs.laws.tcp_option.Goals as goal

pub returns : goal.returns
returns c = decided option_is_read
