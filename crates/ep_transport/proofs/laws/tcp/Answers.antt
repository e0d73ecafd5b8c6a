use Rattle.ep_base.proofs.TableLemmas.{decided}
use Rattle.ep_transport.proofs.TcpLemmas.{tcp_is_read}
use Rattle.ep_transport.proofs.laws.tcp.Goals as goal

pub returns : goal.returns
returns c = decided tcp_is_read
