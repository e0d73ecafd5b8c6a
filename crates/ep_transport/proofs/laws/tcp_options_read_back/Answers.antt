use Rattle.ep_transport.proofs.TcpOptionItemLemmas.{read_back}
use Rattle.ep_transport.proofs.laws.tcp_options_read_back.Goals as goal

pub returns : goal.returns
returns c = read_back
