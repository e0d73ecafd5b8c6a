use Rattle.ep_transport.proofs.TcpOptionItemLemmas.{items_present, one_list}
use Rattle.ep_transport.proofs.laws.tcp_option_items.Goals as goal

pub returns : goal.returns
returns c = record { some = items_present; one = one_list }
