use Rattle.ep_base.proofs.TableLemmas.{decided}
use Rattle.ep_transport.proofs.TransportLemmas.{transport_is_read}
use Rattle.ep_transport.proofs.laws.transport.Goals as goal

pub returns : goal.returns
returns c = λ reading number fragmented. decided (transport_is_read reading number fragmented)
