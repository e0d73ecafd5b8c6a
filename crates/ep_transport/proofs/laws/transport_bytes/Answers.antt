use Rattle.ep_transport.proofs.TransportLemmas.{transport_bytes_are}
use Rattle.ep_transport.proofs.laws.transport_bytes.Goals as goal

pub returns : goal.returns
returns c = transport_bytes_are
