use Rattle.ep_transport.proofs.ReadingLemmas.{cut_decided}
use Rattle.ep_transport.proofs.laws.transport_with_trailing_bytes.Goals as goal

pub returns : goal.returns
returns c = cut_decided
