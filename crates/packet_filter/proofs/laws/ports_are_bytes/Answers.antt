use Rattle.packet_filter.proofs.LawLemmas.{ports_are_bytes}
use Rattle.packet_filter.proofs.laws.ports_are_bytes.Goals as goal

pub returns : goal.returns
returns c = λ packet port. ports_are_bytes packet port
