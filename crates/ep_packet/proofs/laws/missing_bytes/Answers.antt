use Rattle.ep_packet.proofs.MissingLemmas.{frame_counts, frame_not_again}
use Rattle.ep_packet.proofs.laws.missing_bytes.Goals as goal

pub returns : goal.returns
returns c = record { counts = frame_counts; not_again = frame_not_again }
