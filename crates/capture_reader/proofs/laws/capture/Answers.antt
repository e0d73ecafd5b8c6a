use Rattle.capture_reader.proofs.CaptureLemmas.{capture_decided}
use Rattle.capture_reader.proofs.laws.capture.Goals as goal

pub returns : goal.returns
returns c = capture_decided
