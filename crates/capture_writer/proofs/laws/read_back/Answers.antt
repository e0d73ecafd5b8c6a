use Rattle.capture_writer.proofs.WrittenLemmas.{capture_more, same_instant, written_shows}
use Rattle.capture_writer.proofs.laws.read_back.Goals as goal

pub returns-clause-shown : goal.returns-clause-shown
returns-clause-shown c link packets fits are = written_shows c.capture.ensures link packets fits are

pub returns-clause-times : goal.returns-clause-times
returns-clause-times c link packet is = same_instant link packet is

pub returns-clause-more : goal.returns-clause-more
returns-clause-more c link packets packet = capture_more link packets packet
