use Rattle.ep_base.proofs.TableLemmas.{decided}
use Rattle.capture_reader.proofs.ClassicLemmas.{heading_is_read_by}
use Rattle.capture_reader.proofs.laws.heading.Goals as goal

pub returns : goal.returns
returns c = decided heading_is_read_by
