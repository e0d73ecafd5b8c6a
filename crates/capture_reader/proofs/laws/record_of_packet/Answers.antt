use Rattle.ep_base.proofs.TableLemmas.{decided}
use Rattle.capture_reader.proofs.ClassicLemmas.{record_is_read_by}
use Rattle.capture_reader.proofs.laws.record_of_packet.Goals as goal

pub returns : goal.returns
returns c order = decided (record_is_read_by order)
