use Rattle.ep_base.proofs.TableLemmas.{decided}
use Rattle.capture_reader.proofs.BlockLemmas.{block_is_read_by}
use Rattle.capture_reader.proofs.laws.block.Goals as goal

pub returns : goal.returns
returns c section = decided (block_is_read_by section)
