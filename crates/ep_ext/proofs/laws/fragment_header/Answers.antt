use Rattle.ep_base.proofs.TableLemmas.{decided}
use Rattle.ep_ext.proofs.FragmentHeaderLemmas.{fragment_header_is_read}
use Rattle.ep_ext.proofs.laws.fragment_header.Goals as goal

pub returns : goal.returns
returns c = decided fragment_header_is_read
