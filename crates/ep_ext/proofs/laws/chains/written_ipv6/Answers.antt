use Rattle.ep_ext.proofs.LinkLemmas.{written_chain}
use Rattle.ep_ext.proofs.WalkLengthLemmas.{walk_len}
use Rattle.ep_ext.proofs.laws.chains.written_ipv6.Goals as goal

pub returns : goal.returns
returns c = record { len = walk_len; chain = written_chain }
