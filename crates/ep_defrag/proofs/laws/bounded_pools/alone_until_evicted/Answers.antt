use Rattle.std.proofs.Common.{[]}
use Rattle.ep_defrag.proofs.BoundedAloneLemmas.{alone}
use Rattle.ep_defrag.proofs.BoundedAnswerLemmas.{payload_returned}
use Rattle.ep_defrag.proofs.BoundedKeptLemmas.{all_kept-last, all_kept-undisputed, all_kept-first}
use Rattle.ep_defrag.proofs.laws.bounded_pools.alone_until_evicted.Goals as goal

pub returns-clause-last : goal.returns-clause-last
returns-clause-last g c accepted = all_kept-last [] accepted

pub returns-clause-undisputed : goal.returns-clause-undisputed
returns-clause-undisputed g c accepted = all_kept-undisputed [] accepted

pub returns-clause-first : goal.returns-clause-first
returns-clause-first g c accepted position = all_kept-first [] accepted position

pub returns-clause-answers : goal.returns-clause-answers
returns-clause-answers g c limits calls =
    alone g.CustomChannelId.PartialEq.eq g.met.CustomChannelId.Eq.laws limits calls

pub returns-clause-payload : goal.returns-clause-payload
returns-clause-payload g c limits rows name fragment now number granted payload answer =
    payload_returned g.CustomChannelId.PartialEq.eq g.met.CustomChannelId.Eq.laws limits rows name fragment now number
    granted payload answer
