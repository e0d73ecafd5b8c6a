use Rattle.ep_defrag.specs.Isolation.{fragments_of}
use Rattle.ep_defrag.specs.Calls.{calls_of}
use Rattle.ep_defrag.proofs.CutLemmas.{complete_cuts}
use Rattle.ep_defrag.proofs.AloneLemmas.{cuts_only, cuts_come, all_cuts}
use Rattle.ep_defrag.proofs.OpenLemmas.{own_stays}
use Rattle.ep_defrag.proofs.laws.pools.cuts_are_reassembled.Goals as goal

pub returns-clause-only : goal.returns-clause-only
returns-clause-only g c limit keep name calls payload short stays gives =
    cuts_only limit g.CustomChannelId.PartialEq.eq keep payload short g.met.CustomChannelId.Eq.laws name calls stays
    gives

pub returns-clause-comes : goal.returns-clause-comes
returns-clause-comes g c limit keep name calls payload short stays gives final covers =
    let eq = g.CustomChannelId.PartialEq.eq in
    let laws = g.met.CustomChannelId.Eq.laws in
    cuts_come limit eq keep payload short laws name calls stays gives
    ((complete_cuts payload (fragments_of (calls_of eq name calls))
    (all_cuts limit eq keep payload short laws name calls stays gives)).1 (final, covers))

pub returns-clause-kept : goal.returns-clause-kept
returns-clause-kept g c limit keep name calls own =
    own_stays limit g.CustomChannelId.PartialEq.eq keep name calls own
