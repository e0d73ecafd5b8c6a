use Rattle.std.proofs.lemmas.List.Elements.{recursion_from_All}
use Rattle.ep_defrag.specs.PayloadCuts.{IsCut}
use Rattle.ep_defrag.proofs.CutLemmas.{complete_cuts, assembled-cuts}
use Rattle.ep_defrag.proofs.laws.pools.complete_cuts_are_the_payload.Goals as goal

pub returns-clause-complete : goal.returns-clause-complete
returns-clause-complete c payload cuts all = complete_cuts payload cuts (recursion_from_All (IsCut payload) cuts all)

pub returns-clause-payload : goal.returns-clause-payload
returns-clause-payload c payload cuts all complete =
    assembled-cuts payload cuts (recursion_from_All (IsCut payload) cuts all) complete
