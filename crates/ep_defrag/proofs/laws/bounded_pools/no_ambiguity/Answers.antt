use Rattle.std.proofs.Common.{[], ◌∷◌, ◌++◌}
use Rattle.std.proofs.lemmas.List.Elements.{recursion_from_All, All-from_recursion}
use Rattle.std.proofs.lemmas.List.Sorted.{All-permutation}
use Rattle.ep_defrag.specs.IpFragments.{assembled}
use Rattle.ep_defrag.specs.BoundedRuns.{AgreesUnlessRejected}
use Rattle.ep_defrag.proofs.BoundedAgreeLemmas.{all_cuts, same_in_order}
use Rattle.ep_defrag.proofs.laws.bounded_pools.no_ambiguity.Goals as goal

pub returns-clause-agrees : goal.returns-clause-agrees
returns-clause-agrees c limit given last accepted complete begun ended =
    All-from_recursion (AgreesUnlessRejected limit (assembled complete)) (given ++ last ∷ [])
    (all_cuts limit given last accepted complete begun ended)

pub returns-clause-any_order : goal.returns-clause-any_order
returns-clause-any_order c limit given last accepted complete order begun ended moved other after =
    same_in_order limit given last accepted complete begun ended order other
    (recursion_from_All (AgreesUnlessRejected limit (assembled complete)) order
    (All-permutation (AgreesUnlessRejected limit (assembled complete)) (given ++ last ∷ []) order moved
    (returns-clause-agrees c limit given last accepted complete begun ended)))
    after
