use Rattle.std.proofs.Common.{refl, rules}
use Rattle.std.proofs.lemmas.List.Elements.{same_from_all_zip}
use Rattle.ep_defrag.proofs.BufferLemmas.{HoldsFragments-same}
use Rattle.ep_defrag.proofs.ip_defrag_buf.IpDefragBuf.clone.Goals as goal

pub returns-clause-holds : goal.returns-clause-holds
returns-clause-holds c accepted holds =
    HoldsFragments-same c.args.self.now _ accepted holds
    (same_from_all_zip _ _ _ c.in_ok-clone.ensures.cases.0 (λ x y r. search rules))
    (same_from_all_zip _ _ _ c.in_ok-clone-2.ensures.cases.0 (λ x y r. search rules))
    refl
