use Rattle.std.proofs.Common.{[], ◌∷◌, ◌++◌, append_assoc}
use Rattle.ep_defrag.proofs.BoundedLimitLemmas.{remaining-end, remaining-beyond, are_within-one, are_within-shares}
use Rattle.ep_defrag.proofs.BoundedStayLemmas.{others_stay, rejected_stays}
use Rattle.ep_defrag.proofs.BoundedFloodLemmas.{own_accepted, outlasts}
use Rattle.ep_defrag.proofs.BoundedOrderLemmas.{in_order}
use Rattle.ep_defrag.proofs.BoundedAnswerLemmas.{over_budget, discarded_why, discarded_if, discarded_stays}
use Rattle.ep_defrag.proofs.BoundedAnswerLemmas.{discarding_leaves}
use Rattle.ep_defrag.proofs.laws.bounded_pools.evicted_exactly.Goals as goal

pub returns-clause-order : goal.returns-clause-order
returns-clause-order g c limits calls =
    in_order g.CustomChannelId.PartialEq.eq g.met.CustomChannelId.Eq.laws limits calls

pub returns-clause-accepted : goal.returns-clause-accepted
returns-clause-accepted g c limits rows name fragment now number granted answer =
    let found =
    own_accepted g.CustomChannelId.PartialEq.eq g.met.CustomChannelId.Eq.laws limits rows name fragment now number
    granted answer in
    (found.0, found.1.0, found.1.1, found.1.2, found.1.3, found.1.4)

pub returns-clause-stays : goal.returns-clause-stays
returns-clause-stays g c limits earlier later row own space fits =
    let stays = remaining-end limits earlier (row ∷ later ++ own ∷ []) fits in (
      stays.0,
      rw (append_assoc earlier (row ∷ later) (own ∷ []), append_assoc stays.0 (row ∷ later) (own ∷ [])) stays.1,
    )

pub returns-clause-goes : goal.returns-clause-goes
returns-clause-goes g c limits earlier later row own space unfit =
    rw (append_assoc earlier (row ∷ later) (own ∷ [])) (remaining-beyond limits earlier row (later ++ own ∷ []) unfit)

pub returns-clause-own : goal.returns-clause-own
returns-clause-own g c limits others own space =
    remaining-end limits others (own ∷ []) (are_within-one limits own space)

pub returns-clause-survival : goal.returns-clause-survival
returns-clause-survival g c limits rows shares few = are_within-shares limits rows shares few

pub returns-clause-flood : goal.returns-clause-flood
returns-clause-flood g c limits earlier later row name fragment now number granted differs few shares share answer =
    outlasts g.CustomChannelId.PartialEq.eq g.met.CustomChannelId.Eq.laws limits earlier later row name fragment now
    number granted differs few shares share answer

pub returns-clause-others : goal.returns-clause-others
returns-clause-others g c limits rows name other fragment now number granted differs answer =
    others_stay g.CustomChannelId.PartialEq.eq g.met.CustomChannelId.Eq.laws limits rows name other fragment now number
    granted differs answer

pub returns-clause-rejected : goal.returns-clause-rejected
returns-clause-rejected g c limits rows name fragment now number granted error answer =
    rejected_stays limits g.CustomChannelId.PartialEq.eq rows name fragment now number granted error answer

pub returns-clause-over_budget : goal.returns-clause-over_budget
returns-clause-over_budget g c limits rows name fragment now number granted answer =
    over_budget g.CustomChannelId.PartialEq.eq g.met.CustomChannelId.Eq.laws limits rows name fragment now number
    granted answer

pub returns-clause-discarded : goal.returns-clause-discarded
returns-clause-discarded g c limits rows name fragment now number granted =
    let eq = g.CustomChannelId.PartialEq.eq in
    let laws = g.met.CustomChannelId.Eq.laws in (
      λ answer. discarded_why eq laws limits rows name fragment now number granted answer,
      λ found. discarded_if eq laws limits rows name fragment now number granted found,
    )

pub returns-clause-discards : goal.returns-clause-discards
returns-clause-discards g c limits rows name fragment now number granted row named =
    let eq = g.CustomChannelId.PartialEq.eq in
    let laws = g.met.CustomChannelId.Eq.laws in (
      λ none. discarded_stays eq laws limits rows name fragment now number granted row named none,
      λ discarding. discarding_leaves eq laws limits rows name fragment now number granted row named discarding,
    )
