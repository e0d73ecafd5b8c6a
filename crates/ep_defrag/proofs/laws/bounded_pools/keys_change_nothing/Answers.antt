use Rattle.ep_defrag.proofs.BoundedAlikeLemmas.{answers_alike, steps_alike}
use Rattle.ep_defrag.proofs.laws.bounded_pools.keys_change_nothing.Goals as goal

pub returns-clause-answers : goal.returns-clause-answers
returns-clause-answers g c old_a new_a old_b new_b rows alike name fragment now a b first second neither_a neither_b =
    answers_alike g.CustomChannelId.PartialEq.eq old_a new_a old_b new_b rows alike name fragment now a b first second
    neither_a neither_b

pub returns-clause-steps : goal.returns-clause-steps
returns-clause-steps g c old_a new_a old_b new_b rows alike call number granted first second =
    steps_alike g.CustomChannelId.PartialEq.eq g.met.CustomChannelId.Eq.laws old_a new_a old_b new_b rows alike call
    number
    granted first second
