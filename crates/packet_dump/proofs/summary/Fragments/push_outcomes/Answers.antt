use Rattle.std.proofs.lemmas.Result.{on_ok_weaker}
use Rattle.packet_text.proofs.LineLemmas.{four_parts}
use Rattle.packet_dump.proofs.summary.Fragments.push_outcomes.Goals as goal

pub returns : goal.returns
returns c =
    on_ok_weaker c.push_evictions.result
    (λ fourth.
    four_parts _ _ _ _ _ _ _ _ _ c.in_ok-push_count.ensures c.in_ok-push_count-2.ensures
    c.in_ok-push_count-3.ensures fourth) c.push_evictions.ensures
