use Rattle.std.proofs.lemmas.Result.{on_ok_weaker}
use Rattle.packet_text.proofs.LineLemmas.{four_parts}
use Rattle.packet_dump.proofs.summary.Evictions.push_text.Goals as goal

pub returns : goal.returns
returns c =
    on_ok_weaker c.push_count-4.result
    (λ fourth.
    four_parts _ _ _ _ _ _ _ _ _ c.in_ok-push_count.ensures c.in_ok-push_count-2.ensures
    c.in_ok-push_count-3.ensures fourth) c.push_count-4.ensures
