use Rattle.std.proofs.Common.{List, ℕ, ap, ◌∙◌, rules}
use Rattle.std.proofs.lemmas.List.{take_rest}
use Rattle.ep_packet.specs.Verdicts.{has_source_route}
use Rattle.ep_packet.proofs.VerdictLemmas.{after_option, after_single}
use Rattle.ep_packet.proofs.checksum_verdict.has_source_route.Goals as goal

pub loop-rest-preserved-in-1 : goal.loop-rest-preserved-in-1
loop-rest-preserved-in-1 c =
    let rest = c.loop-rest.rest.now in
    ap (λ (o : List ℕ). has_source_route o) (take_rest rest 1)
    ∙ after_single rest c.in-len2-up.len_at_least c.in-1.is ∙ c.loop-rest.invariant

pub loop-rest-preserved : goal.loop-rest-preserved
loop-rest-preserved c =
    let rest = c.loop-rest.rest.now in
    let len = c.from-len.result in
    ap (λ (o : List ℕ). has_source_route o) (take_rest rest len)
    ∙ after_option rest len c.in-len2-up.len_at_least c.from-len.ensures (search rules) (search rules)
    c.if-len-lt2.false c.if-rest-len.false (search rules) ∙ c.loop-rest.invariant
