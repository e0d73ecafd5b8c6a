use Rattle.std.proofs.Common.{true, ◌≡◌}
use Rattle.std.proofs.lemmas.List.Elements.{recursion_from_All}
use Rattle.ep_defrag.specs.Completing.{is_part}
use Rattle.ep_defrag.proofs.CompletingLemmas.{small_not_complete}
use Rattle.ep_defrag.proofs.laws.pools.small_limits_complete_nothing.Goals as goal

pub returns : goal.returns
returns c limit accepted small fit parts =
    small_not_complete limit accepted small fit
    (recursion_from_All (λ fragment. is_part fragment ≡ true) accepted parts)
