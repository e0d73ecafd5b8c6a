use Rattle.std.proofs.Common.{sym, ap, ◌∙◌}
use Rattle.std.specs.Option.{unwrap_or}
use Rattle.ep_defrag.specs.IpFragments.{reach_of}
use Rattle.ep_defrag.proofs.DataLemmas.{end_is_greatest, length-assembled}
use Rattle.ep_defrag.proofs.BufferLemmas.{data_len}
use Rattle.ep_defrag.proofs.laws.pools.known_end_is_greatest.Goals as goal

pub returns-clause-end : goal.returns-clause-end
returns-clause-end c accepted end fit known =
    ap (λ found. unwrap_or found (reach_of accepted)) (sym known) ∙ end_is_greatest 65535 accepted fit

pub returns-clause-data : goal.returns-clause-data
returns-clause-data c accepted fit = length-assembled accepted ∙ end_is_greatest 65535 accepted fit

pub returns-clause-data_len : goal.returns-clause-data_len
returns-clause-data_len c buffer accepted holds = data_len buffer accepted holds
