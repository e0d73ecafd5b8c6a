use Rattle.std.proofs.Common.{◌∙◌}
use Rattle.etherparse.specs.BoundedPools.{limits_in, names_in}
use Rattle.packet_dump.specs.Summaries.{fragments_with}
use Rattle.packet_dump.proofs.PoolLemmas.{open_rows}
use Rattle.packet_dump.proofs.pooling.Pooling.fragments.Goals as goal

pub returns : goal.returns
returns c = λ history kept.
    let pool = c.args.self.now.pool in
    let counters = c.statistics.ensures.shown ∙ kept.statistics in
    let incomplete = c.stream_count.ensures.count
    ∙ open_rows (limits_in pool) (names_in pool) history.rows kept.rows.each in
    c.of.ensures ∙ (λ i. fragments_with (counters i) (c.reports_evictions.ensures i) (incomplete i))
