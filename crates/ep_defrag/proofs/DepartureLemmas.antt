-- The counters still add up after a stream left the table, or began.
use Rattle.std.proofs.Common.{ℕ, ◌+◌, cond, is_some, Option, Some, None, arith}
use Rattle.ep_defrag.specs.declared.ip_defrag_buf.IpDefragBuf.{IpDefragBuf}
use Rattle.ep_defrag.specs.declared.departure.Departure.{Departure}
use Rattle.ep_defrag.specs.declared.departure.Departure.TheVariants.{Completed, Removed, Evicted}
use Rattle.ep_defrag.specs.declared.evicted_stream.EvictionCause.TheVariants.{Expired, Overlap, Streams, Bytes}
use Rattle.ep_defrag.specs.declared.defrag_statistics.DefragStatistics.{DefragStatistics}
use Rattle.ep_defrag.specs.BoundedCounts.{AddUp, counted, with_departure}
use Rattle.ep_defrag.specs.BoundedHoldings.{after_departure}

pub departed : (old : DefragStatistics) (departure : Departure) (streams : ℕ) → AddUp old (1 + streams)
    → AddUp (with_departure old departure) streams
departed old Completed streams sums = λ small. omega (arith, sums small)
departed old Removed streams sums = λ small. omega (arith, sums small)
departed old (Evicted Expired) streams sums = λ small. omega (arith, sums small)
departed old (Evicted Overlap) streams sums = λ small. omega (arith, sums small)
departed old (Evicted Streams) streams sums = λ small. omega (arith, sums small)
departed old (Evicted Bytes) streams sums = λ small. omega (arith, sums small)

-- after a name left, open or discarded
pub left : (old : DefragStatistics) (buffer : Option IpDefragBuf) (departure : Departure) (streams : ℕ)
    → AddUp old (cond (is_some buffer) 1 0 + streams) → AddUp (after_departure old buffer departure) streams
left old None departure streams sums = λ small. omega (arith, sums small)
left old (Some buffer) departure streams sums = departed old departure streams sums

-- after a stream began
pub begun : (old : DefragStatistics) (streams : ℕ) → AddUp old streams
    → AddUp (record old { begun = counted old.begun 1 }) (1 + streams)
begun old streams sums = λ small. omega (arith, sums (omega (arith, small)))
