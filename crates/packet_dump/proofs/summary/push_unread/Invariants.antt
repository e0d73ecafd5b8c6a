use Rattle.std.proofs.Common.{◌≡◌, drop}
use Rattle.packet_dump.specs.SummaryTexts.{added}
use Rattle.packet_dump.proofs.summary.push_unread.Given as goal

-- The sum so far, with the remaining counts, is the total.
abbrev pub invariant-loop-times : goal.invariant-loop-times
invariant-loop-times l = added l.all (drop l.times-index l.unread) ≡ added 0 l.unread
