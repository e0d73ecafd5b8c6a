use Rattle.std.proofs.Common.{◌≡◌, ◌+◌, ◌≤◌, drop}
use Rattle.std.specs.Net.Text.{longest_zero_run, zero_run}
use Rattle.packet_text.proofs.addresses.longest_run.Given as goal

abbrev pub invariant-loop-at : goal.invariant-loop-at
invariant-loop-at l =
    (l.zeros ≡ zero_run (drop l.at l.groups))
    × (l.longest.1 ≡ (longest_zero_run (drop l.at l.groups)).1)
    × (l.longest.0 ≡ l.at + (longest_zero_run (drop l.at l.groups)).0)
    × (l.at + l.zeros ≤ 8) × (l.longest.0 + l.longest.1 ≤ 8)
