use Rattle.std.proofs.Common.{◌≡◌, ◌+◌, ◌-◌, ◌*◌, ◌≤◌, ◌++◌, drop, length}
use Rattle.packet_text.proofs.AddressLemmas.{further_groups}
use Rattle.packet_text.proofs.addresses.put_groups.Given as goal

abbrev pub invariant-loop-at : goal.invariant-loop-at
invariant-loop-at l =
    (l.at ≤ length l.rest) × (length l.text ≡ 42) × (l.end ≤ l.start + 5 * (length l.rest - l.at)) × (l.start ≤ l.end)
    × (drop l.start l.text ≡ further_groups (drop l.at l.rest) ++ drop l.end l.fn.text)
