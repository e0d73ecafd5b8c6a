use Rattle.std.proofs.Common.{◌≡◌, ◌-◌, ◌≤◌, vec_len, vec_capacity}
use Rattle.ep_defrag.specs.Buffers.{extended}
use Rattle.ep_defrag.proofs.ip_defrag_bytes.fill_gap.Given as goal

abbrev pub invariant-loop-bytes : goal.invariant-loop-bytes
invariant-loop-bytes l =
    (extended l.bytes.items l.start ≡ extended l.fn.bytes.items l.start)
    × (vec_capacity l.fn.bytes ≤ vec_capacity l.bytes)

abbrev pub decreases-loop-bytes : goal.decreases-loop-bytes
decreases-loop-bytes l = l.start - vec_len l.bytes
