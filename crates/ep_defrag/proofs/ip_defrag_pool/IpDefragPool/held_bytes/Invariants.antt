use Rattle.std.proofs.Common.{◌≡◌, min, length}
use Rattle.std.specs.List.{sum_by}
use Rattle.ep_defrag.specs.Buffers.{data_of}
use Rattle.ep_defrag.proofs.ip_defrag_pool.IpDefragPool.held_bytes.Given as goal

-- The sum is that of the bytes of the streams so far, up to the greatest number.
abbrev pub invariant-loop-stream : goal.invariant-loop-stream
invariant-loop-stream g l =
    l.total ≡ min (sum_by (λ stream. length (data_of stream.now.buffer)) l.yielded) 18446744073709551615
