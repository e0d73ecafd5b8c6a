use Rattle.std.proofs.Common.{◌≡◌, ◌++◌, drop}
use Rattle.packet_dump.specs.Decoding.{packet_of}
use Rattle.packet_dump.specs.EvictionLines.{evicted_lines, moment_of}
use Rattle.packet_dump.proofs.eviction_lines.push_evictions.Given as goal

-- The text so far, with the lines of the remaining streams, is the complete text.
abbrev pub invariant-loop-stream : goal.invariant-loop-stream
invariant-loop-stream l =
    l.output.items
    ++ evicted_lines l.options (moment_of l.options (packet_of l.packet)) (drop l.stream-index l.evicted)
    ≡ l.initial.output.items ++ evicted_lines l.options (moment_of l.options (packet_of l.packet)) l.evicted
