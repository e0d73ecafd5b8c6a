-- The results of a run: the lines, the counts and the capture file of one list of packets.
use Rattle.std.specs.Prelude.{ℕ, Bool, true, List}
use Rattle.packet_dump.specs.DecodedPackets.{DecodedPacket}
use Rattle.packet_dump.specs.Dumps.{AreAllLines, IsRun}
use Rattle.packet_dump.specs.PacketCalls.{PoolHistory}
use Rattle.packet_dump.specs.Saves.{Saves}
use Rattle.packet_dump.specs.Summaries.{CountsFragments, PlainSummary, counted_all}
use Rattle.packet_dump.specs.declared.dump_options.DumpOptions.{DumpOptions}
use Rattle.packet_dump.specs.declared.ending.Ending.{Ending}
use Rattle.packet_dump.specs.declared.saving.SaveState.{SaveState}

-- A run that ends in this way writes, of the packets of its input, decoded: their lines, their counts and those of their
-- fragments in place of `old`, and the bytes that are saved of them in the capture file, if one is wanted.
abbrev pub WritesRun : DumpOptions → Bool → Bool → Ending → (old new : PlainSummary) → SaveState
    → (saved read written : List ℕ) → Type 0
WritesRun options wanted ended ending old new state saved read written =
    (packets : List DecodedPacket) × IsRun options ended ending read packets
    × (pool : PoolHistory) × AreAllLines options packets written pool
    × CountsFragments options pool (counted_all packets old) new
    × Saves options wanted true state packets saved
