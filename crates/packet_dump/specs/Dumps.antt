-- Lines of the packets of a capture, and where a run ends.
use Rattle.std.specs.Prelude.{◌≡◌, ℕ, ◌<◌, ◌≤◌, Bool, true, false, List, [], ◌∷◌, ◌++◌}
use Rattle.capture_reader.specs.Captures.{AreItems, IsCapture, Item, RefusesCapture, at_start, items_bytes}
use Rattle.capture_reader.specs.declared.refusal.CaptureError.{CaptureError}
use Rattle.packet_dump.specs.DecodedPackets.{AreDecoded, DecodedPacket, none_read, packets_in}
use Rattle.packet_dump.specs.PacketCalls.{PoolHistory, new_pool}
use Rattle.packet_dump.specs.PacketLines.{line_of}
use Rattle.packet_dump.specs.PoolLines.{PassesPacket}
use Rattle.packet_dump.specs.declared.dump_options.DumpOptions.{DumpOptions}
use Rattle.packet_dump.specs.declared.ending.Ending.{Ending}
use Rattle.packet_dump.specs.declared.ending.Ending.TheVariants.{Complete, Enough, Broken}

-- ---- lines

-- The text is the lines of these packets, each followed by those of the streams that leave the pool at it, and by that of
-- the pool's answer to the fragment in it; `after` is the state of the pool.
abbrev pub AreLines : DumpOptions → PoolHistory → List DecodedPacket → List ℕ → PoolHistory → Type 0
AreLines options pool [] text after = (text ≡ []) × (after ≡ pool)
AreLines options pool (one ∷ others) text after =
    (answer rest : List ℕ) × (next : PoolHistory) × PassesPacket options pool one answer next
    × (text ≡ line_of options one ++ answer ++ rest) × AreLines options next others rest after

-- The text is the lines of these packets from the start of a capture, on a new pool.
abbrev pub AreAllLines : DumpOptions → List DecodedPacket → List ℕ → PoolHistory → Type 0
AreAllLines options packets text after = AreLines options (new_pool options) packets text after

-- ---- where a run ends

-- The items have fewer packets than are wanted.
abbrev pub AreFewer : DumpOptions → List Item → Type 0
AreFewer options items = packets_in items < options.most

-- The bytes begin with these items.
abbrev pub Begin : List ℕ → List Item → Type 0
Begin bytes items = (behind : List ℕ) × AreItems at_start items × (bytes ≡ items_bytes at_start items ++ behind)

-- The bytes that were read are rejected with this error: as a capture that ends there, or whatever bytes come after
-- them.
abbrev pub IsRefused : Bool → List ℕ → List Item × CaptureError → Type 0
IsRefused true read found = RefusesCapture read found
IsRefused false read found = (more : List ℕ) → RefusesCapture (read ++ more) found

-- The input of a run that ends in this way, and the items that are read from it. `Complete`: the input is a capture of
-- fewer packets than are wanted. `Enough`: the input begins with as many packets as are wanted. `Broken`: the input is
-- rejected with this error after fewer packets, and this is their number. The reader need not have ended for `Enough`,
-- nor for input that is rejected whatever bytes come after it.
abbrev pub EndsAt : DumpOptions → Bool → Ending → List ℕ → List Item → Type 0
EndsAt options ended Complete read items = (ended ≡ true) × IsCapture read items × AreFewer options items
EndsAt options ended Enough read items = Begin read items × (packets_in items ≡ options.most)
EndsAt options ended (Broken packets error) read items =
    IsRefused ended read (items, error) × AreFewer options items × (packets ≡ packets_in items)

-- The input ends so that a run ends there, and these are its packets, decoded; they are no more than are wanted.
abbrev pub IsRun : DumpOptions → Bool → Ending → List ℕ → List DecodedPacket → Type 0
IsRun options ended ending read packets =
    (items : List Item) × EndsAt options ended ending read items × (packets_in items ≤ options.most)
    × AreDecoded options none_read items packets

-- The input begins with these packets, decoded; they are no more than are wanted.
abbrev pub BeginsRun : DumpOptions → List ℕ → List DecodedPacket → Type 0
BeginsRun options read packets =
    (items : List Item) × Begin read items × (packets_in items ≤ options.most)
    × AreDecoded options none_read items packets

-- ---- complete runs

-- The input and the output of a run that ends in this way: the output is the lines of the packets of the input.
abbrev pub IsDump : DumpOptions → Bool → Ending → List ℕ → List ℕ → Type 0
IsDump options ended ending read written =
    (packets : List DecodedPacket) × IsRun options ended ending read packets
    × (pool : PoolHistory) × AreAllLines options packets written pool

-- The output begins the lines of the packets at the start of the input.
abbrev pub BeginsDump : DumpOptions → List ℕ → List ℕ → Type 0
BeginsDump options read written =
    (packets : List DecodedPacket) × (more : List ℕ) × BeginsRun options read packets
    × (pool : PoolHistory) × AreAllLines options packets (written ++ more) pool
