-- Packets of a capture, decoded: the lines, the counts and the file of a run are functions of a list of them, and of the
-- options.
use Rattle.std.specs.Prelude.{◌≡◌, ℕ, ◌+◌, Bool, true, false, List, [], ◌∷◌, ◌++◌, Option, Some, None, drop}
use Rattle.capture_reader.specs.Captures.{Item, PlainShown, Stage, at_start, shown_in, stage_after}
use Rattle.etherparse.specs.Layers.{Layers}
use Rattle.link_types.specs.Openings.{opening_of, read_bytes}
use Rattle.link_types.specs.declared.openings.Opening.{Opening}
use Rattle.packet_dump.specs.Details.{IsDetailed}
use Rattle.packet_dump.specs.PacketContents.{Content, Holds, IsFrameIn, prints_details}
use Rattle.packet_dump.specs.Shown.{first_after, instant_in, latest_after}
use Rattle.packet_dump.specs.declared.dump_options.DumpOptions.{DumpOptions}

-- a packet of a capture: its number, the first timestamp of the capture, its own or the latest one before it, its
-- bytes, their content, the details of its layers if they are printed, and its layers if it is a frame, for reassembly
pub record DecodedPacket : Type 0 where
  pub number : ℕ
  pub first : Option ℕ
  pub latest : ℕ
  pub shown : PlainShown
  pub content : Content
  pub details : List ℕ
  pub frame : Option Layers

-- The bytes after an opening are a frame of these layers, or no frame; no layers if frames are not wanted.
abbrev pub HasFrameAfter : Bool → Opening → List ℕ → Option Layers → Type 0
HasFrameAfter false opening bytes frame = frame ≡ None
HasFrameAfter true opening bytes frame = IsFrameIn opening bytes frame

-- The bytes with this opening, if any, are a frame of these layers, or no frame; no layers if frames are not wanted.
abbrev pub HasFrame : Bool → Option Opening → List ℕ → Option Layers → Type 0
HasFrame wanted (Some opening) bytes frame = HasFrameAfter wanted opening (drop opening.skipped bytes) frame
HasFrame wanted None bytes frame = frame ≡ None

-- The packet is decoded with these options: it has the content of its bytes, with details if they are printed, and, if
-- payloads are reassembled, its layers if it is a frame.
pub record IsDecoded (options : DumpOptions) (one : DecodedPacket) : Type 0 where
  pub content : Holds options.strict one.shown.link one.shown.bytes one.content
  pub details : IsDetailed (prints_details options one.shown one.content) (read_bytes one.shown.link one.shown.bytes)
      one.content one.details
  pub frame : HasFrame options.reassemble (opening_of one.shown.link one.shown.bytes) one.shown.bytes one.frame

-- ---- the packets of a capture

-- progress before an item of the capture: the number of packets read, and the first and the latest known timestamp
pub record Progress : Type 0 where
  pub stage : Stage
  pub number : ℕ
  pub first : Option ℕ
  pub latest : ℕ

-- progress before the first item
abbrev pub none_read : Progress
none_read = record { stage = at_start; number = 0; first = None; latest = 0 }

-- progress after an item, given its packet, if it is one
abbrev pub progress_with : Progress → Item → Option PlainShown → Progress
progress_with before item (Some shown) = record {
  stage = stage_after before.stage item;
  number = before.number + 1;
  first = first_after before.first (instant_in shown);
  latest = latest_after before.latest (instant_in shown);
}
progress_with before item None = record before { stage = stage_after before.stage item }

-- progress after an item
abbrev pub progress_after : Progress → Item → Progress
progress_after before item = progress_with before item (shown_in before.stage item)

-- progress after several items
abbrev pub progress_after_items : Progress → List Item → Progress
progress_after_items before [] = before
progress_after_items before (item ∷ items) = progress_after_items (progress_after before item) items

-- the number of packets in the items
abbrev pub packets_in : List Item → ℕ
packets_in items = (progress_after_items none_read items).number

-- The packet is that of an item of the capture, given progress before it.
pub record IsPacketAfter (before : Progress) (found : PlainShown) (one : DecodedPacket) : Type 0 where
  pub number : one.number ≡ before.number + 1
  pub first : one.first ≡ first_after before.first (instant_in found)
  pub latest : one.latest ≡ latest_after before.latest (instant_in found)
  pub shown : one.shown ≡ found

-- The packets are that of an item, decoded, if it is a packet, else none.
abbrev pub IsItemDecoded : DumpOptions → Progress → Option PlainShown → List DecodedPacket → Type 0
IsItemDecoded options before (Some shown) packets =
    (one : DecodedPacket) × IsPacketAfter before shown one × IsDecoded options one × (packets ≡ one ∷ [])
IsItemDecoded options before None packets = packets ≡ []

-- The packets are those of these items, decoded, in order.
abbrev pub AreDecoded : DumpOptions → Progress → List Item → List DecodedPacket → Type 0
AreDecoded options before [] packets = packets ≡ []
AreDecoded options before (item ∷ items) packets =
    (one others : List DecodedPacket) × IsItemDecoded options before (shown_in before.stage item) one
    × (packets ≡ one ++ others) × AreDecoded options (progress_after before item) items others
