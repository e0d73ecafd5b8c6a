-- How the program decodes a packet, and appends its line.
use Rattle.std.specs.Prelude.{◌≡◌, ℕ, if◌then◌else◌, List, [], ◌++◌, Option, Some, None}
use Rattle.capture_reader.specs.Readers.{shown_of}
use Rattle.etherparse.specs.LaxLayers.{LaxLayers}
use Rattle.etherparse.specs.LaxPackets.{ShowsLax, lax_layers_of}
use Rattle.etherparse.specs.Layers.{Layers}
use Rattle.etherparse.specs.StrictFrames.{layers_in}
use Rattle.packet_filter.specs.Packets.{Packet}
use Rattle.link_types.specs.Openings.{opening_of, read_bytes}
use Rattle.link_types.specs.declared.openings.Opening.{Opening}
use Rattle.packet_dump.specs.DecodedPackets.{DecodedPacket, HasFrame, HasFrameAfter}
use Rattle.packet_dump.specs.Details.{AreWantedDetails}
use Rattle.packet_dump.specs.PacketContents.{Content, Holds, HoldsAfterOpening, content_text, is_wanted, prints_details}
use Rattle.packet_dump.specs.PacketContents.{filtered_packet, other_link, packet, refusal}
use Rattle.packet_dump.specs.PacketLines.{line_of, line_start}
use Rattle.packet_dump.specs.declared.decoded.Decoded.{Decoded}
use Rattle.packet_dump.specs.declared.decoded.Outcome.{Outcome}
use Rattle.packet_dump.specs.declared.decoded.Outcome.TheVariants as outcome
use Rattle.packet_dump.specs.declared.dump_options.DumpOptions.{DumpOptions}

-- the content of a packet of this link type whose decoding had this outcome, with these layers
abbrev pub content_by : Outcome → ℕ → LaxLayers → Content
content_by outcome.Unsupported link read = other_link link
content_by (outcome.Refused error) link read = refusal error
content_by outcome.Layers link read = packet read

-- the content of a decoded packet
abbrev pub content_in : Decoded → Content
content_in decoded = content_by decoded.outcome decoded.captured.shown.link_type (lax_layers_of decoded.read)

-- the layers of a decoded packet if it is a frame, else none
abbrev pub frame_in : Decoded → Option Layers
frame_in decoded = if decoded.is_frame then Some (layers_in (lax_layers_of decoded.read)) else None

-- a decoded packet with these details
abbrev pub packet_with : Decoded → List ℕ → DecodedPacket
packet_with decoded details = record {
  number = decoded.captured.number;
  first = decoded.captured.first;
  latest = decoded.captured.latest;
  shown = shown_of decoded.captured.shown;
  content = content_in decoded;
  details = details;
  frame = frame_in decoded;
}

-- a decoded packet without details
abbrev pub packet_of : Decoded → DecodedPacket
packet_of decoded = packet_with decoded []

-- the packet that filters are matched against
abbrev pub filtered_in : Decoded → Packet
filtered_in decoded = filtered_packet (shown_of decoded.captured.shown) (content_in decoded)

-- the layers of a decoded packet
abbrev pub layers_of : Decoded → Layers
layers_of decoded = layers_in (lax_layers_of decoded.read)

-- The packet was parsed with these options: it has the content of these bytes after its opening; its slices show them,
-- if it has layers; and `is_frame` is whether they are a frame, if payloads are reassembled.
pub record IsParsedAfter (options : DumpOptions) (opening : Opening) (bytes : List ℕ) (decoded : Decoded) : Type 0 where
  pub content : HoldsAfterOpening options.strict opening bytes (content_in decoded)
  pub shows : decoded.outcome ≡ outcome.Layers → ShowsLax bytes decoded.read
  pub frame : HasFrameAfter options.reassemble opening bytes (frame_in decoded)

-- The packet was parsed with these options: it has the opening and the content of its bytes; its slices show them, if it
-- has layers; and `is_frame` is whether they are a frame, if payloads are reassembled.
pub record IsParsedBy (options : DumpOptions) (decoded : Decoded) : Type 0 where
  pub opening : decoded.opening ≡ opening_of decoded.captured.shown.link_type decoded.captured.shown.bytes.now
  pub content : Holds options.strict decoded.captured.shown.link_type decoded.captured.shown.bytes.now
      (content_in decoded)
  pub shows : decoded.outcome ≡ outcome.Layers
      → ShowsLax (read_bytes decoded.captured.shown.link_type decoded.captured.shown.bytes.now) decoded.read
  pub frame : HasFrame options.reassemble
      (opening_of decoded.captured.shown.link_type decoded.captured.shown.bytes.now)
      decoded.captured.shown.bytes.now (frame_in decoded)

-- The packet was decoded with these options: it was parsed, and `is_selected` is whether it is selected.
pub record IsDecodedBy (options : DumpOptions) (decoded : Decoded) : Type 0 where
  pub parsed : IsParsedBy options decoded
  pub selected : decoded.is_selected ≡ is_wanted options (shown_of decoded.captured.shown) (content_in decoded)

-- ---- its line

-- the start of the line of a decoded packet
abbrev pub start_of : DumpOptions → Decoded → List ℕ
start_of options decoded = line_start options.time (packet_of decoded)

-- The content of a decoded packet was appended, with its details if they are printed.
abbrev pub AppendsContent : DumpOptions → Decoded → List ℕ → List ℕ → Type 0
AppendsContent options decoded old new =
    (details : List ℕ) × AreWantedDetails (prints_details options (shown_of decoded.captured.shown) (content_in decoded))
    decoded.read details
    × (new ≡ old ++ content_text decoded.captured.shown.bytes.now (content_in decoded) ++ details)

-- The line of a decoded packet was appended, if it is shown, with its details if they are printed.
abbrev pub AppendsLine : DumpOptions → Decoded → List ℕ → List ℕ → Type 0
AppendsLine options decoded old new =
    (details : List ℕ) × AreWantedDetails (prints_details options (shown_of decoded.captured.shown) (content_in decoded))
    decoded.read details
    × (new ≡ old ++ line_of options (packet_with decoded details))
