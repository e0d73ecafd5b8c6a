-- Packets that are decoded, and their details.
use Rattle.std.proofs.Common.{◌≡◌, ℕ, Bool, true, false, ◌&&◌, List, [], refl, subst, sym}
use Rattle.std.proofs.lemmas.List.{append-nil}
use Rattle.capture_reader.specs.Captures.{PlainShown}
use Rattle.capture_reader.specs.Readers.{shown_of}
use Rattle.etherparse.specs.LaxPackets.{ShowsLax, lax_layers_of}
use Rattle.etherparse.specs.Types.LaxSlicedPacket.{LaxSlicedPacket}
use Rattle.link_types.specs.Openings.{read_bytes}
use Rattle.packet_dump.specs.DecodedPackets.{IsDecoded}
use Rattle.packet_dump.specs.Decoding.{AppendsLine, IsDecodedBy, content_by, content_in, packet_with}
use Rattle.packet_dump.specs.Details.{AreWantedDetails, IsDetailed}
use Rattle.packet_dump.specs.PacketContents.{Content, other_link, packet, prints_details, refusal, shows_content}
use Rattle.packet_dump.specs.declared.decoded.Decoded.{Decoded}
use Rattle.packet_dump.specs.declared.decoded.Outcome.{Outcome}
use Rattle.packet_dump.specs.declared.decoded.Outcome.TheVariants as outcome
use Rattle.packet_dump.specs.declared.dump_options.DumpOptions.{DumpOptions}

-- The details of a packet are those of the content of its bytes.
detailed : (options : DumpOptions) (shown : PlainShown) (decided : Outcome) (link : ℕ) (bytes : List ℕ)
    (slices : LaxSlicedPacket) (text : List ℕ) → (decided ≡ outcome.Layers → ShowsLax bytes slices)
    → AreWantedDetails (prints_details options shown (content_by decided link (lax_layers_of slices))) slices text
    → IsDetailed (prints_details options shown (content_by decided link (lax_layers_of slices))) bytes
    (content_by decided link (lax_layers_of slices)) text
detailed options shown outcome.Unsupported link bytes slices text shows are = are
detailed options shown (outcome.Refused error) link bytes slices text shows are = are
detailed options shown outcome.Layers link bytes slices text shows are =
    let content = packet (lax_layers_of slices) in
    (elim (prints_details options shown content) as (λ b. AreWantedDetails b slices text → IsDetailed b bytes content text)
    [ true ↦ λ details. (slices, shows refl, refl, details) | false ↦ λ none. none ]) are

-- A packet that the program decoded is decoded, with its details if they are printed.
pub is_decoded : (options : DumpOptions) (decoded : Decoded) (details : List ℕ) → IsDecodedBy options decoded
    → AreWantedDetails (prints_details options (shown_of decoded.captured.shown) (content_in decoded)) decoded.read
    details
    → IsDecoded options (packet_with decoded details)
is_decoded options decoded details by are =
    let shown = decoded.captured.shown in
    record {
      content = by.parsed.content;
      details = detailed options (shown_of shown) decoded.outcome shown.link_type (read_bytes shown.link_type shown.bytes.now)
          decoded.read details by.parsed.shows are;
      frame = by.parsed.frame;
    }

-- ---- a packet that is not shown

both_false : (b c : Bool) → c ≡ false → b && c ≡ false
both_false true c fails = fails
both_false false c fails = refl

no_details : (options : DumpOptions) (shown : PlainShown) (content : Content) → shows_content options shown content ≡ false
    → prints_details options shown content ≡ false
no_details options shown (packet read) hidden =
    both_false options.verbose (shows_content options shown (packet read)) hidden
no_details options shown (refusal error) hidden = refl
no_details options shown (other_link number) hidden = refl

-- Nothing is appended for a packet that is not shown.
pub hidden_line : (options : DumpOptions) (decoded : Decoded) (output : List ℕ)
    → shows_content options (shown_of decoded.captured.shown) (content_in decoded) ≡ false
    → AppendsLine options decoded output output
hidden_line options decoded output hidden = (
  [],
  subst (λ (b : Bool). AreWantedDetails b decoded.read [])
      (sym (no_details options (shown_of decoded.captured.shown) (content_in decoded) hidden)) refl,
  rw hidden (sym (append-nil output)),
)
