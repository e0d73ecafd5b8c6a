-- Details of a packet in addition to the layers of its line.
use Rattle.std.specs.Prelude.{◌≡◌, ℕ, if◌then◌else◌, Bool, true, false, List, [], ◌++◌, Option, Some, None, codes}
use Rattle.std.specs.Fmt.{decimal}
use Rattle.etherparse.specs.LaxPackets.{ShowsLax, lax_layers_of}
use Rattle.etherparse.specs.Types.LaxSlicedPacket.{LaxSlicedPacket}
use Rattle.packet_text.specs.PacketDetails.{IsPacketDetails}
use Rattle.packet_text.specs.Quotes.{IsQuoteOf, quoted_by}
use Rattle.packet_dump.specs.PacketContents.{Content, packet}

-- the number of a packet's interface, if details are wanted and the number is known
abbrev pub interface_text : Bool → Option ℕ → List ℕ
interface_text wanted (Some number) = if wanted then codes " interface " ++ decimal number else []
interface_text wanted None = []

-- The text is the details of a packet: those of its layers, and the packet that it quotes.
abbrev pub AreDetails : LaxSlicedPacket → List ℕ → Type 0
AreDetails slices text =
    (own quote : List ℕ) × IsPacketDetails slices own × IsQuoteOf (quoted_by slices) quote × (text ≡ own ++ quote)

-- The text is the details of a packet if they are shown, else empty.
abbrev pub AreWantedDetails : Bool → LaxSlicedPacket → List ℕ → Type 0
AreWantedDetails true slices text = AreDetails slices text
AreWantedDetails false slices text = text ≡ []

-- The text is the details of the packet that is read from the bytes if they are shown, else empty.
abbrev pub IsDetailed : Bool → List ℕ → Content → List ℕ → Type 0
IsDetailed true bytes content text =
    (slices : LaxSlicedPacket) × ShowsLax bytes slices × (content ≡ packet (lax_layers_of slices)) × AreDetails slices text
IsDetailed false bytes content text = text ≡ []
