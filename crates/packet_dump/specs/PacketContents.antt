-- Content of a packet, and the packets that are shown.
use Rattle.std.specs.Prelude.{◌≡◌, ◌⊎◌, ℕ, ◌&&◌, ◌||◌, is_some, not, if◌then◌else◌, Bool, true, false, List, [], ◌∷◌, ◌++◌, Option, Some, None, codes, drop}
use Rattle.std.specs.Fmt.{decimal}
use Rattle.capture_reader.specs.Captures.{PlainShown}
use Rattle.etherparse.specs.Types.Layer.{Layer}
use Rattle.etherparse.specs.Types.SliceError.{SliceError}
use Rattle.etherparse.specs.Frame.{IsFrame}
use Rattle.etherparse.specs.FrameBytes.{last_payload}
use Rattle.etherparse.specs.Lax.{IsLax}
use Rattle.etherparse.specs.LaxLayers.{LaxLayers, no_lax_layers}
use Rattle.etherparse.specs.LaxRefusals.{RefusesLax}
use Rattle.etherparse.specs.Layers.{Layers, NetLayer, ipv4, ipv6, arp}
use Rattle.etherparse.specs.FrameRefusals.{RefusesFrame}
use Rattle.etherparse.specs.LinkExtensions.{LinkExtension}
use Rattle.etherparse.specs.LinkSlices.{LinkLayer, ethernet2, linux_sll, ether_payload, linux_sll_payload}
use Rattle.etherparse.specs.StrictFrames.{IsWhole, layers_in}
use Rattle.etherparse.specs.Types.TransportHeader.{TransportHeader}
use Rattle.etherparse.specs.Types.TransportHeader.TheVariants as header
use Rattle.etherparse.specs.TransportParts.{TransportLayer}
use Rattle.packet_filter.specs.Meaning.{meaning}
use Rattle.packet_filter.specs.Packets.{Packet, packet_of}
use Rattle.packet_filter.specs.Trees.{tree_of}
use Rattle.packet_filter.specs.Step.{Step}
use Rattle.packet_text.specs.LayerTexts.{lax_layers_text}
use Rattle.link_types.specs.Openings.{is_cooked, opening_of, read_bytes}
use Rattle.packet_text.specs.Rows.{rows_text}
use Rattle.packet_text.specs.SliceErrorTexts.{refusal_text}
use Rattle.packet_text.specs.Transports.{len_text}
use Rattle.link_types.specs.declared.openings.Opening.{Opening}
use Rattle.packet_dump.specs.declared.dump_options.DumpOptions.{DumpOptions}
use Rattle.packet_dump.specs.declared.dump_options.Kind.{Kind}
use Rattle.packet_dump.specs.declared.dump_options.Kind.TheVariants.{Udp, Tcp, Icmp, Arp, Refused, Stopped}

-- the layers of a packet, the error for which it is rejected, or a link type that (or whose header) is not supported
pub data Content : Type 0 where
  packet : LaxLayers → Content
  refusal : SliceError → Content
  other_link : ℕ → Content

-- ---- strict parsing

-- The bytes have this content if only complete frames are parsed: the layers, with no byte missing, or the error.
abbrev pub HoldsStrictly : Opening → List ℕ → Content → Type 0
HoldsStrictly opening bytes (packet read) = IsFrame opening.entry bytes (layers_in read) × IsWhole read
HoldsStrictly opening bytes (refusal error) = RefusesFrame opening.entry bytes error
HoldsStrictly opening bytes (other_link number) = ⊥

-- The bytes are a frame of these layers, or no frame.
abbrev pub IsFrameIn : Opening → List ℕ → Option Layers → Type 0
IsFrameIn opening bytes (Some layers) = IsFrame opening.entry bytes layers
IsFrameIn opening bytes None = (error : SliceError) × RefusesFrame opening.entry bytes error

-- ---- lax parsing

-- True if a link layer has a header.
abbrev pub has_header : Option LinkLayer → Bool
has_header (Some (ethernet2 header payload)) = true
has_header (Some (linux_sll header payload)) = true
has_header (Some (ether_payload type source payload)) = false
has_header (Some (linux_sll_payload protocol payload)) = false
has_header None = false

-- True if there are link extensions.
abbrev pub has_extensions : List (LinkExtension × Bool) → Bool
has_extensions [] = false
has_extensions (extension ∷ others) = true

-- True if a layer is valid: one of the library, or a cooked header that the program parsed before it.
abbrev pub has_layer : Opening → LaxLayers → Bool
has_layer opening read =
    is_cooked opening || (has_header read.link || (has_extensions read.link_exts || is_some read.net.layer))

-- the content of bytes, given the error at which the layers end, if any, and whether one is valid
abbrev pub content_of : Option (SliceError × Layer) → Bool → LaxLayers → Content
content_of None stands read = packet read
content_of (Some stop) true read = packet read
content_of (Some stop) false read = refusal stop.0

-- the content of bytes that are read laxly as these layers
abbrev pub content_with : Opening → LaxLayers → Content
content_with opening read = content_of read.net.inside.stop (has_layer opening read) read

-- The bytes have this content if they are read laxly.
abbrev pub HoldsLaxly : Opening → List ℕ → Content → Type 0
HoldsLaxly opening bytes content =
    ((error : SliceError) × RefusesLax opening.entry bytes error × (content ≡ refusal error))
    ⊎ ((read : LaxLayers) × IsLax opening.entry bytes read × (content ≡ content_with opening read))

-- ---- either

-- The bytes after an opening have this content, parsed strictly or laxly.
abbrev pub HoldsAfterOpening : Bool → Opening → List ℕ → Content → Type 0
HoldsAfterOpening true opening bytes content = HoldsStrictly opening bytes content
HoldsAfterOpening false opening bytes content = HoldsLaxly opening bytes content

-- The bytes of a packet of this link type have this content, parsed strictly or laxly.
abbrev pub Holds : Bool → ℕ → List ℕ → Content → Type 0
Holds strict link bytes content =
    ((opening : Opening) × (opening_of link bytes ≡ Some opening)
    × HoldsAfterOpening strict opening (drop opening.skipped bytes) content)
    ⊎ ((opening_of link bytes ≡ None) × (content ≡ other_link link))

-- the text of a content; for a link type that is not supported, its number and the length of the packet
abbrev pub content_text : List ℕ → Content → List ℕ
content_text bytes (packet read) = lax_layers_text read
content_text bytes (refusal error) = refusal_text error
content_text bytes (other_link number) = codes " link " ++ decimal number ++ len_text bytes

-- ---- kinds

-- the kind of a transport layer, by its header
abbrev pub header_kind : TransportHeader → Kind
header_kind (header.Udp udp) = Udp
header_kind (header.Tcp tcp) = Tcp
header_kind (header.Icmpv4 icmp) = Icmp
header_kind (header.Icmpv6 icmp) = Icmp

-- the kind of a frame: that of its transport layer, or ARP
abbrev pub frame_kind : Option NetLayer → Option TransportLayer → Option Kind
frame_kind net (Some layer) = Some (header_kind layer.header)
frame_kind (Some (ipv4 ip extensions payload)) None = None
frame_kind (Some (ipv6 ip extensions payload)) None = None
frame_kind (Some (arp found)) None = Some Arp
frame_kind None None = None

-- the kind of a packet, given the error at which its layers end, if any
abbrev pub packet_kind : Layers → Option (SliceError × Layer) → Option Kind
packet_kind layers (Some stop) = Some Stopped
packet_kind layers None = frame_kind layers.net layers.transport

-- the kind of a packet, if it has one
abbrev pub content_kind : Content → Option Kind
content_kind (packet read) = packet_kind (layers_in read) read.net.inside.stop
content_kind (refusal error) = Some Refused
content_kind (other_link number) = None

-- True if two kinds are equal.
abbrev pub same_kind : Kind → Kind → Bool
same_kind Udp Udp = true
same_kind Tcp Tcp = true
same_kind Icmp Icmp = true
same_kind Arp Arp = true
same_kind Refused Refused = true
same_kind Stopped Stopped = true
same_kind wanted kind = false

-- True if packets of a kind are wanted: all kinds are, or this one.
abbrev pub shows_kind : Option Kind → Option Kind → Bool
shows_kind None kind = true
shows_kind (Some wanted) (Some kind) = same_kind wanted kind
shows_kind (Some wanted) None = false

-- True if lines of packets of a kind are written.
abbrev pub shows_line : DumpOptions → Option Kind → Bool
shows_line options kind = not options.quiet && shows_kind options.only kind

-- ---- filters

-- The layers that filters are matched against: none of a packet that is rejected or not read.
abbrev pub filtered_layers : Content → LaxLayers
filtered_layers (packet read) = read
filtered_layers (refusal error) = no_lax_layers
filtered_layers (other_link number) = no_lax_layers

-- The packet that filters are matched against: these layers, the bytes from where parsing starts, and the original
-- length.
unfoldable pub filtered_packet : PlainShown → Content → Packet
filtered_packet shown content =
    packet_of (filtered_layers content) (read_bytes shown.link shown.bytes) shown.original_len

-- True if the filter matches a packet, or there is none.
unfoldable pub meets : Option (List Step) → Packet → Bool
meets None matched = true
meets (Some filter) matched = meaning (tree_of filter) matched

-- True if a packet of this content is selected: its kind is, and it matches the filter.
abbrev pub is_wanted : DumpOptions → PlainShown → Content → Bool
is_wanted options shown content =
    shows_kind options.only (content_kind content) && meets options.filter (filtered_packet shown content)

-- True if a packet of this content is shown: lines are printed, and it is selected.
abbrev pub shows_content : DumpOptions → PlainShown → Content → Bool
shows_content options shown content = not options.quiet && is_wanted options shown content

-- True if details of a packet of this content are printed: it has layers, it is shown, and details are wanted.
abbrev pub prints_details : DumpOptions → PlainShown → Content → Bool
prints_details options shown (packet read) = options.verbose && shows_content options shown (packet read)
prints_details options shown (refusal error) = false
prints_details options shown (other_link number) = false

-- ---- bytes

-- The bytes of a packet that are shown: all of them if they are wanted, the packet is rejected or its link type is not
-- supported, else the payload of the last valid layer.
abbrev pub shown_bytes : Bool → Content → List ℕ → List ℕ
shown_bytes whole (packet read) bytes = if whole then bytes else last_payload (layers_in read)
shown_bytes whole (refusal error) bytes = bytes
shown_bytes whole (other_link number) bytes = bytes

-- the bytes in rows, if they are wanted
abbrev pub bytes_text : Bool → List ℕ → List ℕ
bytes_text wanted bytes = if wanted then rows_text bytes else []
