-- The verdicts about the checksums of a packet read laxly follow from its layers and the bytes of its network layer.
use Rattle.std.proofs.Common.{◌≡◌, ℕ, ◌≤◌, Bool, false, List, [], ◌∷◌, length, map, Option, Some, None}
use Rattle.std.proofs.Common.{refl, sym, ap, ◌∙◌, arith}
use Rattle.std.proofs.lemmas.List.{length-append}
use Rattle.std.specs.Option.{option_and_then, option_map}
use Rattle.ep_base.specs.Bytes.{AreBytes}
use Rattle.ep_link.specs.declared.link.link_slice.LinkSlice.{LinkSlice}
use Rattle.ep_link.specs.LinkExtensions.{extension_payload}
use Rattle.ep_link.specs.LinkSlices.{link_layer_of, link_layer_payload}
use Rattle.ep_ip.specs.Ipv4.{ipv4_header_len}
use Rattle.ep_ip.specs.Ipv4Slices.{ipv4_header_slice_bytes}
use Rattle.ep_transport.specs.declared.transport_slice.TransportSlice.{TransportSlice}
use Rattle.ep_transport.specs.TransportParts.{transport_layer_of}
use Rattle.ep_packet.specs.Frame.{IsFrame}
use Rattle.ep_packet.specs.FrameBytes.{payload_after_exts}
use Rattle.ep_packet.specs.FrameVerdicts.{after_link, frame_checksums, net_checksums}
use Rattle.ep_packet.specs.Layers.{Layers, layers_of}
use Rattle.ep_packet.specs.ShownBytes.{ShowsBytes}
use Rattle.ep_packet.specs.Verdicts.{checksums_of, message_of, sum_verdict, transport_verdict}
use Rattle.ep_packet.specs.declared.checksum_verdict.ChecksumVerdicts.{ChecksumVerdicts}
use Rattle.ep_packet.specs.declared.entry.Entry.{Entry}
use Rattle.ep_packet.specs.declared.sliced_packet.SlicedPacket.{SlicedPacket}
use Rattle.ep_packet.proofs.FrameVerdictLemmas.{header_shown, message_shown, verdicts_shown}
use Rattle.ep_packet.proofs.VerdictLemmas.{header_len_is}
use Rattle.ep_lax.specs.declared.lax_ipv4_slice.LaxIpv4Slice.{LaxIpv4Slice}
use Rattle.ep_lax.specs.declared.lax_link_ext_slice.LaxLinkExtSlice.{LaxLinkExtSlice}
use Rattle.ep_lax.specs.declared.lax_net_slice.LaxNetSlice.{LaxNetSlice}
use Rattle.ep_lax.specs.declared.lax_net_slice.LaxNetSlice.TheVariants as net
use Rattle.ep_lax.specs.declared.lax_sliced_packet.LaxSlicedPacket.{LaxSlicedPacket}
use Rattle.ep_lax.specs.Lax.{IsLax}
use Rattle.ep_lax.specs.LaxLayers.{LaxLayers}
use Rattle.ep_lax.specs.LaxPackets.{ShowsLax, ShowsLaxInside, ShowsLaxLink, ShowsLaxNet, lax_layers_of}
use Rattle.ep_lax.specs.LaxSlices.{lax_ipv4_slice_bytes, lax_ipv4_slice_content, lax_ipv4_slice_header}
use Rattle.ep_lax.specs.LaxVerdicts.{lax_checksums_of, lax_header_verdict}
use Rattle.ep_lax.specs.LaxViews.{extension_incomplete, lax_extension_of, lax_extensions_of, lax_net_layer_of}
use Rattle.ep_lax.specs.StrictFrames.{extension_in, layers_in}
use Rattle.ep_lax.proofs.LaxEntryLemmas.{lax_decided}
use Rattle.ep_lax.proofs.StrictLemmas.{frame_is_complete}

-- The verdicts about a network layer slice, and a transport slice in its payload.
abbrev slice_verdicts : Option LaxNetSlice → Bool → Option TransportSlice → ChecksumVerdicts
slice_verdicts layer incomplete transport = record {
  ipv4_header = option_and_then lax_header_verdict layer;
  transport = transport_verdict (option_map lax_net_layer_of layer) incomplete (option_map message_of transport);
}

header_within : (packet : LaxIpv4Slice)
    → ipv4_header_len (lax_ipv4_slice_header packet) ≤ length (lax_ipv4_slice_bytes packet)
header_within packet =
    let len = header_len_is packet.header in
    let parts = length-append (ipv4_header_slice_bytes packet.header) (lax_ipv4_slice_content packet) in
    omega (arith, len, parts)

net_verdicts : (bytes : List ℕ) (layer : Option LaxNetSlice) (incomplete : Bool) (transport : Option TransportSlice)
    → ShowsLaxNet bytes layer transport
    → slice_verdicts layer incomplete transport
    ≡ net_checksums bytes (option_map lax_net_layer_of layer) incomplete (option_map transport_layer_of transport)
net_verdicts bytes None incomplete None shows = refl
net_verdicts bytes None incomplete (Some transport) shows = absurd (cc)
net_verdicts bytes (Some (net.Ipv4 packet)) incomplete transport shows =
    let header = header_shown bytes _ _ shows.0 (header_within packet) in
    let message = message_shown _ transport shows.1 in
    λ i. record {
      ipv4_header = Some (sum_verdict (header i));
      transport = transport_verdict (Some (lax_net_layer_of (net.Ipv4 packet))) incomplete (message i);
    }
net_verdicts bytes (Some (net.Ipv6 packet)) incomplete transport shows =
    ap (λ m. record {
      ipv4_header = None;
      transport = transport_verdict (Some (lax_net_layer_of (net.Ipv6 packet))) incomplete m;
    }) (message_shown _ transport shows.1)
net_verdicts bytes (Some (net.Arp packet)) incomplete transport shows =
    ap (λ m. record {
      ipv4_header = None;
      transport = transport_verdict (Some (lax_net_layer_of (net.Arp packet))) incomplete m;
    }) (message_shown _ transport shows.1)

inside_shown : (bytes : List ℕ) (outer : Bool) (extensions : List LaxLinkExtSlice) (layer : Option LaxNetSlice)
    (transport : Option TransportSlice) → ShowsLaxInside bytes extensions layer transport
    → ShowsLaxNet (payload_after_exts bytes (map extension_in (lax_extensions_of outer extensions))) layer transport
inside_shown bytes outer [] layer transport shows = shows
inside_shown bytes outer (extension ∷ others) layer transport shows =
    inside_shown (extension_payload (lax_extension_of extension)) (extension_incomplete outer extension) others layer
    transport shows.1

link_shown : (bytes : List ℕ) (link : Option LinkSlice) (extensions : List LaxLinkExtSlice)
    (layer : Option LaxNetSlice) (transport : Option TransportSlice)
    → ShowsLaxLink bytes link extensions layer transport
    → ShowsLaxNet (payload_after_exts (after_link bytes (option_map link_layer_of link))
    (map extension_in (lax_extensions_of false extensions))) layer transport
link_shown bytes None extensions layer transport shows = inside_shown bytes false extensions layer transport shows
link_shown bytes (Some link) extensions layer transport shows =
    inside_shown (link_layer_payload (link_layer_of link)) false extensions layer transport shows.1

-- The verdicts about layers that were read laxly, in these bytes.
abbrev read_checksums : List ℕ → LaxLayers → ChecksumVerdicts
read_checksums bytes read = frame_checksums bytes (layers_in read) read.net.inside.incomplete

-- The verdicts about a packet follow from its layers and the bytes that its slices show.
pub lax_verdicts_shown : (bytes : List ℕ) (packet : LaxSlicedPacket) → ShowsLax bytes packet
    → let read = lax_layers_of packet in
    lax_checksums_of packet ≡ frame_checksums bytes (layers_in read) read.net.inside.incomplete
lax_verdicts_shown bytes packet shows =
    net_verdicts _ packet.net (lax_layers_of packet).net.inside.incomplete packet.transport
    (link_shown bytes packet.link packet.link_exts.items packet.net packet.transport shows)

-- The verdicts about a frame are equal by strict and by lax slicing.
pub strict_verdicts : (entry : Entry) (bytes : List ℕ) (strict : SlicedPacket) (lax : LaxSlicedPacket) → AreBytes bytes
    → IsFrame entry bytes (layers_of strict) → ShowsBytes bytes strict → IsLax entry bytes (lax_layers_of lax)
    → ShowsLax bytes lax → lax_checksums_of lax ≡ checksums_of strict
strict_verdicts entry bytes strict lax fits is_frame shows is_lax shows_lax =
    let found = frame_is_complete entry bytes (layers_of strict) is_frame in
    let same : found.0 ≡ lax_layers_of lax =
    (lax_decided entry bytes fits).one_value found.0 (lax_layers_of lax) found.1 is_lax in
    lax_verdicts_shown bytes lax shows_lax
    ∙ sym (ap (read_checksums bytes) same)
    ∙ ap (λ (layers : Layers). frame_checksums bytes layers found.0.net.inside.incomplete) found.2
    ∙ ap (λ (incomplete : Bool). frame_checksums bytes (layers_of strict) incomplete) found.3.inside
    ∙ sym (verdicts_shown bytes strict shows)
