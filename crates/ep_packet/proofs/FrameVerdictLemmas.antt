-- The verdicts about the checksums of a packet follow from its layers and the bytes of its network layer.
use Rattle.std.proofs.Common.{◌≡◌, ℕ, ◌+◌, ◌≤◌, false, List, [], ◌∷◌, ◌++◌, length, map, take, Option, Some, None}
use Rattle.std.proofs.Common.{refl, sym, ap, ◌∙◌, arith}
use Rattle.std.proofs.Math.Seq.{take-append_seam}
use Rattle.std.proofs.lemmas.Grind.{common_steps}
use Rattle.std.proofs.lemmas.List.{length-append, take-append-le}
use Rattle.std.specs.Option.{option_and_then, option_map}
use Rattle.ep_link.specs.declared.link.link_slice.LinkSlice.{LinkSlice}
use Rattle.ep_link.specs.declared.link_ext.link_ext_slice.LinkExtSlice.{LinkExtSlice}
use Rattle.ep_link.specs.LinkExtensions.{extension_payload, link_extension_of}
use Rattle.ep_link.specs.LinkSlices.{link_layer_of, link_layer_payload}
use Rattle.ep_ip.specs.declared.ipv4_slice.Ipv4Slice.{Ipv4Slice}
use Rattle.ep_ip.specs.Ipv4.{ipv4_header_len}
use Rattle.ep_ip.specs.Ipv4Slices.{ipv4_header_slice_bytes, ipv4_slice_bytes, ipv4_slice_content, ipv4_slice_header}
use Rattle.ep_transport.specs.declared.transport_header.TransportHeader.{TransportHeader}
use Rattle.ep_transport.specs.declared.transport_slice.TransportSlice.{TransportSlice}
use Rattle.ep_transport.specs.declared.transport_slice.TransportSlice.TheVariants as slice
use Rattle.ep_transport.specs.TransportHeaders.{transport_header_len}
use Rattle.ep_transport.specs.TransportParts.{transport_layer_of, transport_slice_bytes}
use Rattle.ep_packet.specs.FrameBytes.{payload_after_exts}
use Rattle.ep_packet.specs.FrameVerdicts.{after_link, frame_checksums, message_in, net_checksums}
use Rattle.ep_packet.specs.Layers.{layers_of, net_layer_of}
use Rattle.ep_packet.specs.ShownBytes.{BeginsWith, ShowsBytes, ShowsInside, ShowsLink, ShowsNet, ShowsTransport}
use Rattle.ep_packet.specs.Verdicts.{checksums_of, message_of, slice_header_verdict, sum_verdict}
use Rattle.ep_packet.specs.Verdicts.{transport_verdict}
use Rattle.ep_packet.specs.declared.checksum_verdict.ChecksumVerdicts.{ChecksumVerdicts}
use Rattle.ep_packet.specs.declared.net_slice.NetSlice.{NetSlice}
use Rattle.ep_packet.specs.declared.net_slice.NetSlice.TheVariants as net
use Rattle.ep_packet.specs.declared.sliced_packet.SlicedPacket.{SlicedPacket}
use Rattle.ep_packet.proofs.VerdictLemmas.{header_len_is}

-- ---- transport layer

-- The length of a transport slice is that of its header and its payload.
message_len : (shown : TransportSlice) → let layer = transport_layer_of shown in
    length (transport_slice_bytes shown) ≡ transport_header_len layer.header + length layer.payload
message_len (slice.Udp datagram) = let long = datagram.bytes.long in grind (arith, common_steps)
message_len (slice.Tcp segment) =
    let words = segment.bytes.words in
    let complete = segment.bytes.whole in
    grind (arith, common_steps)
message_len (slice.Icmpv4 message) = let complete = message.bytes.whole in grind (arith, common_steps)
message_len (slice.Icmpv6 message) = let long = message.bytes.long in grind (arith, common_steps)

message_is : (payload : List ℕ) (shown : TransportSlice) → BeginsWith payload (transport_slice_bytes shown)
    → message_of shown ≡ message_in payload (transport_layer_of shown)
message_is payload shown begins =
    let layer = transport_layer_of shown in
    let own = transport_slice_bytes shown in
    let same : own ≡ take (transport_header_len layer.header + length layer.payload) payload =
    sym (take-append_seam own begins.0) ∙ ap (λ (n : ℕ). take n (own ++ begins.0)) (message_len shown)
    ∙ ap (take (transport_header_len layer.header + length layer.payload)) (sym begins.1) in
    λ i. (layer.header, same i)

-- The message of the transport slice, if any, is the first bytes of the payload.
pub message_shown : (payload : List ℕ) (transport : Option TransportSlice) → ShowsTransport payload transport
    → option_map message_of transport ≡ option_map (message_in payload) (option_map transport_layer_of transport)
message_shown payload None shows = refl
message_shown payload (Some shown) shows = ap (λ (m : TransportHeader × List ℕ). Some m) (message_is payload shown shows)

-- ---- packet

-- The header of a network layer is at the start of bytes that begin with the layer.
pub header_shown : (bytes own : List ℕ) (n : ℕ) → BeginsWith bytes own → n ≤ length own → take n own ≡ take n bytes
header_shown bytes own n begins within =
    sym (take-append-le n own begins.0 within) ∙ ap (take n) (sym begins.1)

header_within : (packet : Ipv4Slice) → ipv4_header_len (ipv4_slice_header packet) ≤ length (ipv4_slice_bytes packet)
header_within packet =
    let len = header_len_is packet.header in
    let parts = length-append (ipv4_header_slice_bytes packet.header) (ipv4_slice_content packet) in
    omega (arith, len, parts)

-- The verdicts about a network layer slice, and a transport slice in its payload.
abbrev slice_verdicts : Option NetSlice → Option TransportSlice → ChecksumVerdicts
slice_verdicts layer transport = record {
  ipv4_header = option_and_then slice_header_verdict layer;
  transport = transport_verdict (option_map net_layer_of layer) false (option_map message_of transport);
}

net_verdicts : (bytes : List ℕ) (layer : Option NetSlice) (transport : Option TransportSlice)
    → ShowsNet bytes layer transport
    → slice_verdicts layer transport
    ≡ net_checksums bytes (option_map net_layer_of layer) false (option_map transport_layer_of transport)
net_verdicts bytes None None shows = refl
net_verdicts bytes None (Some transport) shows = absurd (cc)
net_verdicts bytes (Some (net.Ipv4 packet)) transport shows =
    let header = header_shown bytes _ _ shows.0 (header_within packet) in
    let message = message_shown _ transport shows.1 in
    λ i. record {
      ipv4_header = Some (sum_verdict (header i));
      transport = transport_verdict (Some (net_layer_of (net.Ipv4 packet))) false (message i);
    }
net_verdicts bytes (Some (net.Ipv6 packet)) transport shows =
    ap (λ m. record {
      ipv4_header = None;
      transport = transport_verdict (Some (net_layer_of (net.Ipv6 packet))) false m;
    }) (message_shown _ transport shows.1)
net_verdicts bytes (Some (net.Arp packet)) transport shows =
    ap (λ m. record {
      ipv4_header = None;
      transport = transport_verdict (Some (net_layer_of (net.Arp packet))) false m;
    }) (message_shown _ transport shows.1)

inside_shown : (bytes : List ℕ) (extensions : List LinkExtSlice) (layer : Option NetSlice)
    (transport : Option TransportSlice) → ShowsInside bytes extensions layer transport
    → ShowsNet (payload_after_exts bytes (map link_extension_of extensions)) layer transport
inside_shown bytes [] layer transport shows = shows
inside_shown bytes (extension ∷ others) layer transport shows =
    inside_shown (extension_payload (link_extension_of extension)) others layer transport shows.1

link_shown : (bytes : List ℕ) (link : Option LinkSlice) (extensions : List LinkExtSlice) (layer : Option NetSlice)
    (transport : Option TransportSlice) → ShowsLink bytes link extensions layer transport
    → ShowsNet (payload_after_exts (after_link bytes (option_map link_layer_of link)) (map link_extension_of extensions))
    layer transport
link_shown bytes None extensions layer transport shows = inside_shown bytes extensions layer transport shows
link_shown bytes (Some link) extensions layer transport shows =
    inside_shown (link_layer_payload (link_layer_of link)) extensions layer transport shows.1

-- The verdicts about a packet follow from its layers and the bytes that its slices show.
pub verdicts_shown : (bytes : List ℕ) (packet : SlicedPacket) → ShowsBytes bytes packet
    → checksums_of packet ≡ frame_checksums bytes (layers_of packet) false
verdicts_shown bytes packet shows = net_verdicts _ packet.net packet.transport
    (link_shown bytes packet.link packet.link_exts.items packet.net packet.transport shows)
