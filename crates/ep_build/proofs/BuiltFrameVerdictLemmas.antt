-- The verdicts about the checksums of a built frame, as it is sliced.
use Rattle.std.proofs.Common.{◌≡◌, ℕ, ◌+◌, ◌-◌, ◌*◌, ◌/◌, ◌%◌, ◌^◌, ◌<◌, ◌≤◌, ◌||◌, nat_lt, if◌then◌else◌, Bool, true}
use Rattle.std.proofs.Common.{false, List, [], ◌∷◌, ◌++◌, length, take, Option, Some, None, refl, sym, ap, subst, ◌∙◌}
use Rattle.std.proofs.Common.{append_assoc, arith, inl, inr}
use Rattle.std.proofs.Math.Seq.{take-append_seam, take-length}
use Rattle.std.proofs.lemmas.Grind.{common_steps}
use Rattle.std.proofs.lemmas.List.{length-append}
use Rattle.std.specs.Option.{is_some, option_and_then, option_map}
use Rattle.std.specs.Prelude.{slice_index}
use Rattle.ep_base.specs.Bytes.{AreBytes}
use Rattle.ep_base.specs.IpNumbers.{icmpv4_number}
use Rattle.ep_base.specs.IpPayload.{IpPayload}
use Rattle.ep_base.specs.Readings.{slices}
use Rattle.ep_base.specs.Tables.{first_row}
use Rattle.ep_base.specs.declared.ip_number.IpNumber.{IpNumber}
use Rattle.ep_base.specs.declared.len_source.LenSource.{LenSource}
use Rattle.ep_base.specs.declared.len_source.LenSource.TheVariants as source
use Rattle.ep_base.proofs.BytesLemmas.{AreBytes-back}
use Rattle.ep_ext.specs.declared.ipv4_exts.Ipv4Extensions.{Ipv4Extensions}
use Rattle.ep_ext.specs.declared.ipv6_exts.Ipv6Extensions.{Ipv6Extensions}
use Rattle.ep_ext.specs.declared.ipv6_raw_ext_header.Ipv6RawExtHeader.{Ipv6RawExtHeader}
use Rattle.ep_ext.specs.declared.ipv6_routing_exts.Ipv6RoutingExtensions.{Ipv6RoutingExtensions}
use Rattle.ep_ext.specs.Chains.{parts_bytes}
use Rattle.ep_ext.specs.ExtensionParts.{ExtensionPart, authentication, destination_options, fragment, hop_by_hop}
use Rattle.ep_ext.specs.ExtensionParts.{routing}
use Rattle.ep_ext.specs.Ipv4Chains.{ipv4_linked}
use Rattle.ep_ext.specs.Ipv6Chains.{ipv6_linked, no_ipv6_extensions, with_destination, with_part, with_parts}
use Rattle.ep_ip.specs.declared.ipv4_header.Ipv4Header.{Ipv4Header}
use Rattle.ep_ip.specs.declared.ipv6_header.Ipv6Header.{Ipv6Header}
use Rattle.ep_ip.specs.Ipv4.{FitsIpv4, default_ipv4_header, ipv4_bytes, ipv4_checksum, ipv4_header_len}
use Rattle.ep_ip.specs.Ip.{version_of}
use Rattle.ep_ip.specs.IpPackets.{IpPacket, IpPart, IsIp, IsIpv4, ipv4_part, ipv6_part}
use Rattle.ep_ip.specs.Ipv6.{default_ipv6_header, ipv6_bytes}
use Rattle.ep_ip.proofs.PacketLemmas.{ip_decided, ipv4_version, ipv6_version}
use Rattle.ep_packet.specs.Frame.{IsFrame, IsNetPart, IsTransportAfterNet, IsTransportIn, any_ip}
use Rattle.ep_packet.specs.FrameVerdicts.{frame_checksums, net_checksums}
use Rattle.ep_packet.specs.IpHeaders.{FitIpHeaders, headers_for, headers_fragment, ip_extensions_len, most_after_header}
use Rattle.ep_packet.specs.IpHeaders.{ip_headers_parts, ip_headers_type, payload_of_headers}
use Rattle.ep_packet.specs.Layers.{Layers, NetLayer, ipv4 as ipv4_net, ipv6 as ipv6_net, arp as arp_net, ip_layer}
use Rattle.ep_packet.specs.Layers.{layers_of, net_payload}
use Rattle.ep_packet.specs.ShownBytes.{ShowsBytes}
use Rattle.ep_packet.specs.Verdicts.{checksums_of, has_routing, has_source_route, is_partial, is_uncounted, sum_verdict}
use Rattle.ep_packet.specs.Verdicts.{header_verdict, message_verdict, verdict_ipv4, verdict_ipv6}
use Rattle.ep_packet.specs.declared.checksum_verdict.ChecksumVerdict.{ChecksumVerdict}
use Rattle.ep_packet.specs.declared.checksum_verdict.ChecksumVerdict.TheVariants.{Valid, Unknown}
use Rattle.ep_packet.specs.declared.checksum_verdict.ChecksumVerdicts.{ChecksumVerdicts}
use Rattle.ep_packet.specs.declared.entry.Entry.{Entry}
use Rattle.ep_packet.specs.declared.ip_headers.IpHeaders.{IpHeaders}
use Rattle.ep_packet.specs.declared.ip_headers.IpHeaders.TheVariants as version
use Rattle.ep_packet.specs.declared.sliced_packet.SlicedPacket.{SlicedPacket}
use Rattle.ep_packet.proofs.FrameLemmas.{frames_decided}
use Rattle.ep_packet.proofs.FrameVerdictLemmas.{verdicts_shown}
use Rattle.ep_packet.proofs.LayerLawLemmas.{layer_laws}
use Rattle.ep_packet.proofs.OffsetLemmas.{transport_encoded}
use Rattle.ep_transport.specs.Icmpv4.{icmpv4_rows}
use Rattle.ep_transport.specs.TransportHeaders.{transport_bytes, transport_header_len}
use Rattle.ep_transport.specs.TransportParts.{IsTransportLayer, IsTransportPart, TransportLayer}
use Rattle.ep_transport.specs.declared.transport_header.TransportHeader.{TransportHeader}
use Rattle.ep_transport.specs.declared.transport_header.TransportHeader.TheVariants as transport
use Rattle.ep_transport.proofs.Icmpv4Lemmas.{icmpv4_is_read}
use Rattle.ep_build.specs.BuildErrors.{IsBuildable}
use Rattle.ep_build.specs.BuiltFrames.{as_ether_type, built_frame, ip_frame, ip_frame_headers, ip_packet}
use Rattle.ep_build.specs.BuiltFrames.{link_part_bytes, link_with_type, transport_between, transport_frame_headers}
use Rattle.ep_build.specs.BuiltFrames.{transport_number, transport_packet}
use Rattle.ep_build.specs.BuiltVerdicts.{built_header_verdict, built_verdicts}
use Rattle.ep_build.specs.Fits.{FitsLink, FitsTransport}
use Rattle.ep_build.specs.ReadBack.{HasItsLength, IsEntryOf, message_of}
use Rattle.ep_build.specs.declared.link_part.LinkPart.{LinkPart}
use Rattle.ep_build.proofs.BuiltVerdictLemmas.{bound, header_is_valid, message_is_valid}
use Rattle.ep_build.proofs.FitLemmas.{linked_fit}
use Rattle.ep_build.proofs.FrameBytesLemmas.{ip_frame_is_bytes}
use Rattle.ep_build.proofs.LengthLemmas.{between_len}
use Rattle.ep_build.proofs.LinkReadBackLemmas.{frame_is}
use Rattle.ep_build.proofs.NetFoundLemmas.{ip_in}
use Rattle.ep_build.proofs.NetReadBackLemmas.{HasHeaders, fragments_linked, net_of}
use Rattle.ep_build.proofs.ReadBackLemmas.{ends_present, ip_is_net}
use Rattle.ep_build.proofs.TransportReadBackLemmas.{TransportOf, transport_of}
use Rattle.ep_build.proofs.WritingLemmas.{transport_len}

-- ---- routing headers

or_false : (a : Bool) → (a || false) ≡ a
or_false true = refl
or_false false = refl

or_true : (a : Bool) → (a || true) ≡ true
or_true true = refl
or_true false = refl

destination_keeps : (before : Ipv6Extensions) (header : Ipv6RawExtHeader) (found : Option Ipv6RoutingExtensions)
    → before.routing ≡ found → is_some (with_destination before header found).routing ≡ is_some found
destination_keeps before header None is = ap is_some is
destination_keeps before header (Some exts) is = refl

-- The owned value has a routing header if and only if the headers added to it do, or it had one.
routing_added : (parts : List ExtensionPart) (before : Ipv6Extensions)
    → is_some (with_parts before parts).routing ≡ (is_some before.routing || has_routing parts)
routing_added [] before = sym (or_false (is_some before.routing))
routing_added (hop_by_hop header ∷ parts) before = routing_added parts (with_part before (hop_by_hop header))
routing_added (destination_options header ∷ parts) before =
    routing_added parts (with_part before (destination_options header))
    ∙ ap (λ (b : Bool). b || has_routing parts) (destination_keeps before header before.routing refl)
routing_added (routing header ∷ parts) before =
    routing_added parts (with_part before (routing header)) ∙ sym (or_true (is_some before.routing))
routing_added (fragment header ∷ parts) before = routing_added parts (with_part before (fragment header))
routing_added (authentication header ∷ parts) before = routing_added parts (with_part before (authentication header))

some_mapped : {A B : Type 0} (f : A → B) (found : Option A) → is_some (option_map f found) ≡ is_some found
some_mapped f None = refl
some_mapped f (Some value) = refl

-- ---- network layer

-- A payload that is no fragment, and that a length field counts, is whole.
not_partial : (payload : IpPayload) (counted : LenSource) → payload.fragmented ≡ false → payload.source ≡ counted
    → is_uncounted counted ≡ false → is_partial payload ≡ false
not_partial payload counted complete is_counted limits =
    ap (λ (f : Bool). f || is_uncounted payload.source) complete ∙ ap is_uncounted is_counted ∙ limits

-- The IP header of these headers, or a default for the other version.
abbrev ipv4_of : IpHeaders → Ipv4Header
ipv4_of (version.Ipv4 header extensions) = header
ipv4_of (version.Ipv6 header extensions) = default_ipv4_header

abbrev ipv6_of : IpHeaders → Ipv6Header
ipv6_of (version.Ipv4 header extensions) = default_ipv6_header
ipv6_of (version.Ipv6 header extensions) = header

-- The length of an IPv4 header's bytes.
ipv4_len : (header : Ipv4Header) → length header.source ≡ 4 → length header.destination ≡ 4
    → length (ipv4_bytes header) ≡ ipv4_header_len header
ipv4_len header source_len destination_len = grind (arith, common_steps)

-- An IPv4 header with its checksum is valid at the start of bytes, where a header of its length is.
first_is_valid : (header : Ipv4Header) (rest message : List ℕ) (len : ℕ) → length header.source ≡ 4
    → length header.destination ≡ 4 → len ≡ ipv4_header_len header
    → let present = record header { header_checksum = ipv4_checksum header } in
    sum_verdict (take len ((ipv4_bytes present ++ rest) ++ message)) ≡ Valid
first_is_valid header rest message len source_len destination_len is_len =
    let present = record header { header_checksum = ipv4_checksum header } in
    let prefix : take len ((ipv4_bytes present ++ rest) ++ message) ≡ ipv4_bytes present =
    ap (λ (k : ℕ). take k ((ipv4_bytes present ++ rest) ++ message))
    (is_len ∙ sym (ipv4_len header source_len destination_len))
    ∙ ap (take (length (ipv4_bytes present))) (append_assoc (ipv4_bytes present) rest message)
    ∙ take-append_seam (ipv4_bytes present) (rest ++ message) in
    ap sum_verdict prefix ∙ header_is_valid header

-- The verdicts about an IPv4 header with its checksum, and about a message with a valid checksum.
net_4 : (header : Ipv4Header) (these : Ipv4Extensions) (rest message : List ℕ) (layer : NetLayer) (payload : IpPayload)
    (found : TransportLayer) → FitsIpv4 header
    → let present = record header { header_checksum = ipv4_checksum header } in
    HasHeaders (version.Ipv4 present these) layer → net_payload layer ≡ Some payload → payload.fragmented ≡ false
    → payload.source ≡ source.Ipv4HeaderTotalLen → payload.bytes ≡ message
    → take (transport_header_len found.header + length found.payload) message ≡ message
    → verdict_ipv4 header.source header.destination found.header message ≡ Valid
    → net_checksums ((ipv4_bytes present ++ rest) ++ message) (Some layer) false (Some found)
    ≡ record {
      ipv4_header = Some Valid;
      transport = Some (if has_source_route header.options then Unknown else Valid);
    }
net_4 header these rest message (ipv4_net seen parts p) payload found fits is has_payload complete counted is_message taken
    valid =
    let present = record header { header_checksum = ipv4_checksum header } in
    let n = transport_header_len found.header + length found.payload in
    let same : p ≡ payload = cc in
    let of_header = first_is_valid header rest message (ipv4_header_len seen) fits.source_len fits.destination_len
    (ap ipv4_header_len is) in
    let test : Bool → List ℕ → ChecksumVerdict = λ partial m.
    if false || partial || has_source_route header.options then Unknown
    else verdict_ipv4 header.source header.destination found.header m in
    let of_message : message_verdict (ipv4_net seen parts p) false found.header (take n p.bytes)
    ≡ (if has_source_route header.options then Unknown else Valid) =
    ap (λ (h : Ipv4Header). message_verdict (ipv4_net h parts p) false found.header (take n p.bytes)) is
    ∙ ap (λ (q : IpPayload). message_verdict (ipv4_net present parts q) false found.header (take n q.bytes)) same
    ∙ ap (λ (partial : Bool). test partial (take n payload.bytes)) (not_partial payload _ complete counted refl)
    ∙ ap (λ (m : List ℕ). test false m) (ap (take n) is_message ∙ taken)
    ∙ ap (λ (v : ChecksumVerdict). if has_source_route header.options then Unknown else v) valid in
    λ i. record { ipv4_header = Some (of_header i); transport = Some (of_message i) }
net_4 header these rest message (ipv6_net seen parts p) payload found fits is has_payload complete counted is_message taken
    valid = absurd is
net_4 header these rest message (arp_net packet) payload found fits is has_payload complete counted is_message taken
    valid = absurd is

net_6 : (header : Ipv6Header) (these : Ipv6Extensions) (bytes message : List ℕ) (layer : NetLayer)
    (payload : IpPayload) (found : TransportLayer)
    → HasHeaders (version.Ipv6 header these) layer → net_payload layer ≡ Some payload → payload.fragmented ≡ false
    → payload.source ≡ source.Ipv6HeaderPayloadLen → payload.bytes ≡ message
    → take (transport_header_len found.header + length found.payload) message ≡ message
    → verdict_ipv6 header.source header.destination found.header message ≡ Valid
    → net_checksums bytes (Some layer) false (Some found)
    ≡ record { ipv4_header = None; transport = Some (if is_some these.routing then Unknown else Valid) }
net_6 header these bytes message (ipv6_net seen parts p) payload found is has_payload complete counted is_message taken
    valid =
    let n = transport_header_len found.header + length found.payload in
    let same : p ≡ payload = cc in
    let routed : has_routing parts ≡ is_some these.routing =
    sym (routing_added parts no_ipv6_extensions) ∙ ap (λ (e : Ipv6Extensions). is_some e.routing) is.1 in
    let test : Bool → Bool → List ℕ → ChecksumVerdict = λ partial route m.
    if false || partial || route then Unknown
    else verdict_ipv6 header.source header.destination found.header m in
    let of_message : message_verdict (ipv6_net seen parts p) false found.header (take n p.bytes)
    ≡ (if is_some these.routing then Unknown else Valid) =
    ap (λ (h : Ipv6Header). message_verdict (ipv6_net h parts p) false found.header (take n p.bytes)) is.0
    ∙ ap (λ (q : IpPayload). message_verdict (ipv6_net header parts q) false found.header (take n q.bytes)) same
    ∙ ap (λ (partial : Bool). test partial (has_routing parts) (take n payload.bytes))
    (not_partial payload _ complete counted refl)
    ∙ ap (λ (route : Bool). test false route (take n payload.bytes)) routed
    ∙ ap (λ (m : List ℕ). test false (is_some these.routing) m) (ap (take n) is_message ∙ taken)
    ∙ ap (λ (v : ChecksumVerdict). if is_some these.routing then Unknown else v) valid in
    λ i. record { ipv4_header = None; transport = Some (of_message i) }
net_6 header these bytes message (ipv4_net seen parts p) payload found is has_payload complete counted is_message taken
    valid = absurd is
net_6 header these bytes message (arp_net packet) payload found is has_payload complete counted is_message taken valid =
    absurd is

-- The verdicts about a fragment.
fragment_4 : (header : Ipv4Header) (these : Ipv4Extensions) (rest message : List ℕ) (layer : NetLayer)
    (payload : IpPayload) → FitsIpv4 header
    → let present = record header { header_checksum = ipv4_checksum header } in
    HasHeaders (version.Ipv4 present these) layer → net_payload layer ≡ Some payload → payload.fragmented ≡ true
    → net_checksums ((ipv4_bytes present ++ rest) ++ message) (Some layer) false None
    ≡ record { ipv4_header = Some Valid; transport = Some Unknown }
fragment_4 header these rest message (ipv4_net seen parts p) payload fits is has_payload split =
    let same : p ≡ payload = cc in
    let of_header = first_is_valid header rest message (ipv4_header_len seen) fits.source_len fits.destination_len
    (ap ipv4_header_len is) in
    let unknown : Bool → Option ChecksumVerdict = λ f. if f then Some Unknown else None in
    let of_fragment : unknown p.fragmented ≡ Some Unknown =
    ap (λ (q : IpPayload). unknown q.fragmented) same ∙ ap unknown split in
    λ i. record { ipv4_header = Some (of_header i); transport = of_fragment i }
fragment_4 header these rest message (ipv6_net seen parts p) payload fits is has_payload split = absurd is
fragment_4 header these rest message (arp_net packet) payload fits is has_payload split = absurd is

fragment_6 : (header : Ipv6Header) (these : Ipv6Extensions) (bytes : List ℕ) (layer : NetLayer) (payload : IpPayload)
    → HasHeaders (version.Ipv6 header these) layer → net_payload layer ≡ Some payload → payload.fragmented ≡ true
    → net_checksums bytes (Some layer) false None ≡ record { ipv4_header = None; transport = Some Unknown }
fragment_6 header these bytes (ipv6_net seen parts p) payload is has_payload split =
    let same : p ≡ payload = cc in
    let unknown : Bool → Option ChecksumVerdict = λ f. if f then Some Unknown else None in
    let of_fragment : unknown p.fragmented ≡ Some Unknown =
    ap (λ (q : IpPayload). unknown q.fragmented) same ∙ ap unknown split in
    λ i. record { ipv4_header = None; transport = of_fragment i }
fragment_6 header these bytes (ipv4_net seen parts p) payload is has_payload split = absurd is
fragment_6 header these bytes (arp_net packet) payload is has_payload split = absurd is

-- ---- frame

-- The premises about a frame that was built from these parts and then sliced.
pub record IsBuiltAndSliced (part : LinkPart) (headers : IpHeaders) (upper : TransportHeader) (payload : List ℕ)
    (packet : SlicedPacket) : Type 0 where
  pub fits_link : FitsLink part
  pub fit : FitIpHeaders headers
  pub fits : FitsTransport (transport_between headers payload upper)
  pub bytes : AreBytes (message_of headers upper payload)
  pub buildable : IsBuildable (transport_frame_headers part headers upper) (length payload)
  pub entry : Entry
  pub of : IsEntryOf part (transport_packet headers upper) entry
  pub frame : IsFrame entry (built_frame (transport_frame_headers part headers upper) payload) (layers_of packet)
  pub shows : ShowsBytes (built_frame (transport_frame_headers part headers upper) payload) packet

-- Headers whose length field can count the message are buildable before it.
rows_met : {E : Type 0} (total most : ℕ) (first second : E) → most ≤ 65535 → total ≤ most
    → first_row ((nat_lt (2 ^ 64 - 1) total, first) ∷ (nat_lt most total, second) ∷ []) ≡ None
rows_met total most first second small fits = grind (arith, common_steps)

most_is : (headers : IpHeaders) → most_after_header headers ≤ 65535
most_is (version.Ipv4 header extensions) = omega arith
most_is (version.Ipv6 header extensions) = omega arith

-- The protocol number of a transport header as an IP number.
abbrev last_of : TransportHeader → IpNumber
last_of upper = record { 0 = transport_number upper }

number_fits : (upper : TransportHeader) → transport_number upper < 2 ^ 8
number_fits (transport.Udp header) = omega arith
number_fits (transport.Tcp header) = omega arith
number_fits (transport.Icmpv4 header) = omega arith
number_fits (transport.Icmpv6 header) = omega arith

-- The written headers fit their fields.
pub written_fit : (part : LinkPart) (headers : IpHeaders) (upper : TransportHeader) (payload : List ℕ)
    → FitIpHeaders headers → FitsTransport (transport_between headers payload upper)
    → IsBuildable (transport_frame_headers part headers upper) (length payload)
    → FitIpHeaders (headers_for headers (last_of upper) (length (message_of headers upper payload)))
written_fit part headers upper payload fit fits buildable =
    let present = transport_between headers payload upper in
    let len : length (message_of headers upper payload) ≡ transport_header_len upper + length payload = omega (
      arith,
      transport_len present fits,
      between_len headers payload upper,
      length-append (transport_bytes present) payload,
    ) in
    let most = (bound part headers upper payload buildable).0 in
    let within : length (message_of headers upper payload) + ip_extensions_len headers ≤ most_after_header headers =
    omega (arith, len, most) in
    linked_fit part headers (last_of upper) (length (message_of headers upper payload)) fit (number_fits upper)
    (rows_met _ (most_after_header headers) _ _ (most_is headers) within)

-- The verdicts about a packet of a built frame are those about its network layer and its transport layer.
net_verdicts : (part : LinkPart) (headers : IpHeaders) (upper : TransportHeader) (payload : List ℕ)
    (packet : SlicedPacket) → (built : IsBuiltAndSliced part headers upper payload packet)
    → (fit : FitIpHeaders (headers_for headers (last_of upper) (length (message_of headers upper payload))))
    → (transport : Option TransportLayer) → let message = message_of headers upper payload in
    let written = headers_for headers (last_of upper) (length message) in
    IsTransportAfterNet slices (Some (payload_of_headers written (last_of upper) message)) transport
    → checksums_of packet ≡ net_checksums
    (ip_frame headers (last_of upper) message)
    (Some (net_of slices headers (last_of upper) message fit (ends_present headers upper)).layer)
    false
    transport
net_verdicts part headers upper payload packet built fit transport present =
    let message = message_of headers upper payload in
    let inner = ip_frame headers (last_of upper) message in
    let net = net_of slices headers (last_of upper) message fit (ends_present headers upper) in
    let any : IsNetPart slices (Some any_ip) inner (Some net.layer) transport = (
      net.layer,
      net.any,
      refl,
      subst (λ (p : Option IpPayload). IsTransportAfterNet slices p transport) (sym net.has_payload) present,
    ) in
    let frame = frame_is slices part (transport_packet headers upper) built.entry inner net.layer transport
    built.fits_link built.of (ip_is_net slices headers _ _ _ transport net present) (λ is_ip. any) in
    let bytes = built_frame (transport_frame_headers part headers upper) payload in
    let are_bytes : AreBytes bytes = ip_frame_is_bytes part headers (last_of upper) message built.fits_link fit
    built.bytes in
    let same : layers_of packet ≡ frame.layers =
    (frames_decided layer_laws slices built.entry bytes are_bytes).one_value _ _ built.frame frame.is in
    verdicts_shown bytes packet built.shows
    ∙ ap (λ (l : Layers). frame_checksums bytes l false) same
    ∙ ap (λ (b : List ℕ). net_checksums b frame.layers.net false frame.layers.transport) frame.has_inner
    ∙ ap (λ (n : Option NetLayer). net_checksums inner n false frame.layers.transport) frame.has_net
    ∙ ap (net_checksums inner (Some net.layer) false) frame.has_transport

-- The transport layer that is found has all bytes of the message.
all_taken : (headers : IpHeaders) (upper : TransportHeader) (payload : List ℕ) (written : TransportHeader)
    (message : List ℕ) → (found : TransportOf slices (transport_number upper) headers upper payload written message)
    → take (transport_header_len found.layer.header + length found.layer.payload) message ≡ message
all_taken headers upper payload written message found =
    let prefix = transport_encoded (Some found.layer) found.header found.encodes in
    let len : transport_header_len found.layer.header + length found.layer.payload ≡ length message =
    omega (arith, prefix, ap length found.parts, length-append found.header found.layer.payload) in
    ap (λ (n : ℕ). take n message) len ∙ take-length message

-- ---- length of an ICMPv4 message

icmpv4_read : (message : List ℕ) (header : TransportHeader) (payload : List ℕ)
    → IsTransportLayer slices icmpv4_number message header payload → first_row (icmpv4_rows message) ≡ None
icmpv4_read message (transport.Udp header) payload is = absurd (omega (arith, is.0))
icmpv4_read message (transport.Tcp header) payload is = absurd (omega (arith, is.0))
icmpv4_read message (transport.Icmpv4 header) payload is = (icmpv4_is_read.is_read message _ is.1).0
icmpv4_read message (transport.Icmpv6 header) payload is = absurd (omega (arith, is.0))

-- A message that is read as a transport layer has the length of its type.
length_read : (upper : TransportHeader) (message : List ℕ) (found : Option TransportLayer)
    → IsTransportPart slices (transport_number upper) false message found → HasItsLength upper message
length_read (transport.Udp header) message found is = tt
length_read (transport.Tcp header) message found is = tt
length_read (transport.Icmpv6 header) message found is = tt
length_read (transport.Icmpv4 header) message (Some layer) is = icmpv4_read message layer.header layer.payload is.1
length_read (transport.Icmpv4 header) message None (inl is) = absurd (cc)
length_read (transport.Icmpv4 header) message None (inr none) = absurd (none.2 refl)

-- The message of a frame that is sliced, and that is no fragment, has the length of its type.
its_length : (part : LinkPart) (headers : IpHeaders) (upper : TransportHeader) (payload : List ℕ)
    (packet : SlicedPacket) → IsBuiltAndSliced part headers upper payload packet → headers_fragment headers ≡ false
    → HasItsLength upper (message_of headers upper payload)
its_length part headers upper payload packet built complete =
    let message = message_of headers upper payload in
    let written = headers_for headers (last_of upper) (length message) in
    let content = payload_of_headers written (last_of upper) message in
    let inner = ip_frame headers (last_of upper) message in
    let layers = layers_of packet in
    let fit = written_fit part headers upper payload built.fit built.fits built.buildable in
    let net = net_of slices headers (last_of upper) message fit (ends_present headers upper) in
    let found = (ip_in part headers (transport_packet headers upper) built.entry inner layers refl built.fits_link
    built.of built.frame).part in
    let are_bytes : AreBytes inner =
    AreBytes-back (link_part_bytes (link_with_type part (as_ether_type (ip_headers_type headers)))) inner
    (ip_frame_is_bytes part headers (last_of upper) message built.fits_link fit built.bytes) in
    let same : found.1.0 ≡ net.any.0 =
    (ip_decided slices inner are_bytes).one_value found.1.0 net.any.0 found.1.1 net.any.1 in
    let same_layer : found.0 ≡ net.layer = found.1.2 ∙ ap ip_layer same ∙ sym net.any.2 in
    let has_payload : net_payload found.0 ≡ Some content = ap net_payload same_layer ∙ net.has_payload in
    let present : IsTransportIn slices content layers.transport =
    subst (λ (p : Option IpPayload). IsTransportAfterNet slices p layers.transport) has_payload found.3 in
    length_read upper message layers.transport
    (subst (λ (f : Bool). IsTransportPart slices (transport_number upper) f message layers.transport)
    (fragments_linked headers (last_of upper) (length message) ∙ complete) present)

-- ---- verdicts

complete_verdicts : (part : LinkPart) (headers : IpHeaders) (upper : TransportHeader) (payload : List ℕ)
    (packet : SlicedPacket) → IsBuiltAndSliced part headers upper payload packet
    → HasItsLength upper (message_of headers upper payload) → headers_fragment headers ≡ false
    → checksums_of packet ≡ built_verdicts headers
complete_verdicts part (version.Ipv4 header extensions) upper payload packet built of_length complete =
    let headers = version.Ipv4 header extensions in
    let message = message_of headers upper payload in
    let written = headers_for headers (last_of upper) (length message) in
    let content = payload_of_headers written (last_of upper) message in
    let fit = written_fit part headers upper payload built.fit built.fits built.buildable in
    let net = net_of slices headers (last_of upper) message fit (ends_present headers upper) in
    let found = transport_of slices headers upper payload built.fits built.bytes of_length in
    let present : IsTransportAfterNet slices (Some content) (Some found.layer) =
    subst (λ f. IsTransportPart slices (transport_number upper) f message (Some found.layer)) (sym complete) found.part in
    let valid = found.same_ipv4 header.source header.destination
    ∙ message_is_valid part headers upper payload built.fit built.fits built.buildable in
    net_verdicts part headers upper payload packet built fit (Some found.layer) present
    ∙ net_4 (ipv4_of written) (ipv4_linked extensions (last_of upper)) (parts_bytes (ip_headers_parts written)) message
    net.layer content found.layer fit.0 net.has_headers net.has_payload complete refl refl
    (all_taken headers upper payload _ message found) valid
    ∙ λ i. record {
      ipv4_header = Some Valid;
      transport = Some (if sym complete i || has_source_route header.options then Unknown else Valid);
    }
complete_verdicts part (version.Ipv6 header extensions) upper payload packet built of_length complete =
    let headers = version.Ipv6 header extensions in
    let message = message_of headers upper payload in
    let written = headers_for headers (last_of upper) (length message) in
    let content = payload_of_headers written (last_of upper) message in
    let fit = written_fit part headers upper payload built.fit built.fits built.buildable in
    let net = net_of slices headers (last_of upper) message fit (ends_present headers upper) in
    let found = transport_of slices headers upper payload built.fits built.bytes of_length in
    let linked = fragments_linked headers (last_of upper) (length message) ∙ complete in
    let present : IsTransportAfterNet slices (Some content) (Some found.layer) =
    subst (λ f. IsTransportPart slices (transport_number upper) f message (Some found.layer)) (sym linked) found.part in
    let valid = found.same_ipv6 header.source header.destination
    ∙ message_is_valid part headers upper payload built.fit built.fits built.buildable in
    let routed = some_mapped _ extensions.routing in
    net_verdicts part headers upper payload packet built fit (Some found.layer) present
    ∙ net_6 (ipv6_of written) (ipv6_linked extensions (last_of upper)) (ip_frame headers (last_of upper) message)
    message net.layer content found.layer net.has_headers net.has_payload linked refl refl
    (all_taken headers upper payload _ message found) valid
    ∙ λ i. record {
      ipv4_header = None;
      transport = Some (if sym complete i || routed i then Unknown else Valid);
    }

split_verdicts : (part : LinkPart) (headers : IpHeaders) (upper : TransportHeader) (payload : List ℕ)
    (packet : SlicedPacket) → IsBuiltAndSliced part headers upper payload packet → headers_fragment headers ≡ true
    → checksums_of packet ≡ built_verdicts headers
split_verdicts part (version.Ipv4 header extensions) upper payload packet built split =
    let headers = version.Ipv4 header extensions in
    let message = message_of headers upper payload in
    let written = headers_for headers (last_of upper) (length message) in
    let content = payload_of_headers written (last_of upper) message in
    let fit = written_fit part headers upper payload built.fit built.fits built.buildable in
    let net = net_of slices headers (last_of upper) message fit (ends_present headers upper) in
    net_verdicts part headers upper payload packet built fit None (inl split)
    ∙ fragment_4 (ipv4_of written) (ipv4_linked extensions (last_of upper)) (parts_bytes (ip_headers_parts written))
    message net.layer content fit.0 net.has_headers net.has_payload split
    ∙ λ i. record {
      ipv4_header = Some Valid;
      transport = Some (if sym split i || has_source_route header.options then Unknown else Valid);
    }
split_verdicts part (version.Ipv6 header extensions) upper payload packet built split =
    let headers = version.Ipv6 header extensions in
    let message = message_of headers upper payload in
    let written = headers_for headers (last_of upper) (length message) in
    let content = payload_of_headers written (last_of upper) message in
    let fit = written_fit part headers upper payload built.fit built.fits built.buildable in
    let net = net_of slices headers (last_of upper) message fit (ends_present headers upper) in
    let linked = fragments_linked headers (last_of upper) (length message) ∙ split in
    net_verdicts part headers upper payload packet built fit None (inl linked)
    ∙ fragment_6 (ipv6_of written) (ipv6_linked extensions (last_of upper))
    (ip_frame headers (last_of upper) message) net.layer content net.has_headers net.has_payload linked
    ∙ λ i. record {
      ipv4_header = None;
      transport = Some (if sym split i || is_some extensions.routing then Unknown else Valid);
    }

by_fragment : (part : LinkPart) (headers : IpHeaders) (upper : TransportHeader) (payload : List ℕ)
    (packet : SlicedPacket) → IsBuiltAndSliced part headers upper payload packet → (split : Bool)
    → headers_fragment headers ≡ split → checksums_of packet ≡ built_verdicts headers
by_fragment part headers upper payload packet built true split =
    split_verdicts part headers upper payload packet built split
by_fragment part headers upper payload packet built false complete =
    complete_verdicts part headers upper payload packet built
    (its_length part headers upper payload packet built complete) complete

-- The verdicts about a packet of a built frame.
pub frame_is_valid : (part : LinkPart) (headers : IpHeaders) (upper : TransportHeader) (payload : List ℕ)
    → FitsLink part → FitIpHeaders headers → FitsTransport (transport_between headers payload upper)
    → AreBytes (message_of headers upper payload)
    → IsBuildable (transport_frame_headers part headers upper) (length payload)
    → (entry : Entry) → IsEntryOf part (transport_packet headers upper) entry → (packet : SlicedPacket)
    → let bytes = built_frame (transport_frame_headers part headers upper) payload in
    IsFrame entry bytes (layers_of packet) → ShowsBytes bytes packet → checksums_of packet ≡ built_verdicts headers
frame_is_valid part headers upper payload fits_link fit fits bytes buildable entry of packet frame shows =
    by_fragment part headers upper payload packet (record {
      fits_link = fits_link;
      fit = fit;
      fits = fits;
      bytes = bytes;
      buildable = buildable;
      entry = entry;
      of = of;
      frame = frame;
      shows = shows;
    }) (headers_fragment headers) refl

-- ---- frame without a transport header

-- A first byte with the same header length is of a header of that length.
same_len : (a b : ℕ) → 2 ^ 4 * 4 + a / 4 ≡ 2 ^ 4 * 4 + b / 4 → a % 4 ≡ 0 → b % 4 ≡ 0 → a ≡ b
same_len a b first complete_a complete_b = omega (arith, first, complete_a, complete_b)

words : (options : List ℕ) → length options % 4 ≡ 0 → (20 + length options) % 4 ≡ 0
words options complete = omega (arith, complete)

-- The header in bytes that begin with an IPv4 header is of its length.
len_found : (header : Ipv4Header) (rest message : List ℕ) (packet : IpPacket Ipv4Header)
    → length header.options % 4 ≡ 0 → let present = record header { header_checksum = ipv4_checksum header } in
    IsIpv4 slices ((ipv4_bytes present ++ rest) ++ message) packet
    → ipv4_header_len packet.header ≡ ipv4_header_len header
len_found header rest message packet options_words is =
    let seen = is.cut.encodes in
    let first : 2 ^ 4 * 4 + ipv4_header_len header / 4 ≡ 2 ^ 4 * 4 + ipv4_header_len packet.header / 4 =
    ap (λ (b : List ℕ). slice_index b 0)
    (is.cut.parts ∙ ap (λ (e : List ℕ). (e ++ is.content) ++ packet.left) seen.same) in
    same_len (ipv4_header_len packet.header) (ipv4_header_len header) (sym first)
    (words packet.header.options seen.fits.options_words) (words header.options options_words)

version_4 : (len : ℕ) → len ≤ 40 → (2 ^ 4 * 4 + (20 + len) / 4) / 16 ≡ 4
version_4 len fits = omega (arith, fits)

version_6 : (header : Ipv6Header) (rest : List ℕ) → header.traffic_class < 2 ^ 8 → header.flow_label < 2 ^ 20
    → version_of (ipv6_bytes header ++ rest) ≡ 6
version_6 header rest class_fits label_fits = omega (arith, class_fits, label_fits)

-- The verdict about the IPv4 header of a packet in a frame of IP headers.
header_found : (headers : IpHeaders) (last : IpNumber) (payload : List ℕ) (part : IpPart) → FitIpHeaders headers
    → let inner = ip_frame headers last payload in IsIp slices inner part
    → header_verdict (ip_layer part) inner ≡ built_header_verdict headers
header_found (version.Ipv4 header extensions) last payload (ipv4_part packet) fit is =
    let written = headers_for (version.Ipv4 header extensions) last (length payload) in
    let rest = parts_bytes (ip_headers_parts written) in
    ap (λ (v : ChecksumVerdict). Some v)
    (first_is_valid (ipv4_of written) rest payload (ipv4_header_len packet.header) fit.0.source_len
    fit.0.destination_len (len_found (ipv4_of written) rest payload packet fit.0.options_words is))
header_found (version.Ipv4 header extensions) last payload (ipv6_part packet) fit is =
    let inner = ip_frame (version.Ipv4 header extensions) last payload in
    let six : 4 ≡ 6 = sym (version_4 (length header.options) fit.0.options_len) ∙ ipv6_version slices inner packet is in
    absurd (omega (arith, six))
header_found (version.Ipv6 header extensions) last payload (ipv4_part packet) fit is =
    let written = headers_for (version.Ipv6 header extensions) last (length payload) in
    let rest = parts_bytes (ip_headers_parts written) in
    let inner = ip_frame (version.Ipv6 header extensions) last payload in
    let six : version_of inner ≡ 6 =
    ap version_of (append_assoc (ipv6_bytes (ipv6_of written)) rest payload)
    ∙ version_6 (ipv6_of written) (rest ++ payload) fit.0.traffic_class fit.0.flow_label in
    let four : 6 ≡ 4 = sym six ∙ ipv4_version slices inner packet is in absurd (omega (arith, four))
header_found (version.Ipv6 header extensions) last payload (ipv6_part packet) fit is = refl

-- The verdict about the IPv4 header of a packet of a frame of IP headers and a payload.
pub ip_header_is_valid : (part : LinkPart) (headers : IpHeaders) (last : IpNumber) (payload : List ℕ) → FitsLink part
    → FitIpHeaders headers → (entry : Entry) → IsEntryOf part (ip_packet headers last) entry
    → (packet : SlicedPacket) → let bytes = built_frame (ip_frame_headers part headers last) payload in
    IsFrame entry bytes (layers_of packet) → ShowsBytes bytes packet
    → (checksums_of packet).ipv4_header ≡ built_header_verdict headers
ip_header_is_valid part headers last payload fits_link fit entry of packet frame shows =
    let bytes = built_frame (ip_frame_headers part headers last) payload in
    let inner = ip_frame headers last payload in
    let layers = layers_of packet in
    let in_frame = ip_in part headers (ip_packet headers last) entry inner layers refl fits_link of frame in
    let found = in_frame.part in
    ap (λ (c : ChecksumVerdicts). c.ipv4_header) (verdicts_shown bytes packet shows)
    ∙ ap (λ (b : List ℕ). option_and_then (λ (layer : NetLayer). header_verdict layer b) layers.net) in_frame.has_inner
    ∙ ap (option_and_then (λ (layer : NetLayer). header_verdict layer inner)) found.2
    ∙ ap (λ (layer : NetLayer). header_verdict layer inner) found.1.2
    ∙ header_found headers last payload found.1.0 fit found.1.1
