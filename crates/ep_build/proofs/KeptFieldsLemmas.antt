-- The fields of a built frame are read back, from what was given.
use Rattle.std.proofs.Common.{◌≡◌, ℕ, zero, suc, ◌+◌, ◌^◌, ◌<◌, ◌≤◌, true, false, List, [], ◌++◌, length, take, drop}
use Rattle.std.proofs.Common.{Option, Some, refl, sym, ap, subst, ◌∙◌, arith}
use Rattle.std.specs.Int.{w16, to_be_bytes}
use Rattle.ep_base.specs.Bytes.{AreBytes}
use Rattle.ep_base.specs.Checksum.{checksum_of, no_zero}
use Rattle.ep_base.specs.EtherTypes.{arp_type, provider_bridging_type, vlan_type}
use Rattle.ep_base.specs.Readings.{Reading}
use Rattle.ep_base.specs.declared.ip_number.IpNumber.{IpNumber}
use Rattle.ep_base.proofs.BytesLemmas.{AreBytes-back, AreBytes-prefix}
use Rattle.ep_ext.specs.Ipv6Chains.{ipv6_linked}
use Rattle.ep_link.specs.Arp.{Arp, FitsArp}
use Rattle.ep_link.specs.LinkExtensions.{LinkExtension}
use Rattle.ep_link.specs.LinkSlices.{LinkLayer}
use Rattle.ep_link.specs.declared.link.ethernet2_header.Ethernet2Header.{Ethernet2Header}
use Rattle.ep_link.specs.declared.link_ext.single_vlan_header.SingleVlanHeader.{SingleVlanHeader}
use Rattle.ep_link.specs.declared.link_ext.vlan_header.VlanHeader.TheVariants as tags
use Rattle.ep_packet.specs.IpHeaders.{EndsExtensions, FitIpHeaders, headers_for, headers_fragment, most_after_header}
use Rattle.ep_packet.specs.IpHeaders.{ip_headers_type, payload_of_headers, with_checksum}
use Rattle.ep_packet.specs.Layers.{NetLayer}
use Rattle.ep_packet.specs.declared.entry.Entry.{Entry}
use Rattle.ep_packet.specs.declared.ip_headers.IpHeaders.{IpHeaders}
use Rattle.ep_packet.specs.declared.ip_headers.IpHeaders.TheVariants as version
use Rattle.ep_transport.specs.Icmpv4.{icmpv4_bytes, icmpv4_message}
use Rattle.ep_transport.specs.Icmpv6.{icmpv6_bytes, icmpv6_checksum}
use Rattle.ep_transport.specs.PseudoHeaders.{tcp_checksum_ipv4, tcp_checksum_ipv6}
use Rattle.ep_transport.specs.Tcp.{FitsTcp, tcp_bytes}
use Rattle.ep_transport.specs.TransportHeaders.{transport_bytes, transport_header_len}
use Rattle.ep_transport.specs.Udp.{FitsUdp, udp_bytes}
use Rattle.ep_transport.specs.declared.icmpv4_header.Icmpv4Header.{Icmpv4Header}
use Rattle.ep_transport.specs.declared.tcp_header.TcpHeader.{TcpHeader}
use Rattle.ep_transport.specs.declared.transport_header.TransportHeader.{TransportHeader}
use Rattle.ep_transport.specs.declared.transport_header.TransportHeader.TheVariants as transport
use Rattle.ep_transport.specs.declared.udp_header.UdpHeader.{UdpHeader}
use Rattle.ep_build.specs.BuildErrors.{IsBuildable}
use Rattle.ep_build.specs.BuiltFrames.{Inside, arp_frame_headers, arp_packet, as_ether_type, inside_type}
use Rattle.ep_build.specs.BuiltFrames.{ip_frame_headers, ip_packet, link_with_type, tag_with_type, transport_between}
use Rattle.ep_build.specs.BuiltFrames.{transport_frame_headers, transport_number, transport_packet}
use Rattle.ep_build.specs.Fits.{FitsLink, FitsTransport}
use Rattle.ep_build.specs.KeptFields.{KeepsEthernet2, KeepsIp, KeepsLink, KeepsTag, KeepsUpper, ReadsAll, given_type}
use Rattle.ep_build.specs.ReadBack.{HasItsLength, IsEntryOf, message_of}
use Rattle.ep_build.specs.declared.link_part.LinkPart.{LinkPart}
use Rattle.ep_build.specs.declared.link_part.LinkPart.TheVariants as link
use Rattle.ep_build.proofs.BuiltFrameVerdictLemmas.{written_fit}
use Rattle.ep_build.proofs.BuiltVerdictLemmas.{bound}
use Rattle.ep_build.proofs.ByteListLemmas.{AllBytes, all, both_bytes, word}
use Rattle.ep_build.proofs.FitLemmas.{linked_fit}
use Rattle.ep_build.proofs.KeptBytesLemmas.{arp_bytes_read, ip_bytes_read, of_equal_link}
use Rattle.ep_build.proofs.KeptPartsLemmas.{in_ipv6_order, kept_4, kept_6}
use Rattle.ep_build.proofs.LinkReadBackLemmas.{IsLinkRead}
use Rattle.ep_build.proofs.NetReadBackLemmas.{layer_with}
use Rattle.ep_build.proofs.ReadBackLemmas.{arp_frame, fragment_frame, transport_frame}

-- ---- filled in fields fit their widths

no_zero_fits : (n : ℕ) → n ≤ 65535 → no_zero n < 2 ^ 16
no_zero_fits zero small = omega arith
no_zero_fits (suc n) small = omega (arith, small)

at_most : (headers : IpHeaders) → most_after_header headers ≤ 65535
at_most (version.Ipv4 header extensions) = omega arith
at_most (version.Ipv6 header extensions) = omega arith

udp_fits : (header : UdpHeader) (len sum : ℕ) → FitsUdp header → len < 2 ^ 16 → sum < 2 ^ 16
    → FitsUdp (record header { length = len; checksum = sum })
udp_fits header len sum fits small_len small_sum = record {
  source_port = fits.source_port;
  destination_port = fits.destination_port;
  length = small_len;
  checksum = small_sum;
}

tcp_fits : (header : TcpHeader) (sum : ℕ) → FitsTcp header → sum < 2 ^ 16
    → FitsTcp (record header { checksum = sum })
tcp_fits header sum fits small = record {
  source_port = fits.source_port;
  destination_port = fits.destination_port;
  sequence_number = fits.sequence_number;
  acknowledgment_number = fits.acknowledgment_number;
  window_size = fits.window_size;
  checksum = small;
  urgent_pointer = fits.urgent_pointer;
  options_len = fits.options_len;
  options_words = fits.options_words;
  options = fits.options;
}

filled_fits : (headers : IpHeaders) (upper : TransportHeader) (payload : List ℕ) → FitsTransport upper
    → transport_header_len upper + length payload ≤ 65535 → FitsTransport (transport_between headers payload upper)
filled_fits (version.Ipv4 ip extensions) (transport.Udp header) payload fits most =
    udp_fits header (8 + length payload) _ fits (omega (arith, most)) (no_zero_fits _ (omega arith))
filled_fits (version.Ipv6 ip extensions) (transport.Udp header) payload fits most =
    udp_fits header (8 + length payload) _ fits (omega (arith, most)) (no_zero_fits _ (omega arith))
filled_fits (version.Ipv4 ip extensions) (transport.Tcp header) payload fits most =
    tcp_fits header (tcp_checksum_ipv4 ip.source ip.destination header payload) fits (omega arith)
filled_fits (version.Ipv6 ip extensions) (transport.Tcp header) payload fits most =
    tcp_fits header (tcp_checksum_ipv6 ip.source ip.destination header payload) fits (omega arith)
filled_fits (version.Ipv4 ip extensions) (transport.Icmpv4 header) payload fits most = fits
filled_fits (version.Ipv6 ip extensions) (transport.Icmpv4 header) payload fits most = fits
filled_fits (version.Ipv4 ip extensions) (transport.Icmpv6 header) payload fits most = fits
filled_fits (version.Ipv6 ip extensions) (transport.Icmpv6 header) payload fits most = fits

-- ---- the message consists of bytes

-- Bytes with another number in one word are bytes.
other_word : (prefix rest : List ℕ) (old new : ℕ) → AreBytes (prefix ++ (to_be_bytes w16 old ++ rest))
    → AreBytes (prefix ++ (to_be_bytes w16 new ++ rest))
other_word prefix rest old new bytes =
    both_bytes prefix (to_be_bytes w16 new ++ rest) (AreBytes-prefix prefix (to_be_bytes w16 old ++ rest) bytes)
    (word new rest (all rest (AreBytes-back (to_be_bytes w16 old) rest
    (AreBytes-back prefix (to_be_bytes w16 old ++ rest) bytes)))).fits

icmpv4_is_bytes : (header : Icmpv4Header) (payload : List ℕ) → AreBytes (icmpv4_bytes header ++ payload)
    → AreBytes (icmpv4_bytes (record header { checksum = checksum_of (icmpv4_message header payload) }) ++ payload)
icmpv4_is_bytes header payload bytes =
    other_word (take 2 (icmpv4_bytes header)) (drop 4 (icmpv4_bytes header ++ payload)) header.checksum
    (checksum_of (icmpv4_message header payload)) bytes

message_is_bytes : (headers : IpHeaders) (upper : TransportHeader) (payload : List ℕ)
    → AreBytes (transport_bytes upper ++ payload) → AreBytes (message_of headers upper payload)
message_is_bytes (version.Ipv4 ip extensions) (transport.Udp header) payload bytes =
    let present : AllBytes (message_of (version.Ipv4 ip extensions) (transport.Udp header) payload) =
    word _ _ (word _ _ (word _ _ (word _ _ (all payload (AreBytes-back (udp_bytes header) payload bytes))))) in
    present.fits
message_is_bytes (version.Ipv6 ip extensions) (transport.Udp header) payload bytes =
    let present : AllBytes (message_of (version.Ipv6 ip extensions) (transport.Udp header) payload) =
    word _ _ (word _ _ (word _ _ (word _ _ (all payload (AreBytes-back (udp_bytes header) payload bytes))))) in
    present.fits
message_is_bytes (version.Ipv4 ip extensions) (transport.Tcp header) payload bytes =
    other_word (take 16 (tcp_bytes header)) (drop 18 (tcp_bytes header ++ payload)) header.checksum
    (tcp_checksum_ipv4 ip.source ip.destination header payload) bytes
message_is_bytes (version.Ipv6 ip extensions) (transport.Tcp header) payload bytes =
    other_word (take 16 (tcp_bytes header)) (drop 18 (tcp_bytes header ++ payload)) header.checksum
    (tcp_checksum_ipv6 ip.source ip.destination header payload) bytes
message_is_bytes (version.Ipv4 ip extensions) (transport.Icmpv4 header) payload bytes =
    icmpv4_is_bytes header payload bytes
message_is_bytes (version.Ipv6 ip extensions) (transport.Icmpv4 header) payload bytes =
    icmpv4_is_bytes header payload bytes
message_is_bytes (version.Ipv4 ip extensions) (transport.Icmpv6 header) payload bytes = bytes
message_is_bytes (version.Ipv6 ip extensions) (transport.Icmpv6 header) payload bytes =
    other_word (take 2 (icmpv6_bytes header)) (drop 4 (icmpv6_bytes header ++ payload)) header.checksum
    (icmpv6_checksum ip.source ip.destination header payload) bytes

-- The length of an ICMPv4 message does not depend on its checksum.
length_kept : (headers : IpHeaders) (upper : TransportHeader) (payload : List ℕ)
    → HasItsLength upper (transport_bytes upper ++ payload) → HasItsLength upper (message_of headers upper payload)
length_kept (version.Ipv4 ip extensions) (transport.Udp header) payload its_length = tt
length_kept (version.Ipv6 ip extensions) (transport.Udp header) payload its_length = tt
length_kept (version.Ipv4 ip extensions) (transport.Tcp header) payload its_length = tt
length_kept (version.Ipv6 ip extensions) (transport.Tcp header) payload its_length = tt
length_kept (version.Ipv4 ip extensions) (transport.Icmpv4 header) payload its_length = its_length
length_kept (version.Ipv6 ip extensions) (transport.Icmpv4 header) payload its_length = its_length
length_kept (version.Ipv4 ip extensions) (transport.Icmpv6 header) payload its_length = tt
length_kept (version.Ipv6 ip extensions) (transport.Icmpv6 header) payload its_length = tt

-- ---- link part

kept_ethernet2 : (given : Ethernet2Header) (type : ℕ)
    → KeepsEthernet2 given type (record given { ether_type = as_ether_type type })
kept_ethernet2 given type = record { source = refl; destination = refl; ether_type = refl }

kept_tag : (given : SingleVlanHeader) (type : ℕ)
    → KeepsTag given type (tag_with_type given (as_ether_type type))
kept_tag given type = record { pcp = refl; drop_eligible_indicator = refl; vlan_id = refl; ether_type = refl }

-- The link part that is read is the one that was given.
kept_link : (part : LinkPart) (type : ℕ) (inner : List ℕ) (found : Option LinkLayer) (extensions : List LinkExtension)
    → IsLinkRead (link_with_type part (as_ether_type type)) inner found extensions
    → KeepsLink part type found extensions
kept_link link.Absent type inner found extensions is = is
kept_link (link.Ethernet2 given) type inner found extensions is =
    of_equal_link (KeepsLink (link.Ethernet2 given) type) found _ extensions [] is.0 is.1 (kept_ethernet2 given type)
kept_link (link.Tagged given (tags.Single tag)) type inner found extensions is =
    of_equal_link (KeepsLink (link.Tagged given (tags.Single tag)) type) found _ extensions _ is.0 is.1
    (kept_ethernet2 given vlan_type, kept_tag tag type)
kept_link (link.Tagged given (tags.Double both)) type inner found extensions is =
    of_equal_link (KeepsLink (link.Tagged given (tags.Double both)) type) found _ extensions _ is.0 is.1
    (kept_ethernet2 given provider_bridging_type, kept_tag both.outer vlan_type, kept_tag both.inner type)
kept_link (link.LinuxSll given) type inner found extensions is =
    of_equal_link (KeepsLink (link.LinuxSll given) type) found _ extensions [] is.0 is.1 (record {
      packet_type = refl;
      sender_address_valid_length = refl;
      sender_address = refl;
      hardware = refl;
      protocol = refl;
    })

-- The ether type of the network layer is that of the headers that were given.
kept_type : (inside : Inside) → inside_type inside ≡ given_type inside
kept_type (ip_packet (version.Ipv4 header extensions) last) = refl
kept_type (ip_packet (version.Ipv6 header extensions) last) = refl
kept_type (transport_packet (version.Ipv4 header extensions) upper) = refl
kept_type (transport_packet (version.Ipv6 header extensions) upper) = refl
kept_type (arp_packet packet) = refl

link_of_frame : (part : LinkPart) (inside : Inside) (inner : List ℕ) (found : Option LinkLayer)
    (extensions : List LinkExtension)
    → IsLinkRead (link_with_type part (as_ether_type (inside_type inside))) inner found extensions
    → KeepsLink part (given_type inside) found extensions
link_of_frame part inside inner found extensions is =
    subst (λ (type : ℕ). KeepsLink part type found extensions) (kept_type inside)
    (kept_link part (inside_type inside) inner found extensions is)

-- ---- IP headers

-- The IP headers that are read are those that were given.
kept_ip : (headers : IpHeaders) (last : IpNumber) (content : List ℕ)
    → let written = headers_for headers last (length content) in
    KeepsIp headers last.0 content (Some (layer_with (with_checksum written) (payload_of_headers written last content)))
kept_ip (version.Ipv4 header extensions) last content =
    let kept = kept_4 extensions last in (
      record {
        dscp = refl;
        ecn = refl;
        total_len = refl;
        identification = refl;
        dont_fragment = refl;
        more_fragments = refl;
        fragment_offset = refl;
        time_to_live = refl;
        protocol = kept.starts;
        header_checksum = refl;
        source = refl;
        destination = refl;
        options = refl;
      },
      kept.kept,
      refl,
      refl,
    )
kept_ip (version.Ipv6 header extensions) last content =
    let kept = kept_6 extensions last in (
      record {
        traffic_class = refl;
        flow_label = refl;
        payload_length = refl;
        next_header = kept.starts;
        hop_limit = refl;
        source = refl;
        destination = refl;
      },
      kept.kept,
      in_ipv6_order (ipv6_linked extensions last),
      refl,
      refl,
    )

ip_of_frame : (headers : IpHeaders) (last : IpNumber) (content : List ℕ) (layer : NetLayer) (net : Option NetLayer)
    → let written = headers_for headers last (length content) in net ≡ Some layer
    → layer ≡ layer_with (with_checksum written) (payload_of_headers written last content)
    → KeepsIp headers last.0 content net
ip_of_frame headers last content layer net has_net has_layer =
    subst (KeepsIp headers last.0 content) (sym (has_net ∙ ap (λ (l : NetLayer). Some l) has_layer))
    (kept_ip headers last content)

-- ---- frames

pub transport_kept : (part : LinkPart) (headers : IpHeaders) (upper : TransportHeader) (payload : List ℕ)
    → FitsLink part → FitIpHeaders headers → FitsTransport upper → AreBytes (transport_bytes upper ++ payload)
    → IsBuildable (transport_frame_headers part headers upper) (length payload)
    → headers_fragment headers ≡ false → HasItsLength upper (transport_bytes upper ++ payload)
    → (reading : Reading) (entry : Entry) → IsEntryOf part (transport_packet headers upper) entry
    → ReadsAll reading entry (transport_frame_headers part headers upper) payload
transport_kept part headers upper payload fits_link fit fits bytes buildable complete its_length reading entry of =
    let number = transport_number upper in
    let message = message_of headers upper payload in
    let limits = bound part headers upper payload buildable in
    let filled = filled_fits headers upper payload fits (omega (arith, limits.0, at_most headers)) in
    let back = transport_frame part headers upper payload fits_link
    (written_fit part headers upper payload fit filled buildable) filled
    (message_is_bytes headers upper payload bytes) complete (length_kept headers upper payload its_length) reading entry
    of in
    let layers = back.frame.layers in record {
      layers = layers;
      is = back.frame.is;
      bytes = ip_bytes_read part (ip_headers_type headers) headers (record { 0 = number }) message layers back.net.layer
          back.frame.has_link back.frame.has_net back.net.has_layer;
      link = link_of_frame part (transport_packet headers upper) _ layers.link layers.link_exts back.frame.has_link;
      inside = (
        number,
        message,
        ip_of_frame headers (record { 0 = number }) message back.net.layer layers.net back.frame.has_net
            back.net.has_layer,
        subst (KeepsUpper headers upper payload number message) (sym back.frame.has_transport)
            (back.found.kept limits.1),
      );
    }

pub fragment_kept : (part : LinkPart) (headers : IpHeaders) (last : IpNumber) (payload : List ℕ) → FitsLink part
    → FitIpHeaders headers → last.0 < 2 ^ 8 → IsBuildable (ip_frame_headers part headers last) (length payload)
    → headers_fragment headers ≡ true → EndsExtensions headers last.0
    → (reading : Reading) (entry : Entry) → IsEntryOf part (ip_packet headers last) entry
    → ReadsAll reading entry (ip_frame_headers part headers last) payload
fragment_kept part headers last payload fits_link fit small buildable states other reading entry of =
    let back = fragment_frame part headers last payload fits_link
    (linked_fit part headers last (length payload) fit small buildable) states other reading entry of in
    let layers = back.frame.layers in record {
      layers = layers;
      is = back.frame.is;
      bytes = ip_bytes_read part (ip_headers_type headers) headers last payload layers back.net.layer
          back.frame.has_link back.frame.has_net back.net.has_layer;
      link = link_of_frame part (ip_packet headers last) _ layers.link layers.link_exts back.frame.has_link;
      inside = (
        ip_of_frame headers last payload back.net.layer layers.net back.frame.has_net back.net.has_layer,
        back.frame.has_transport,
      );
    }

pub arp_kept : (part : LinkPart) (packet : Arp) → FitsLink part → FitsArp packet → (reading : Reading) (entry : Entry)
    → IsEntryOf part (arp_packet packet) entry → ReadsAll reading entry (arp_frame_headers part packet) []
arp_kept part packet fits_link fits reading entry of =
    let frame = arp_frame part packet fits_link fits reading entry of in
    let layers = frame.layers in record {
      layers = layers;
      is = frame.is;
      bytes = arp_bytes_read part arp_type packet layers frame.has_link frame.has_net;
      link = link_of_frame part (arp_packet packet) _ layers.link layers.link_exts frame.has_link;
      inside = (frame.has_net, frame.has_transport);
    }
