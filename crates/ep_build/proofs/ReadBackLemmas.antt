-- A built frame is read back, from its parts.
use Rattle.std.proofs.Common.{◌≡◌, ℕ, List, [], ◌++◌, length, Option, Some, None, refl, sym, ap}
use Rattle.std.proofs.Common.{subst, ◌∙◌, arith, inl, true, false}
use Rattle.std.specs.Option.{option_and_then}
use Rattle.ep_base.specs.Bytes.{AreBytes}
use Rattle.ep_base.specs.EtherTypes.{arp_type}
use Rattle.ep_base.specs.IpPayload.{IpPayload}
use Rattle.ep_base.specs.Readings.{Reading}
use Rattle.ep_base.specs.declared.ip_number.IpNumber.{IpNumber}
use Rattle.ep_link.specs.Arp.{Arp, FitsArp, IsArp, arp_bytes}
use Rattle.ep_packet.specs.FrameFragments.{net_fragment}
use Rattle.ep_packet.specs.Frame.{IsNetPart, IsTransportAfterNet, any_ip}
use Rattle.ep_packet.specs.IpHeaders.{EndsExtensions, FitIpHeaders, headers_for, ip_headers_type}
use Rattle.ep_packet.specs.IpHeaders.{headers_fragment, payload_of_headers, with_checksum}
use Rattle.ep_packet.specs.declared.entry.Entry.{Entry}
use Rattle.ep_packet.specs.declared.entry.Entry.TheVariants.{EtherType as ether_type, Ip as ip}
use Rattle.ep_packet.specs.Layers.{arp, net_payload}
use Rattle.ep_packet.specs.declared.ip_headers.IpHeaders.{IpHeaders}
use Rattle.ep_packet.specs.declared.ip_headers.IpHeaders.TheVariants as version
use Rattle.ep_transport.specs.TransportParts.{IsTransportPart, TransportLayer}
use Rattle.ep_transport.specs.declared.transport_header.TransportHeader.{TransportHeader}
use Rattle.ep_transport.specs.declared.transport_header.TransportHeader.TheVariants as transport
use Rattle.ep_build.specs.BuiltFragments.{IsFragmentReadBack, built_fragment, headers_carry, link_vlan_ids}
use Rattle.ep_build.specs.BuiltFrames.{arp_frame_headers, arp_packet, as_ether_type, built_frame}
use Rattle.ep_build.specs.BuiltFrames.{ip_frame, ip_frame_headers, ip_packet, transport_between}
use Rattle.ep_build.specs.BuiltFrames.{transport_frame_headers, transport_number, transport_packet}
use Rattle.ep_build.specs.Fits.{FitsLink, FitsTransport}
use Rattle.ep_build.specs.ReadBack.{HasItsLength, IsArpReadBack, IsEntryOf, IsReadBack, message_of}
use Rattle.ep_build.specs.declared.link_part.LinkPart.{LinkPart}
use Rattle.ep_build.specs.declared.link_part.LinkPart.TheVariants as link
use Rattle.ep_build.proofs.LinkReadBackLemmas.{IsFrameOf, IsNet, frame_is}
use Rattle.ep_build.proofs.NetReadBackLemmas.{NetOf, fragments_linked, kind_of, net_of, stated_fragments}
use Rattle.ep_build.proofs.TransportReadBackLemmas.{TransportOf, transport_of}

-- ---- IP

-- The protocol number of a transport header is no extension header.
pub ends_present : (headers : IpHeaders) (after : TransportHeader) → EndsExtensions headers (transport_number after)
ends_present (version.Ipv4 header extensions) (transport.Udp datagram) = λ same. absurd (omega arith)
ends_present (version.Ipv4 header extensions) (transport.Tcp segment) = λ same. absurd (omega arith)
ends_present (version.Ipv4 header extensions) (transport.Icmpv4 message) = λ same. absurd (omega arith)
ends_present (version.Ipv4 header extensions) (transport.Icmpv6 message) = λ same. absurd (omega arith)
ends_present (version.Ipv6 header extensions) (transport.Udp datagram) = refl
ends_present (version.Ipv6 header extensions) (transport.Tcp segment) = refl
ends_present (version.Ipv6 header extensions) (transport.Icmpv4 message) = refl
ends_present (version.Ipv6 header extensions) (transport.Icmpv6 message) = refl

-- A network layer of the headers' version, and the transport layer in its payload, are read.
net_part : (reading : Reading) (headers written : IpHeaders) (bytes : List ℕ) (payload : IpPayload)
    (transport : Option TransportLayer) → (net : NetOf reading headers written bytes payload)
    → IsTransportAfterNet reading (Some payload) transport
    → IsNetPart reading (Some (kind_of headers)) bytes (Some net.layer) transport
net_part reading headers written bytes payload transport net after = (
  net.layer,
  net.typed,
  refl,
  subst (λ (p : Option IpPayload). IsTransportAfterNet reading p transport) (sym net.has_payload) after,
)

-- The ether type of IP headers is that of a network layer of their version.
pub ip_is_net : (reading : Reading) (headers written : IpHeaders) (bytes : List ℕ) (payload : IpPayload)
    (transport : Option TransportLayer) → (net : NetOf reading headers written bytes payload)
    → IsTransportAfterNet reading (Some payload) transport
    → IsNet reading (as_ether_type (ip_headers_type headers)) bytes net.layer transport
ip_is_net reading (version.Ipv4 header extensions) written bytes payload transport net after = record {
  small = omega arith;
  ether_type = omega arith;
  begins_none = λ begins. absurd (omega arith);
  part = net_part reading (version.Ipv4 header extensions) written bytes payload transport net after;
}
ip_is_net reading (version.Ipv6 header extensions) written bytes payload transport net after = record {
  small = omega arith;
  ether_type = omega arith;
  begins_none = λ begins. absurd (omega arith);
  part = net_part reading (version.Ipv6 header extensions) written bytes payload transport net after;
}

-- The network layer, the transport layer and the frame of IP headers with a transport header.
pub record TransportFrame (reading : Reading) (entry : Entry) (part : LinkPart) (headers : IpHeaders)
    (upper : TransportHeader) (payload : List ℕ) (last : IpNumber) (message : List ℕ) (written : IpHeaders)
    : Type 0 where
  pub net : NetOf reading headers (with_checksum written) (ip_frame headers last message)
      (payload_of_headers written last message)
  pub found : TransportOf reading last.0 headers upper payload (transport_between headers payload upper) message
  pub frame : IsFrameOf reading entry (built_frame (transport_frame_headers part headers upper) payload) part
      (ip_headers_type headers) (ip_frame headers last message) net.layer (Some found.layer)

pub transport_frame : (part : LinkPart) (headers : IpHeaders) (upper : TransportHeader) (payload : List ℕ)
    → let last : IpNumber = record { 0 = transport_number upper } in
    let message = message_of headers upper payload in
    let written = headers_for headers last (length message) in FitsLink part → FitIpHeaders written
    → FitsTransport (transport_between headers payload upper) → AreBytes message
    → headers_fragment headers ≡ false → HasItsLength upper message
    → (reading : Reading) (entry : Entry) → IsEntryOf part (transport_packet headers upper) entry
    → TransportFrame reading entry part headers upper payload last message written
transport_frame part headers upper payload fits_link fit fits bytes complete its_length reading entry of =
    let last : IpNumber = record { 0 = transport_number upper } in
    let message = message_of headers upper payload in
    let written = headers_for headers last (length message) in
    let net = net_of reading headers last message fit (ends_present headers upper) in
    let found = transport_of reading headers upper payload fits bytes its_length in
    let not_fragment = fragments_linked headers last (length message) ∙ complete in
    let present : IsTransportAfterNet reading (Some (payload_of_headers written last message)) (Some found.layer) =
    subst (λ f. IsTransportPart reading (transport_number upper) f message (Some found.layer)) (sym not_fragment)
    found.part in
    let any : IsNetPart reading (Some any_ip) (ip_frame headers last message) (Some net.layer) (Some found.layer) = (
      net.layer,
      net.any,
      refl,
      subst (λ (p : Option IpPayload). IsTransportAfterNet reading p (Some found.layer)) (sym net.has_payload) present,
    ) in
    record {
      net = net;
      found = found;
      frame = frame_is reading part (transport_packet headers upper) entry (ip_frame headers last message) net.layer
          (Some found.layer) fits_link of (ip_is_net reading headers _ _ _ (Some found.layer) net present)
          (λ is_ip. any);
    }

-- The frame of a transport header is read back.
pub read_back : (part : LinkPart) (headers : IpHeaders) (after : TransportHeader) (payload : List ℕ) → FitsLink part
    → FitIpHeaders (headers_for headers (record { 0 = transport_number after })
    (length (message_of headers after payload)))
    → FitsTransport (transport_between headers payload after) → AreBytes (message_of headers after payload)
    → IsReadBack part headers after payload
read_back part headers after payload fits_link fit fits bytes = λ complete its_length reading entry of.
    let last : IpNumber = record { 0 = transport_number after } in
    let message = message_of headers after payload in
    let written = headers_for headers last (length message) in
    let back = transport_frame part headers after payload fits_link fit fits bytes complete its_length reading entry of in
    record {
      layers = back.frame.layers;
      is = back.frame.is;
      payload = payload_of_headers written last message;
      has_payload = ap (option_and_then net_payload) back.frame.has_net ∙ back.net.has_payload;
      is_payload = refl;
      transport = back.found.layer;
      has_transport = back.frame.has_transport;
      header = back.found.header;
      encodes = back.found.encodes;
      parts = back.found.parts;
      sums = back.found.sums;
    }

-- A fragment has the protocol number and the bytes of its payload, whatever else the headers count.
same_payload : (part : LinkPart) (headers : IpHeaders) (last : IpNumber) (payload : List ℕ)
    → headers_carry (link_vlan_ids part) headers
    (payload_of_headers (headers_for headers last (length payload)) last payload)
    ≡ built_fragment part headers last payload
same_payload part (version.Ipv4 header extensions) last payload = refl
same_payload part (version.Ipv6 header extensions) last payload = refl

-- The network layer and the frame of IP headers that state a fragment.
pub record FragmentFrame (reading : Reading) (entry : Entry) (part : LinkPart) (headers : IpHeaders) (last : IpNumber)
    (payload : List ℕ) (written : IpHeaders) : Type 0 where
  pub net : NetOf reading headers (with_checksum written) (ip_frame headers last payload)
      (payload_of_headers written last payload)
  pub frame : IsFrameOf reading entry (built_frame (ip_frame_headers part headers last) payload) part
      (ip_headers_type headers) (ip_frame headers last payload) net.layer None

pub fragment_frame : (part : LinkPart) (headers : IpHeaders) (last : IpNumber) (payload : List ℕ)
    → let written = headers_for headers last (length payload) in FitsLink part → FitIpHeaders written
    → headers_fragment headers ≡ true → EndsExtensions headers last.0
    → (reading : Reading) (entry : Entry) → IsEntryOf part (ip_packet headers last) entry
    → FragmentFrame reading entry part headers last payload written
fragment_frame part headers last payload fits_link fit states other reading entry of =
    let written = headers_for headers last (length payload) in
    let content = payload_of_headers written last payload in
    let net = net_of reading headers last payload fit other in
    let is_fragment : content.fragmented ≡ true = fragments_linked headers last (length payload) ∙ states in
    let present : IsTransportAfterNet reading (Some content) None = inl is_fragment in
    let any : IsNetPart reading (Some any_ip) (ip_frame headers last payload) (Some net.layer) None = (
      net.layer,
      net.any,
      refl,
      subst (λ (p : Option IpPayload). IsTransportAfterNet reading p None) (sym net.has_payload) present,
    ) in
    record {
      net = net;
      frame = frame_is reading part (ip_packet headers last) entry (ip_frame headers last payload) net.layer None
          fits_link of (ip_is_net reading headers _ _ _ None net present) (λ is_ip. any);
    }

-- The frame of a fragment is read back.
pub fragment_read_back : (part : LinkPart) (headers : IpHeaders) (last : IpNumber) (payload : List ℕ) → FitsLink part
    → FitIpHeaders (headers_for headers last (length payload)) → IsFragmentReadBack part headers last payload
fragment_read_back part headers last payload fits_link fit = λ found built other reading entry of.
    let states = stated_fragments (link_vlan_ids part) headers (payload_of_headers headers last payload) found built in
    let back = fragment_frame part headers last payload fits_link fit states other reading entry of in
    let frame = back.frame in record {
      layers = frame.layers;
      is = frame.is;
      carries = ap (λ (ids : List ℕ). option_and_then (net_fragment ids) frame.layers.net) frame.has_vlan_ids
          ∙ ap (option_and_then (net_fragment (link_vlan_ids part))) frame.has_net
          ∙ back.net.carries (link_vlan_ids part) ∙ same_payload part headers last payload ∙ built;
    }

-- ---- ARP

-- The entry of an ARP packet's frame is not IP.
not_ip : (part : LinkPart) (packet : Arp) (entry : Entry) → IsEntryOf part (arp_packet packet) entry → entry ≡ ip → ⊥
not_ip link.Absent packet entry of is_ip =
    let same : ether_type (as_ether_type arp_type) ≡ ip = sym of ∙ is_ip in absurd (cc)
not_ip (link.Ethernet2 header) packet entry of is_ip = let same = sym of ∙ is_ip in absurd (cc)
not_ip (link.Tagged header both) packet entry of is_ip = let same = sym of ∙ is_ip in absurd (cc)
not_ip (link.LinuxSll header) packet entry of is_ip = let same = sym of.1 ∙ is_ip in absurd (cc)

-- The frame of an ARP packet, with its network layer.
pub arp_frame : (part : LinkPart) (packet : Arp) → FitsLink part → FitsArp packet → (reading : Reading) (entry : Entry)
    → IsEntryOf part (arp_packet packet) entry
    → IsFrameOf reading entry (built_frame (arp_frame_headers part packet) []) part arp_type (arp_bytes packet ++ [])
    (arp packet) None
arp_frame part packet fits_link fits reading entry of =
    let is_arp : IsArp (arp_bytes packet ++ []) (packet, []) = record { fits = fits; parts = refl } in
    frame_is reading part (arp_packet packet) entry (arp_bytes packet ++ []) (arp packet) None fits_link of
    (record {
      small = omega arith;
      ether_type = omega arith;
      begins_none = λ begins. absurd (omega arith);
      part = (arp packet, ((packet, []), is_arp, refl), refl, refl);
    })
    (λ is_ip. absurd (not_ip part packet entry of is_ip))

-- The frame of an ARP packet is read back.
pub arp_read_back : (part : LinkPart) (packet : Arp) → FitsLink part → FitsArp packet → IsArpReadBack part packet
arp_read_back part packet fits_link fits = λ reading entry of.
    let frame = arp_frame part packet fits_link fits reading entry of in
    record { layers = frame.layers; is = frame.is; net = frame.has_net }
