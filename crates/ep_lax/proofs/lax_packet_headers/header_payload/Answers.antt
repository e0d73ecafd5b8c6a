use Rattle.std.proofs.Common.{Some, sym, subst, List, ℕ}
use Rattle.ep_base.specs.IpPayload.{lax_ip_payload_of}
use Rattle.ep_base.specs.LaxCut.{IsLaxCut}
use Rattle.ep_base.specs.Readings.{headers}
use Rattle.ep_base.specs.declared.len_source.LenSource.TheVariants as source
use Rattle.ep_transport.specs.TransportParts.{IsTransportPart, transport_layer}
use Rattle.ep_transport.specs.declared.transport_header.TransportHeader.{TransportHeader}
use Rattle.ep_lax.specs.LaxPayloadParts.{icmpv4, icmpv6, lax_payload_part_of, tcp}
use Rattle.ep_lax.proofs.LaxPacketHeadersLemmas.{ShowsPayload, after_udp, shows_icmpv4, shows_icmpv6, shows_tcp, shows_udp}
use Rattle.ep_lax.proofs.lax_packet_headers.header_payload.Goals as goal

pub returns-in-Udp : goal.returns-in-Udp
returns-in-Udp c =
    let payload = c.args.payload.now in
    let bytes = payload.payload.now in
    let rest = c.args.rest.now in
    let datagram = c.in-Udp.header in
    let part = subst (λ (h : TransportHeader). IsTransportPart headers payload.ip_number.0 payload.fragmented bytes
    (Some (transport_layer h rest))) c.in-Udp.is c.requires in
    let cut = c.udp_payload.ensures in
    let limited = subst (λ (b : List ℕ). IsLaxCut 8 datagram.length source.UdpHeaderLen payload.incomplete 8 b cut.0)
    (after_udp bytes datagram rest part.1.1) cut.1 in
    subst (λ (h : TransportHeader). ShowsPayload (lax_ip_payload_of payload) payload.incomplete rest (Some h)
    (lax_payload_part_of c.udp_payload.result)) (sym c.in-Udp.is)
    (shows_udp (lax_ip_payload_of payload) payload.incomplete rest datagram cut.0
    (lax_payload_part_of c.udp_payload.result) limited cut.2)

pub returns-in-Tcp : goal.returns-in-Tcp
returns-in-Tcp c =
    let payload = c.args.payload.now in
    let rest = c.args.rest.now in
    subst (λ (h : TransportHeader). ShowsPayload (lax_ip_payload_of payload) payload.incomplete rest (Some h)
    (tcp rest payload.incomplete)) (sym c.in-Tcp.is)
    (shows_tcp (lax_ip_payload_of payload) payload.incomplete rest c.in-Tcp.field-0)

pub returns-in-Icmpv4 : goal.returns-in-Icmpv4
returns-in-Icmpv4 c =
    let payload = c.args.payload.now in
    let rest = c.args.rest.now in
    subst (λ (h : TransportHeader). ShowsPayload (lax_ip_payload_of payload) payload.incomplete rest (Some h)
    (icmpv4 rest payload.incomplete)) (sym c.in-Icmpv4.is)
    (shows_icmpv4 (lax_ip_payload_of payload) payload.incomplete rest c.in-Icmpv4.field-0)

pub returns-in-Icmpv6 : goal.returns-in-Icmpv6
returns-in-Icmpv6 c =
    let payload = c.args.payload.now in
    let rest = c.args.rest.now in
    subst (λ (h : TransportHeader). ShowsPayload (lax_ip_payload_of payload) payload.incomplete rest (Some h)
    (icmpv6 rest payload.incomplete)) (sym c.in-Icmpv6.is)
    (shows_icmpv6 (lax_ip_payload_of payload) payload.incomplete rest c.in-Icmpv6.field-0)
