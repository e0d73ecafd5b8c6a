use Rattle.std.proofs.Common.{Option, sym, subst}
use Rattle.std.specs.Option.{option_map}
use Rattle.ep_base.specs.IpPayload.{lax_ip_payload_of}
use Rattle.ep_base.specs.Readings.{headers}
use Rattle.ep_transport.specs.TransportParts.{IsTransportPart, transport_layer}
use Rattle.ep_transport.specs.declared.transport_header.TransportHeader.{TransportHeader}
use Rattle.ep_lax.specs.LaxPayloadParts.{ip, lax_payload_part_of}
use Rattle.ep_lax.proofs.LaxPacketHeadersLemmas.{ShowsPayload, shows_none}
use Rattle.ep_lax.proofs.lax_packet_headers.transport_payload.Goals as goal

pub header_payload-requires : goal.header_payload-requires
header_payload-requires c =
    let payload = c.args.payload in
    subst (λ (t : Option TransportHeader). IsTransportPart headers payload.ip_number.0 payload.fragmented
    payload.payload.now (option_map (λ h. transport_layer h c.args.rest.now) t)) c.in-Some.is c.requires

pub returns-in-Some : goal.returns-in-Some
returns-in-Some c =
    let payload = c.args.payload in
    subst (λ (t : Option TransportHeader). ShowsPayload (lax_ip_payload_of payload) payload.incomplete c.args.rest.now t
    (lax_payload_part_of c.header_payload.result)) (sym c.in-Some.is) c.header_payload.ensures

pub returns-in-None : goal.returns-in-None
returns-in-None c =
    let payload = c.args.payload in
    let rest = c.args.rest.now in
    subst (λ (t : Option TransportHeader). ShowsPayload (lax_ip_payload_of payload) payload.incomplete rest t
    (ip (lax_ip_payload_of payload) payload.incomplete)) (sym c.in-None.is)
    (shows_none (lax_ip_payload_of payload) payload.incomplete rest)
