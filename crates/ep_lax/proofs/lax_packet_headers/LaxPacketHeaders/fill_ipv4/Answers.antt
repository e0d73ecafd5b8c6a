use Rattle.std.proofs.Common.{refl, sym, ap, ◌∙◌, inl, inr, arith}
use Rattle.std.specs.Option.{option_map}
use Rattle.ep_base.specs.Readings.{headers}
use Rattle.ep_base.specs.declared.err.ipv4.HeaderSliceError.{HeaderSliceError}
use Rattle.ep_ext.specs.Chains.{ipv4}
use Rattle.ep_ext.specs.ExtensionParts.{auth_refusal}
use Rattle.ep_ip.specs.IpPackets.{ipv4_part}
use Rattle.ep_ip.specs.Ipv4.{of_header_error}
use Rattle.ep_packet.specs.declared.err.slice_error.SliceError.TheVariants as packet_error
use Rattle.ep_packet.specs.Frame.{only_ipv4}
use Rattle.ep_packet.specs.FrameRefusals.{ipv4_refusal}
use Rattle.ep_packet.specs.Layers.{ipv4_layer}
use Rattle.ep_lax.specs.Lax.{chain_refusal}
use Rattle.ep_lax.specs.LaxPacketHeaders.{lax_headers_of}
use Rattle.ep_lax.specs.LaxPayloadParts.{ether}
use Rattle.ep_lax.specs.LaxPayloads.{lax_ether_payload_of}
use Rattle.ep_lax.proofs.LaxNetLemmas.{ipv4_stop_within}
use Rattle.ep_lax.proofs.LaxPacketHeadersLemmas.{lax_ip_filled, net_stopped}
use Rattle.ep_lax.proofs.lax_packet_headers.LaxPacketHeaders.fill_ipv4.Goals as goal

pub auth_stop-stop-requires : goal.auth_stop-stop-requires
auth_stop-stop-requires c = λ error same.
    let ok = c.in-Ok.ensures.ok in
    omega (
      arith,
      c.requires,
      ipv4_stop_within headers c.args.payload.incomplete c.args.payload.payload.now ok.0 ok.1 (auth_refusal error)
          (sym ok.3 ∙ ap (option_map auth_refusal) same),
    )

pub overflow_add-offset : goal.overflow_add-offset
overflow_add-offset c = omega (arith, c.in-Ok.ensures.ok.2.within, c.requires)

pub returns-in-Ok : goal.returns-in-Ok
returns-in-Ok c =
    let ok = c.in-Ok.ensures.ok in
    let found = c.auth_stop-stop.ensures ∙ ap (option_map (chain_refusal ipv4 c.args.offset)) ok.3 in
    let filled = lax_ip_filled ipv4 ipv4_layer ipv4_part (λ p. refl) (λ p. refl) (λ p. refl) (λ p i. refl) ok.0
    c.args.payload.payload.now c.args.offset c.in-Ok.start _ c.read_ipv4_lax_into.new.net c.in-Ok.inside
    c.auth_stop-stop.result (ether (lax_ether_payload_of c.args.payload)) (lax_headers_of c.args.self.now)
    (lax_headers_of c.fill_ip_payload.new.self) ok.2 refl found c.fill_ip_payload.ensures in
    record { net = filled.0; part = inr (ok.0, ok.1, filled.1); filled = filled.2 }

pub returns-in-Err-Len : goal.returns-in-Err-Len
returns-in-Err-Len c =
    let refused = c.in-Err-Len in
    let place = λ (e : HeaderSliceError). ipv4_refusal c.args.offset (of_header_error e) in
    let named = ap packet_error.Len c.add_offset.ensures ∙ sym (ap place refused.field-0-is) in
    let error = packet_error.Len c.add_offset.result in
    net_stopped c.args.offset c.args.payload.incomplete only_ipv4 c.args.payload.payload.now _ _ _ error
    (inl (error, (refused.field-0, refused.ensures.err, named), refl)) c.stop_in.ensures

pub returns-in-Err-Content : goal.returns-in-Err-Content
returns-in-Err-Content c =
    let refused = c.in-Err-Content in
    let place = λ (e : HeaderSliceError). ipv4_refusal c.args.offset (of_header_error e) in
    let error = packet_error.Ipv4 refused.error in
    net_stopped c.args.offset c.args.payload.incomplete only_ipv4 c.args.payload.payload.now _ _ _ error
    (inl (error, (refused.field-0, refused.ensures.err, sym (ap place refused.field-0-is)), refl))
    c.stop_in-in-Err-Content.ensures
