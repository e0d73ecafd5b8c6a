use Rattle.std.proofs.Common.{Some, refl, sym, ap, ◌∙◌, inl, inr, arith}
use Rattle.ep_base.specs.Readings.{headers}
use Rattle.ep_base.specs.declared.err.len_error.LenError.{LenError}
use Rattle.ep_transport.proofs.TransportPlaceLemmas.{at_start, transport_start}
use Rattle.ep_packet.specs.FrameRefusals.{transport_refusal}
use Rattle.ep_packet.specs.declared.err.slice_error.SliceError.TheVariants as packet_error
use Rattle.ep_lax.specs.LaxLayers.{error_with_layer, no_transport}
use Rattle.ep_lax.specs.LaxPacketHeaders.{lax_headers_of}
use Rattle.ep_lax.proofs.lax_packet_headers.LaxPacketHeaders.fill_transport.Goals as goal

pub after_header-requires : goal.after_header-requires
after_header-requires c =
    let error = c.in-Err-Len in
    omega (
      arith,
      at_start headers c.args.payload.ip_number.0 c.args.payload.fragmented c.args.payload.payload.now
          error.field-0 error.ensures.err,
      ap transport_start error.field-0-is,
      ap (λ (e : LenError). e.layer_start_offset) error.error-is,
      c.ranges.offset.fits,
    )

pub returns-in-Ok : goal.returns-in-Ok
returns-in-Ok c =
    let old = lax_headers_of c.args.self.now in
    let found = c.transport_payload-self.ensures in
    let shows = found.2 in
    record {
      inside = found.0;
      part = inr (_, c.in-Ok.ensures.ok, found.1);
      filled = λ i. record old {
        transport = shows.same_header i;
        payload = shows.same_payload i;
        stop = (c.clear_stop.ensures ∙ sym shows.no_stop) i;
      };
    }

pub returns-in-Err-Len : goal.returns-in-Err-Len
returns-in-Err-Len c =
    let refused = c.in-Err-Len in
    let payload = c.args.payload in
    let error = packet_error.Len c.after_header.result in
    record {
      inside = no_transport payload.incomplete (Some (error_with_layer error));
      part = inl (
        error,
        (
          refused.field-0,
          refused.ensures.err,
          ap packet_error.Len c.after_header.ensures
              ∙ sym (ap (transport_refusal c.args.offset payload.len_source) refused.field-0-is),
        ),
        refl,
      );
      filled = c.stop_in_ip.ensures;
    }

pub returns-in-Err-Content : goal.returns-in-Err-Content
returns-in-Err-Content c =
    let refused = c.in-Err-Content in
    let payload = c.args.payload in
    let error = packet_error.Tcp refused.error in
    record {
      inside = no_transport payload.incomplete (Some (error_with_layer error));
      part = inl (
        error,
        (
          refused.field-0,
          refused.ensures.err,
          sym (ap (transport_refusal c.args.offset payload.len_source) refused.field-0-is),
        ),
        refl,
      );
      filled = c.stop_in_ip-in-Err-Content.ensures;
    }
