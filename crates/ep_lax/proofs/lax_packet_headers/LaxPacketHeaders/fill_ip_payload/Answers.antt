use Rattle.std.proofs.Common.{Option, Some, refl, sym, subst}
use Rattle.ep_base.specs.IpPayload.{lax_ip_payload_of}
use Rattle.ep_packet.specs.declared.err.slice_error.SliceError.{SliceError}
use Rattle.ep_lax.specs.LaxHeadersWalk.{FillsLaxTransport}
use Rattle.ep_lax.specs.LaxLayers.{error_with_layer, no_transport}
use Rattle.ep_lax.specs.LaxPacketHeaders.{lax_headers_of}
use Rattle.ep_lax.proofs.lax_packet_headers.LaxPacketHeaders.fill_ip_payload.Goals as goal

pub returns-in-Some : goal.returns-in-Some
returns-in-Some c =
    let payload = c.args.payload in
    subst (λ (stop : Option SliceError). FillsLaxTransport c.args.offset (lax_ip_payload_of payload) payload.incomplete
    stop (lax_headers_of c.args.self.now) (lax_headers_of c.stop_in_ip.new.self)) (sym c.in-Some.is) (record {
      inside = no_transport payload.incomplete (Some (error_with_layer c.in-Some.error));
      part = refl;
      filled = c.stop_in_ip.ensures;
    })
