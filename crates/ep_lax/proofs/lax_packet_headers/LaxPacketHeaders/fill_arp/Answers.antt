use Rattle.std.proofs.Common.{Some, None, refl, ap, inl, inr}
use Rattle.ep_link.specs.ArpSlices.{arp_slice_packet}
use Rattle.ep_packet.specs.declared.err.slice_error.SliceError.TheVariants as packet_error
use Rattle.ep_packet.specs.PacketHeaders.{arp_packet}
use Rattle.ep_lax.specs.Lax.{arp_net}
use Rattle.ep_lax.specs.LaxLayers.{error_with_layer, no_net}
use Rattle.ep_lax.specs.LaxPacketHeaders.{lax_headers_of}
use Rattle.ep_lax.specs.LaxPayloadParts.{empty}
use Rattle.ep_lax.proofs.lax_packet_headers.LaxPacketHeaders.fill_arp.Goals as goal

pub returns-in-Ok : goal.returns-in-Ok
returns-in-Ok c =
    let old = lax_headers_of c.args.self.now in
    let ok = c.in-Ok.ensures.ok in
    let packet = arp_slice_packet c.in-Ok.packet in
    record {
      net = arp_net packet;
      part = inr ((packet, ok.0), ok.2, refl);
      filled = λ i. record old {
        net = Some (arp_packet (c.to_header.ensures i));
        transport = None;
        payload = empty;
        stop = c.clear_stop.ensures i;
      };
    }

pub returns-in-Err : goal.returns-in-Err
returns-in-Err c =
    let error = packet_error.Len c.add_offset.result in
    record {
      net = no_net c.args.payload.incomplete (Some (error_with_layer error));
      part = inl (error, (c.in-Err.error, c.in-Err.ensures.err, ap packet_error.Len c.add_offset.ensures), refl);
      filled = c.stop_in.ensures;
    }
