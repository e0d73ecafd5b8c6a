use Rattle.std.proofs.Common.{Some}
use Rattle.ep_link.specs.Ethernet2.{ethernet2_header_len}
use Rattle.ep_link.specs.Ethernet2Slices.{ethernet2_slice_header, ethernet2_slice_parts, ethernet2_slice_payload}
use Rattle.ep_link.specs.LinkSlices.{ethernet2}
use Rattle.ep_packet.proofs.link_part.LinkPart.ethernet.Goals as goal

pub returns-clause-ok : goal.returns-clause-ok
returns-clause-ok c =
    let parts = c.in-Ok.ensures.ok in
    let frame = c.in-Ok.frame in
    record {
      shows = (parts.0, parts.1);
      is = (
        ethernet2_slice_parts frame parts.0,
        parts.2,
        λ i. record {
          link = ethernet2 (ethernet2_slice_header frame) (ethernet2_slice_payload frame);
          offset = ethernet2_header_len;
          type = Some (c.ether_type-ether_type.ensures i);
          payload = c.payload_slice-payload.ensures i;
        },
      );
    }
