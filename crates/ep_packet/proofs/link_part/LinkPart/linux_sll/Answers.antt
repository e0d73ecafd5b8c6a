use Rattle.std.proofs.Common.{ap, ◌∙◌}
use Rattle.ep_link.specs.LinkSlices.{linux_sll}
use Rattle.ep_link.specs.LinuxSll.{linux_sll_header_len, protocol_ether_type}
use Rattle.ep_link.specs.LinuxSllSlices.{linux_sll_slice_header, linux_sll_slice_parts, linux_sll_slice_payload}
use Rattle.ep_packet.proofs.link_part.LinkPart.linux_sll.Goals as goal

pub returns-clause-ok : goal.returns-clause-ok
returns-clause-ok c =
    let parts = c.in-Ok.ensures.ok in
    let packet = c.in-Ok.packet in
    let type = c.ether_type-ether_type.ensures ∙ ap protocol_ether_type c.protocol_type.ensures in
    record {
      shows = (parts.0, parts.1);
      is = (
        linux_sll_slice_parts packet parts.0,
        parts.2,
        λ i. record {
          link = linux_sll (linux_sll_slice_header packet) (linux_sll_slice_payload packet);
          offset = linux_sll_header_len;
          type = type i;
          payload = c.payload_slice-payload.ensures i;
        },
      );
    }
