use Rattle.std.proofs.Common.{ap, ◌∙◌, arith}
use Rattle.ep_ip.specs.declared.ipv4_header.Ipv4Header.{Ipv4Header}
use Rattle.ep_ip.specs.IpPackets.{ipv4_part}
use Rattle.ep_ip.specs.Ipv4Slices.{ipv4_slice_packet}
use Rattle.ep_packet.proofs.HeadersLemmas.{after_headers, fills_read}
use Rattle.ep_packet.proofs.IpHeadersLemmas.{ipv4_by_value}
use Rattle.ep_packet.proofs.net_headers_fill.fill_ipv4.Goals as goal

pub overflow_sub-offset : goal.overflow_sub-offset
overflow_sub-offset c =
    let bytes = c.args.slice.now in
    let ok = c.in-Ok.ensures.ok in
    let packet = ipv4_slice_packet c.in-Ok.packet ok.0 in
    let payload = c.payload_of_ipv4-payload in
    let total = c.total_len-content_end.ensures ∙ ap (λ (h : Ipv4Header). h.total_len) c.header.ensures.header in
    omega (
      arith,
      total,
      after_headers bytes (ipv4_part packet) payload.result (ipv4_by_value bytes packet ok.2) payload.ensures,
    )

pub returns-in-Ok-clause-ok : goal.returns-in-Ok-clause-ok
returns-in-Ok-clause-ok c =
    let bytes = c.args.slice.now in
    let ok = c.in-Ok.ensures.ok in
    let packet = ipv4_slice_packet c.in-Ok.packet ok.0 in
    let is = ipv4_by_value bytes packet ok.2 in
    let payload = c.payload_of_ipv4-payload in
    let total = c.total_len-content_end.ensures ∙ ap (λ (h : Ipv4Header). h.total_len) c.header.ensures.header in
    let place = after_headers bytes (ipv4_part packet) payload.result is payload.ensures in (
      packet,
      is,
      fills_read bytes (ipv4_part packet) c.store_ipv4.new.net payload.result _ is (c.store_ipv4.ensures ok.0)
          payload.ensures (omega (arith, total, place)),
    )
