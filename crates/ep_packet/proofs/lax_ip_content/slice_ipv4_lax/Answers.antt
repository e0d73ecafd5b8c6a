use Rattle.std.proofs.Common.{arith}
use Rattle.ep_ip.specs.Ipv4Slices.{ipv4_header_slice_bytes}
use Rattle.ep_packet.proofs.LaxIpContentLemmas.{header_within, lax_ipv4_content}
use Rattle.ep_packet.proofs.lax_ip_content.slice_ipv4_lax.Goals as goal

pub limit_by_length_field-limited-requires-clause-header : goal.limit_by_length_field-limited-requires-clause-header
limit_by_length_field-limited-requires-clause-header c =
    let ok = c.in-Ok.ensures.ok in
    let within = header_within c.args.slice.now (ipv4_header_slice_bytes c.in-Ok.header) ok.0 ok.1 in
    omega (arith, within, c.header_len-header_len.ensures.bytes)

pub returns-clause-ok : goal.returns-clause-ok
returns-clause-ok c =
    let ok = c.in-Ok.ensures.ok in
    let cutting = c.limit_by_length_field-limited.ensures in
    lax_ipv4_content c.args.outer c.args.slice.now ok.0 c.in-Ok.header _ ok.1 ok.2 c.header_len-header_len.result
    c.header_len-header_len.ensures.bytes c.header_len-header_len.ensures.value _ c.total_len.ensures cutting.0
    cutting.1 c.protocol.ensures c.is_fragmenting_payload.ensures
