use Rattle.std.proofs.Common.{◌+◌, ℕ, refl, ap, arith}
use Rattle.ep_base.specs.LaxCut.{lax_cut_of}
use Rattle.ep_ip.specs.Ipv6Slices.{ipv6_header_slice_bytes}
use Rattle.ep_packet.proofs.LaxIpContentLemmas.{header_within, lax_ipv6_content}
use Rattle.ep_packet.proofs.lax_ip_content.slice_ipv6_lax.Goals as goal

pub limit_by_length_field-limited-requires-clause-header : goal.limit_by_length_field-limited-requires-clause-header
limit_by_length_field-limited-requires-clause-header c =
    let ok = c.in-Ok.ensures.ok in
    let header = c.in-Ok.header in
    omega (arith, header_within c.args.slice.now (ipv6_header_slice_bytes header) ok.0 ok.1, header.bytes.whole)

pub returns-clause-ok : goal.returns-clause-ok
returns-clause-ok c =
    let ok = c.in-Ok.ensures.ok in
    let cutting = c.limit_by_length_field-limited.ensures in
    let cut = lax_cut_of c.limit_by_length_field-limited.result cutting.0 in
    lax_ipv6_content c.args.outer c.args.slice.now ok.0 c.in-Ok.header _ ok.1 ok.2 _
    (ap (λ (n : ℕ). 40 + n) c.payload_length.ensures) cut refl cutting.1 c.next_header.ensures
    (c.ipv6_payload_source.ensures cut refl refl)
