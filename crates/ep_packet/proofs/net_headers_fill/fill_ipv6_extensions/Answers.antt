use Rattle.std.proofs.Common.{◌≡◌, ap, ◌∙◌, arith}
use Rattle.ep_base.specs.IpPayload.{ip_payload_of}
use Rattle.ep_base.specs.declared.err.len_error.LenError.{LenError}
use Rattle.ep_base.specs.declared.ip_payload_slice.IpPayloadSlice.{IpPayloadSlice}
use Rattle.ep_ext.specs.Chains.{chain_fragments, chain_of}
use Rattle.ep_ext.proofs.ValueLawLemmas.{chain_value_fragments}
use Rattle.ep_ip.specs.IpPackets.{ipv6_part}
use Rattle.ep_ip.specs.Ipv6.{ipv6_payload_source}
use Rattle.ep_ip.proofs.PacketLemmas.{shown_packet}
use Rattle.ep_packet.proofs.HeadersLemmas.{fills_read}
use Rattle.ep_packet.proofs.IpHeadersLemmas.{ipv6_by_value}
use Rattle.ep_packet.proofs.NetFillLemmas.{chain_content, exts_start}
use Rattle.ep_packet.proofs.net_headers_fill.fill_ipv6_extensions.Goals as goal

pub overflow_sub-offset : goal.overflow_sub-offset
overflow_sub-offset c =
    let read = c.in-Ok-store_ipv6_extensions.ensures.ok in
    let complete = chain_content c.args.slice.now c.in-Ok.cut.1.now c.in-Ok.ensures.ok.0 c.in-Ok.cut.0 read.0
    c.in-Ok-store_ipv6_extensions.ip_number.0 c.in-Ok-store_ipv6_extensions.payload.now c.in-Ok.ensures.ok.1 read.2 in
    omega (arith, complete)

pub after_header-requires : goal.after_header-requires
after_header-requires c =
    let found = c.in-Err-Len in
    let start = exts_start c.in-Ok.cut.0 c.in-Ok.cut.1.now _ _ _ found.field-0-is found.ensures.err c.in-Ok.ensures.within in
    omega (arith, start, ap (λ (e : LenError). e.layer_start_offset) found.error-is)

pub returns-in-Ok-store_ipv6_extensions-clause-ok : goal.returns-in-Ok-store_ipv6_extensions-clause-ok
returns-in-Ok-store_ipv6_extensions-clause-ok c =
    let bytes = c.args.slice.now in
    let header = c.in-Ok.cut.0 in
    let content = c.in-Ok.cut.1.now in
    let cut = c.in-Ok.ensures.ok in
    let found = c.in-Ok-store_ipv6_extensions in
    let read = found.ensures.ok in
    let number = found.ip_number.0 in
    let rest = found.payload.now in
    let chain = chain_of read.0 number rest in
    let fragments = read.3 ∙ chain_value_fragments header.next_header.0 content chain read.2 in
    let source = c.in-Ok.ensures.source in
    let packet = shown_packet header chain (chain_fragments read.0) (ipv6_payload_source header content) cut.0 in
    let is = ipv6_by_value bytes content cut.0 header read.0 number rest cut.1 read.2 in
    let payload : IpPayloadSlice = record {
      ip_number = found.ip_number;
      fragmented = found.fragmented;
      len_source = c.in-Ok.cut.2;
      payload = found.payload;
    } in
    let same : ip_payload_of payload ≡ packet.payload =
    λ i. record { number = number; fragmented = fragments i; source = source i; bytes = rest } in
    let complete = chain_content bytes content cut.0 header read.0 number rest cut.1 read.2 in (
      packet,
      is,
      fills_read bytes (ipv6_part packet) _ payload _ is
          read.1 same
          (omega (arith, complete)),
    )
