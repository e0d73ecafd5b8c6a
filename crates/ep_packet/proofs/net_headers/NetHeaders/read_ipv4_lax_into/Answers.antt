use Rattle.std.proofs.Common.{Some, refl, sym, ap, ◌∙◌, arith}
use Rattle.std.specs.Option.{option_map}
use Rattle.ep_base.specs.Readings.{headers, slices}
use Rattle.ep_ext.specs.Chains.{ipv4, chain_of}
use Rattle.ep_ext.specs.ExtensionParts.{auth_refusal}
use Rattle.ep_ext.specs.Ipv4Chains.{ipv4_slice_parts}
use Rattle.ep_ip.specs.Ipv4Slices.{ipv4_header_slice_header}
use Rattle.ep_ip.proofs.LaxIpLemmas.{lax_chain_len}
use Rattle.ep_packet.specs.declared.net_headers.NetHeaders.TheVariants as variant
use Rattle.ep_packet.proofs.IpHeadersLemmas.{ipv4_slice_value}
use Rattle.ep_packet.proofs.LaxIpContentLemmas.{ipv4_content_within, ipv4_is_read, ipv4_stop_within}
use Rattle.ep_packet.proofs.LaxIpHeadersLemmas.{ipv4_lax_by_value}
use Rattle.ep_packet.proofs.net_headers.NetHeaders.read_ipv4_lax_into.Goals as goal

pub auth_error_in_packet-stop-requires : goal.auth_error_in_packet-stop-requires
auth_error_in_packet-stop-requires c = λ error same.
    let read = c.from_slice_lax-refused.result in
    let chain = chain_of (ipv4_slice_parts read.0) read.1.0 read.2.now in
    let within = ipv4_stop_within slices c.args.outer c.args.slice.now c.in-Ok.read.0 c.in-Ok.read.1 c.in-Ok.ensures.ok
    chain (option_map auth_refusal read.3) c.from_slice_lax-refused.ensures.chain (auth_refusal error)
    (ap (option_map auth_refusal) same) in
    omega (arith, within, c.header_len-header_len.ensures.bytes)

pub returns-clause-ok : goal.returns-clause-ok
returns-clause-ok c =
    let header = c.in-Ok.read.0 in
    let content = c.in-Ok.read.1 in
    let is = c.in-Ok.ensures.ok in
    let n = c.header_len-header_len in
    let read = c.from_slice_lax-refused.result in
    let number = content.ip_number.0 in
    let chain = chain_of (ipv4_slice_parts read.0) read.1.0 read.2.now in
    let refused = option_map auth_refusal read.3 in
    let by_value =
    ipv4_lax_by_value number content.payload.now chain refused c.from_slice_lax-refused.ensures.chain in
    let len = lax_chain_len ipv4 headers number content.payload.now chain refused by_value in
    let stop = c.auth_error_in_packet-stop in (
      _,
      ipv4_is_read headers c.args.outer c.args.slice.now header content is chain refused by_value n.result
          n.ensures.value (option_map auth_refusal stop.result) stop.ensures,
      record {
        filled = c.store_ipv4_headers.ensures
            ∙ (λ i. Some (variant.Ipv4 (ipv4_header_slice_header header) (sym (ipv4_slice_value read.0) i)));
        same_payload = refl;
        same_incomplete = refl;
        place = omega (arith, len, n.ensures.value);
        within = omega (
          arith,
          ipv4_content_within c.args.outer c.args.slice.now header content is,
          n.ensures.bytes,
          len,
        );
      },
      refl,
    )
