use Rattle.std.proofs.Common.{Some, refl, sym, ap, ◌∙◌, arith}
use Rattle.ep_base.specs.Readings.{headers}
use Rattle.ep_ext.specs.Chains.{ipv6, chain_of}
use Rattle.ep_ext.specs.Ipv6Chains.{extensions_of}
use Rattle.ep_ext.proofs.ValueLawLemmas.{lax_value_fragments}
use Rattle.ep_ip.specs.declared.ipv6_header.Ipv6Header.{Ipv6Header}
use Rattle.ep_ip.proofs.LaxIpLemmas.{lax_chain_len, reported_stop}
use Rattle.ep_packet.specs.declared.net_headers.NetHeaders.TheVariants as variant
use Rattle.ep_packet.proofs.LaxIpContentLemmas.{ipv6_content_within, ipv6_is_read, ipv6_stop_within}
use Rattle.ep_packet.proofs.net_headers.NetHeaders.read_ipv6_lax_into.Goals as goal

pub exts_error_in_packet-stop-requires : goal.exts_error_in_packet-stop-requires
exts_error_in_packet-stop-requires c = λ error same.
    let read = c.store_ipv6_extensions-fragmented.result in
    let found = c.store_ipv6_extensions-fragmented.ensures in
    let chain = chain_of found.0 read.0.0 read.2.now in
    let stop = reported_stop found.1 error (sym found.3 ∙ same) in
    let within = ipv6_stop_within headers c.args.outer c.args.slice.now c.in-Ok.read.0 c.in-Ok.read.1
    c.in-Ok.ensures.ok c.to_header.result.next_header.0 chain found.1 found.4 error.0 stop in
    omega (arith, within)

pub overflow_sub-offset : goal.overflow_sub-offset
overflow_sub-offset c =
    let content = c.in-Ok.read.1.payload.now in
    let read = c.store_ipv6_extensions-fragmented.result in
    let found = c.store_ipv6_extensions-fragmented.ensures in
    let chain = chain_of found.0 read.0.0 read.2.now in
    omega (
      arith,
      lax_chain_len ipv6 headers c.to_header.result.next_header.0 content chain found.1 found.4,
    )

pub returns-clause-ok : goal.returns-clause-ok
returns-clause-ok c =
    let content = c.in-Ok.read.1 in
    let is = c.in-Ok.ensures.ok in
    let read = c.store_ipv6_extensions-fragmented.result in
    let found = c.store_ipv6_extensions-fragmented.ensures in
    let number = c.to_header.result.next_header.0 in
    let chain = chain_of found.0 read.0.0 read.2.now in
    let fragments = found.5 ∙ lax_value_fragments number content.payload.now chain found.1 found.4 in
    let len = lax_chain_len ipv6 headers number content.payload.now chain found.1 found.4 in (
      _,
      ipv6_is_read headers c.args.outer c.args.slice.now c.in-Ok.read.0 content is number
          (ap (λ (h : Ipv6Header). h.next_header.0) c.to_header.ensures) chain found.1 found.4 read.1 fragments,
      record {
        filled = found.2 ∙ (λ i. Some (variant.Ipv6 (c.to_header.ensures i) (extensions_of found.0)));
        same_payload = refl;
        same_incomplete = refl;
        place = omega (arith, len);
        within = omega (
          arith,
          ipv6_content_within c.args.outer c.args.slice.now c.in-Ok.read.0 content is,
          len,
        );
      },
      c.exts_error_in_packet-stop.ensures found.1 found.3,
    )
