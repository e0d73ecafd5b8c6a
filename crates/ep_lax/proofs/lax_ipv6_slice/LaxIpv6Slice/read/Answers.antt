use Rattle.std.proofs.Common.{◌++◌, sym, ap, ◌∙◌, arith}
use Rattle.std.specs.Option.{option_map}
use Rattle.ep_base.specs.Readings.{slices}
use Rattle.ep_base.specs.declared.ip_number.IpNumber.{IpNumber}
use Rattle.ep_ext.specs.Chains.{chain_of}
use Rattle.ep_ext.specs.Ipv6ExtensionSlices.{ipv6_slice_parts, ipv6_slice_bytes as extension_bytes}
use Rattle.ep_base.proofs.LaxSliceLemmas.{parts_shown}
use Rattle.ep_ip.specs.Ipv6Slices.{ipv6_header_slice_bytes}
use Rattle.ep_ip.specs.LaxIp.{stop_after}
use Rattle.ep_ip.proofs.LaxIpLemmas.{reported_stop}
use Rattle.ep_packet.proofs.LaxIpContentLemmas.{ipv6_is_read, ipv6_stop_within}
use Rattle.ep_lax.proofs.lax_ipv6_slice.LaxIpv6Slice.read.Goals as goal

pub exts_error_in_packet-stop-requires : goal.exts_error_in_packet-stop-requires
exts_error_in_packet-stop-requires c = λ error same.
    let read = c.from_slice_lax-refused.result in
    let prefix = c.from_slice_lax-refused.ensures.chain in
    let chain = chain_of (ipv6_slice_parts read.0) read.1.0 read.2.now in
    let stop = reported_stop prefix.0 error (sym prefix.2 ∙ same) in
    let within = ipv6_stop_within slices c.args.outer c.args.slice.now c.in-Ok.read.0 c.in-Ok.read.1 c.in-Ok.ensures.ok
    c.in-Ok.read.1.ip_number.0 chain prefix.0 prefix.1 error.0 stop in
    omega (arith, within)

pub returns-clause-ok : goal.returns-clause-ok
returns-clause-ok c =
    let header = c.in-Ok.read.0 in
    let content = c.in-Ok.read.1 in
    let is = c.in-Ok.ensures.ok in
    let read = c.from_slice_lax-refused.result in
    let chain = chain_of (ipv6_slice_parts read.0) read.1.0 read.2.now in
    let stopped = c.from_slice_lax-refused.ensures.chain in (
      is.left,
      option_map (stop_after 40 content.len_source) stopped.0,
      parts_shown c.args.slice.now (ipv6_header_slice_bytes header) is.rest content.payload.now
          (extension_bytes read.0 ++ read.2.now) is.left 40 is.parts (sym header.bytes.whole) is.cuts.parts
          c.from_slice_lax-refused.ensures.bytes,
      ipv6_is_read slices c.args.outer c.args.slice.now header content is content.ip_number.0
          (ap (λ (number : IpNumber). number.0) is.number) chain stopped.0 stopped.1 c.is_fragmenting_payload.result
          c.is_fragmenting_payload.ensures,
      c.exts_error_in_packet-stop.ensures stopped.0 stopped.2,
    )
