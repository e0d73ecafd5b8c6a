use Rattle.std.proofs.Common.{◌++◌, ap, arith}
use Rattle.std.specs.Option.{option_map}
use Rattle.ep_base.specs.Readings.{slices}
use Rattle.ep_ext.specs.Chains.{chain_of}
use Rattle.ep_ext.specs.ExtensionParts.{auth_refusal}
use Rattle.ep_ext.specs.Ipv4Chains.{ipv4_slice_parts, ipv4_slice_bytes as extension_bytes}
use Rattle.ep_base.proofs.LaxSliceLemmas.{parts_shown}
use Rattle.ep_ip.specs.Ipv4.{ipv4_header_len}
use Rattle.ep_ip.specs.Ipv4Slices.{ipv4_header_slice_bytes, ipv4_header_slice_header}
use Rattle.ep_packet.proofs.LaxIpContentLemmas.{ipv4_is_read, ipv4_stop_within}
use Rattle.ep_lax.proofs.lax_ipv4_slice.LaxIpv4Slice.read.Goals as goal

pub auth_error_in_packet-stop-requires : goal.auth_error_in_packet-stop-requires
auth_error_in_packet-stop-requires c = λ error same.
    let found = c.from_slice_lax-refused in
    let chain = chain_of (ipv4_slice_parts found.result.0) found.result.1.0 found.result.2.now in
    let within = ipv4_stop_within slices c.args.outer c.args.slice.now c.in-Ok.read.0 c.in-Ok.read.1 c.in-Ok.ensures.ok
    chain (option_map auth_refusal found.result.3) found.ensures.chain (auth_refusal error)
    (ap (option_map auth_refusal) same) in
    omega (arith, within, c.header_len.ensures.bytes)

pub returns-clause-ok : goal.returns-clause-ok
returns-clause-ok c =
    let header = c.in-Ok.read.0 in
    let content = c.in-Ok.read.1 in
    let is = c.in-Ok.ensures.ok in
    let found = c.from_slice_lax-refused in
    let chain = chain_of (ipv4_slice_parts found.result.0) found.result.1.0 found.result.2.now in
    let stop = c.auth_error_in_packet-stop in (
      is.left,
      parts_shown c.args.slice.now (ipv4_header_slice_bytes header) is.rest content.payload.now
          (extension_bytes found.result.0 ++ found.result.2.now) is.left
          (ipv4_header_len (ipv4_header_slice_header header)) is.parts is.len is.cuts.parts found.ensures.bytes,
      ipv4_is_read slices c.args.outer c.args.slice.now header content is chain
          (option_map auth_refusal found.result.3) found.ensures.chain c.header_len.result c.header_len.ensures.value
          (option_map auth_refusal stop.result) stop.ensures,
    )
