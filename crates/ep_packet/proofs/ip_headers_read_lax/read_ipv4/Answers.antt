use Rattle.std.proofs.Common.{false, refl, sym, ap, arith}
use Rattle.std.specs.Option.{option_map}
use Rattle.ep_base.specs.Readings.{headers}
use Rattle.ep_ext.specs.Chains.{chain_of}
use Rattle.ep_ext.specs.ExtensionParts.{auth_refusal}
use Rattle.ep_ext.specs.Ipv4Chains.{ipv4_parts}
use Rattle.ep_packet.specs.declared.ip_headers.IpHeaders.TheVariants as variant
use Rattle.ep_packet.proofs.IpHeadersLemmas.{ipv4_value}
use Rattle.ep_packet.proofs.LaxIpContentLemmas.{ipv4_is_read, ipv4_stop_within}
use Rattle.ep_packet.proofs.ip_headers_read_lax.read_ipv4.Goals as goal

pub auth_error_in_packet-stop-requires : goal.auth_error_in_packet-stop-requires
auth_error_in_packet-stop-requires c = λ error same.
    let read = c.from_slice_lax-extensions.result in
    let chain = chain_of (ipv4_parts read.0) read.1.0 read.2.now in
    let within = ipv4_stop_within headers false c.args.slice.now c.in-Ok.read.0 c.in-Ok.read.1 c.in-Ok.ensures.ok chain
    (option_map auth_refusal read.3) c.from_slice_lax-extensions.ensures.chain (auth_refusal error)
    (ap (option_map auth_refusal) same) in
    omega (arith, within, c.header_len.ensures.bytes)

pub returns-clause-ok : goal.returns-clause-ok
returns-clause-ok c =
    let read = c.from_slice_lax-extensions.result in
    let chain = chain_of (ipv4_parts read.0) read.1.0 read.2.now in
    let stop = c.auth_error_in_packet-stop in (
      _,
      ipv4_is_read headers false c.args.slice.now c.in-Ok.read.0 c.in-Ok.read.1 c.in-Ok.ensures.ok chain
          (option_map auth_refusal read.3) c.from_slice_lax-extensions.ensures.chain c.header_len.result
          c.header_len.ensures.value (option_map auth_refusal stop.result) stop.ensures,
      (((λ i. variant.Ipv4 (c.to_header.ensures i) (sym (ipv4_value read.0) i)), refl, refl), refl),
    )
