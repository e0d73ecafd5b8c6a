use Rattle.std.proofs.Common.{false, refl, sym, ap, ◌∙◌, arith}
use Rattle.ep_base.specs.Readings.{headers}
use Rattle.ep_base.specs.declared.ip_number.IpNumber.{IpNumber}
use Rattle.ep_ext.specs.declared.ipv6_exts.Ipv6Extensions.{Ipv6Extensions}
use Rattle.ep_ext.specs.Chains.{chain_fragments, chain_of}
use Rattle.ep_ext.specs.Ipv6Chains.{ipv6_parts}
use Rattle.ep_ext.proofs.ValueLawLemmas.{lax_value_fragments}
use Rattle.ep_ip.proofs.LaxIpLemmas.{reported_stop}
use Rattle.ep_packet.specs.declared.ip_headers.IpHeaders.TheVariants as variant
use Rattle.ep_packet.proofs.LaxIpContentLemmas.{ipv6_is_read, ipv6_stop_within}
use Rattle.ep_packet.proofs.ip_headers_read_lax.read_ipv6.Goals as goal

pub exts_error_in_packet-stop-requires : goal.exts_error_in_packet-stop-requires
exts_error_in_packet-stop-requires c = λ error same.
    let read = c.from_slice_lax-extensions.result in
    let found = c.from_slice_lax-extensions.ensures.chain in
    let chain = chain_of found.0 read.1.0 read.2.now in
    let stop = reported_stop found.1 error (sym found.3 ∙ same) in
    let within = ipv6_stop_within headers false c.args.slice.now c.in-Ok.read.0 c.in-Ok.read.1 c.in-Ok.ensures.ok
    c.in-Ok.read.1.ip_number.0 chain found.1 found.4 error.0 stop in
    omega (arith, within)

pub returns-clause-ok : goal.returns-clause-ok
returns-clause-ok c =
    let content = c.in-Ok.read.1 in
    let is = c.in-Ok.ensures.ok in
    let read = c.from_slice_lax-extensions.result in
    let found = c.from_slice_lax-extensions.ensures.chain in
    let chain = chain_of found.0 read.1.0 read.2.now in
    let fragments = c.is_fragmenting_payload.ensures
    ∙ ap (λ (e : Ipv6Extensions). chain_fragments (ipv6_parts e)) found.2
    ∙ lax_value_fragments content.ip_number.0 content.payload.now chain found.1 found.4 in (
      _,
      ipv6_is_read headers false c.args.slice.now c.in-Ok.read.0 content is content.ip_number.0
          (ap (λ (number : IpNumber). number.0) is.number) chain found.1 found.4 c.is_fragmenting_payload.result
          fragments,
      (
        ((λ i. variant.Ipv6 (c.to_header.ensures i) (found.2 i)), refl, refl),
        c.exts_error_in_packet-stop.ensures found.1 found.3,
      ),
    )
