use Rattle.std.proofs.Common.{[], false, ap, sym, ◌∙◌, arith}
use Rattle.ep_base.specs.declared.err.len_error.LenError.{LenError}
use Rattle.ep_ext.specs.declared.ipv6_exts.Ipv6Extensions.{Ipv6Extensions}
use Rattle.ep_ext.specs.Chains.{chain_fragments, chain_of}
use Rattle.ep_ext.specs.Ipv6Chains.{ipv6_parts}
use Rattle.ep_ext.proofs.ValueLawLemmas.{chain_value_fragments}
use Rattle.ep_ip.specs.Ipv6.{ipv6_payload_source}
use Rattle.ep_ip.proofs.PacketLemmas.{shown_packet}
use Rattle.ep_packet.specs.declared.ip_headers.IpHeaders.TheVariants as variant
use Rattle.ep_packet.proofs.IpHeadersLemmas.{ipv6_by_value}
use Rattle.ep_packet.proofs.NetFillLemmas.{exts_start, plain_ipv6}
use Rattle.ep_packet.proofs.ip_headers_read.read_ipv6.Goals as goal

pub after_header-requires : goal.after_header-requires
after_header-requires c =
    let found = c.in-Err-Len in
    let start = exts_start c.in-Ok.cut.0 c.in-Ok.cut.1.now _ _ _ found.field-0-is found.ensures.err c.in-Ok.ensures.within in
    omega (arith, start, ap (λ (e : LenError). e.layer_start_offset) found.error-is)

pub returns-in-Ok-from_slice-clause-ok : goal.returns-in-Ok-from_slice-clause-ok
returns-in-Ok-from_slice-clause-ok c =
    let header = c.in-Ok.cut.0 in
    let content = c.in-Ok.cut.1.now in
    let cut = c.in-Ok.ensures.ok in
    let found = c.in-Ok-from_slice in
    let read = found.ensures.ok in
    let number = found.ip_number.0 in
    let rest = found.payload.now in
    let chain = chain_of read.0 number rest in
    let fragments = c.is_fragmenting_payload.ensures
    ∙ ap (λ (e : Ipv6Extensions). chain_fragments (ipv6_parts e)) read.1
    ∙ chain_value_fragments header.next_header.0 content chain read.2 in
    let source = c.in-Ok.ensures.source in (
      shown_packet header chain (chain_fragments read.0) (ipv6_payload_source header content) cut.0,
      ipv6_by_value c.args.slice.now content cut.0 header read.0 number rest cut.1 read.2,
      (
        ap (variant.Ipv6 header) read.1,
        λ i. record { number = number; fragmented = fragments i; source = source i; bytes = rest },
      ),
    )

pub returns-then-not-is_extension-clause-ok : goal.returns-then-not-is_extension-clause-ok
returns-then-not-is_extension-clause-ok c =
    let header = c.in-Ok.cut.0 in
    let content = c.in-Ok.cut.1.now in
    let cut = c.in-Ok.ensures.ok in
    let number = header.next_header.0 in
    let none = sym c.is_extension.ensures ∙ c.if-not-is_extension.true in
    let source = c.in-Ok.ensures.source in (
      shown_packet header (chain_of [] number content) false (ipv6_payload_source header content) cut.0,
      plain_ipv6 c.args.slice.now content cut.0 header cut.1 none,
      (
        ap (variant.Ipv6 header) c.no_extensions.ensures,
        λ i. record { number = number; fragmented = false; source = source i; bytes = content },
      ),
    )
