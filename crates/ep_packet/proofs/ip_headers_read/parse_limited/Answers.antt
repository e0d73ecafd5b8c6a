use Rattle.std.proofs.Common.{◌++◌, length, ap, sym, subst, ◌∙◌, arith}
use Rattle.std.proofs.lemmas.List.{length-append}
use Rattle.ep_base.specs.Tables.{parts_of}
use Rattle.ep_ip.specs.declared.ipv6_header.Ipv6Header.{Ipv6Header}
use Rattle.ep_ip.specs.Ipv6.{IsIpv6Packet, ipv6_bytes, ipv6_payload_source}
use Rattle.ep_ip.specs.Ipv6Slices.{ipv6_header_slice_header}
use Rattle.ep_ip.proofs.IpBytesLemmas.{ipv6_len}
use Rattle.ep_packet.proofs.ip_headers_read.parse_limited.Goals as goal

pub returns-clause-ok : goal.returns-clause-ok
returns-clause-ok c =
    let read = c.in-Ok in
    let content = read.read.1.now in
    let ok = read.ensures.ok in (
      ok.0,
      subst (λ (h : Ipv6Header). IsIpv6Packet c.args.slice.now (parts_of h content ok.0))
          (sym c.to_header.ensures) ok.2,
    )

pub returns-clause-source : goal.returns-clause-source
returns-clause-source c =
    c.in-Ok.ensures.source
    ∙ ap (λ (h : Ipv6Header). ipv6_payload_source h c.in-Ok.read.1.now) (sym c.to_header.ensures)

pub returns-clause-within : goal.returns-clause-within
returns-clause-within c =
    let content = c.in-Ok.read.1.now in
    let ok = c.in-Ok.ensures.ok in
    let header = ipv6_header_slice_header c.in-Ok.read.0 in
    omega (
      arith,
      ap length ok.2.parts,
      length-append (ipv6_bytes header ++ content) ok.0,
      length-append (ipv6_bytes header) content,
      ipv6_len header ok.2.fits,
    )
