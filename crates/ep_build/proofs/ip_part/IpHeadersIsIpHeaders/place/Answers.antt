use Rattle.std.proofs.Common.{sym, subst}
use Rattle.ep_ext.specs.Ipv4Chains.{ipv4_parts}
use Rattle.ep_ext.specs.Ipv6Chains.{ipv6_parts}
use Rattle.ep_packet.specs.IpHeaders.{ip_header_bytes, ip_headers_parts, with_checksum, written_headers}
use Rattle.ep_packet.specs.declared.ip_headers.IpHeaders.{IpHeaders}
use Rattle.ep_build.specs.Placing.{AreAt}
use Rattle.ep_build.specs.Steps.{plain_ipv4, plain_ipv6}
use Rattle.ep_build.proofs.PlacingLemmas.{headers_at}
use Rattle.ep_build.proofs.ip_part.IpHeadersIsIpHeaders.place.Goals as goal

pub returns-in-Ipv4-clause-bytes : goal.returns-in-Ipv4-clause-bytes
returns-in-Ipv4-clause-bytes c = subst
    (λ (h : IpHeaders). AreAt (written_headers h (ip_headers_parts h)) c.args.slice.now c.place_authentication.new.slice
    c.args.at c.place_authentication.result)
    (sym c.in-Ipv4.is)
    (headers_at (ip_header_bytes (with_checksum (plain_ipv4 c.in-Ipv4.header))) (ipv4_parts c.in-Ipv4.extensions)
    _ _ _ _ _ _ c.place-header_end.ensures.bytes c.place_authentication.ensures)

pub returns-in-Ipv6-clause-bytes : goal.returns-in-Ipv6-clause-bytes
returns-in-Ipv6-clause-bytes c = subst
    (λ (h : IpHeaders). AreAt (written_headers h (ip_headers_parts h)) c.args.slice.now c.place_extensions.new.slice
    c.args.at c.place_extensions.result)
    (sym c.in-Ipv6.is)
    (headers_at (ip_header_bytes (with_checksum (plain_ipv6 c.in-Ipv6.header))) (ipv6_parts c.in-Ipv6.extensions)
    _ _ _ _ _ _ c.place-header_end-in-Ipv6.ensures.bytes c.place_extensions.ensures)
