use Rattle.std.proofs.Common.{false, subst, arith}
use Rattle.ep_base.specs.Bytes.{AreBytes}
use Rattle.ep_base.specs.Readings.{headers}
use Rattle.ep_ip.specs.declared.ipv4_header.Ipv4Header.{Ipv4Header}
use Rattle.ep_ip.specs.LaxIp.{LaxIp}
use Rattle.ep_ip.proofs.LaxIpLemmas.{lax_ipv4_decided}
use Rattle.ep_packet.specs.LaxIpHeaders.{ShowsLaxIpv4}
use Rattle.ep_packet.proofs.ip_headers.IpHeaders.from_ipv4_slice_lax.Goals as goal

pub returns-in-Ok-clause-only : goal.returns-in-Ok-clause-only
returns-in-Ok-clause-only c =
    let bytes = c.args.slice.now in
    let fits : AreBytes bytes = λ i. omega (arith, c.type_inv.slice i) in
    let ok = c.in-Ok.ensures.ok in
    λ lax is. subst (λ (l : LaxIp Ipv4Header). ShowsLaxIpv4 l c.in-Ok.read)
    ((lax_ipv4_decided headers false bytes fits).one_value ok.0 lax ok.1 is) ok.2

pub returns-in-Err-clause-only : goal.returns-in-Err-clause-only
returns-in-Err-clause-only c =
    let bytes = c.args.slice.now in
    let fits : AreBytes bytes = λ i. omega (arith, c.type_inv.slice i) in
    λ lax is. absurd ((lax_ipv4_decided headers false bytes fits).not_both lax c.in-Err.error is c.in-Err.ensures.err)
