use Rattle.std.proofs.Common.{subst, arith}
use Rattle.ep_base.specs.Bytes.{AreBytes}
use Rattle.ep_ip.specs.IpPackets.{IpPart}
use Rattle.ep_packet.specs.IpHeaders.{HasBytes}
use Rattle.ep_packet.proofs.IpHeadersLemmas.{has_bytes, headers_decided}
use Rattle.ep_packet.proofs.ip_headers.IpHeaders.read_from_slice.Goals as goal

pub returns-in-Ok-clause-only : goal.returns-in-Ok-clause-only
returns-in-Ok-clause-only c =
    let bytes = c.args.slice.now in
    let fits : AreBytes bytes = λ i. omega (arith, c.type_inv.slice i) in
    let ok = c.in-Ok.ensures.ok in
    let payload = c.in-Ok.payload in
    λ part is. subst
    (λ (p : IpPart). HasBytes p (c.in-Ok.headers, payload.ip_number, payload.payload.now))
    ((headers_decided bytes fits).one_value ok.0 part ok.1 is) (has_bytes ok.0 c.in-Ok.headers payload ok.2)

pub returns-in-Err-clause-only : goal.returns-in-Err-clause-only
returns-in-Err-clause-only c =
    let bytes = c.args.slice.now in
    let fits : AreBytes bytes = λ i. omega (arith, c.type_inv.slice i) in
    λ part is. (headers_decided bytes fits).not_both part c.in-Err.error is c.in-Err.ensures.err
