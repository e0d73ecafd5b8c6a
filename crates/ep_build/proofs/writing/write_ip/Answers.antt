use Rattle.std.proofs.Common.{ℕ, length, ap, sym, subst, arith}
use Rattle.ep_packet.specs.IpHeaders.{LeadThrough, ip_headers_len, ip_headers_parts}
use Rattle.ep_packet.specs.declared.ip_headers.IpHeaders.{IpHeaders}
use Rattle.ep_packet.proofs.IpHeadersLemmas.{leads}
use Rattle.ep_build.proofs.LengthLemmas.{headers_for_len}
use Rattle.ep_build.proofs.WritingLemmas.{fragment_back, on_err, on_ok}
use Rattle.ep_build.proofs.writing.write_ip.Goals as goal

pub append_headers-requires-clause-leads : goal.append_headers-requires-clause-leads
append_headers-requires-clause-leads g c = subst
    (λ (h : IpHeaders). (last : ℕ) × LeadThrough h (ip_headers_parts h) last)
    (sym c.in-Ok.ensures.1)
    (_, leads (g.Headers.IsIpHeaders.headers c.args.headers.now) c.args.last _)

pub returns-clause-fragment : goal.returns-clause-fragment
returns-clause-fragment g c =
    let headers = g.Headers.IsIpHeaders.headers in
    fragment_back c.args.link.now (headers c.args.headers.now) (headers c.link.new.self) c.args.last c.args.payload.now
    c.in-Ok.ensures.1 c.link_fits.ensures c.headers_len.ensures.fits c.append_headers.ensures.fits

pub returns-then-is_err-clause-full : goal.returns-then-is_err-clause-full
returns-then-is_err-clause-full g c wanting =
    let headers = g.Headers.IsIpHeaders.headers c.args.headers.now in
    omega (
      arith,
      on_err c.reserve.result _ (sym c.if-is_err.ensures.value) c.reserve.ensures.full,
      c.header_len.ensures.value,
      c.headers_len.ensures.value,
      ap ip_headers_len c.in-Ok.ensures.1,
      headers_for_len headers c.args.last (length c.args.payload.now),
    )

pub unwrap-requires : goal.unwrap-requires
unwrap-requires g c = c.extend_from_slice.ensures.succeeds (omega (
  arith,
  on_ok c.reserve.result _ c.if-is_err.ensures.negation c.reserve.ensures.ok,
  c.header_len.ensures.value,
  c.headers_len.ensures.value,
  c.append_headers.ensures.len,
  c.append_headers.ensures.capacity,
))
