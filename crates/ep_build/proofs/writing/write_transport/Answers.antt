use Rattle.std.proofs.Common.{ℕ, length, sym, ap, subst, refl, inr, arith}
use Rattle.std.specs.Prelude.{is_ok}
use Rattle.std.proofs.lemmas.Grind.{common_steps}
use Rattle.std.proofs.lemmas.List.{length-append}
use Rattle.ep_base.specs.Bytes.{AreBytes}
use Rattle.ep_base.proofs.BytesLemmas.{AreBytes-back}
use Rattle.ep_packet.specs.IpHeaders.{LeadThrough, ip_headers_parts, written_headers}
use Rattle.ep_packet.specs.declared.ip_headers.IpHeaders.{IpHeaders}
use Rattle.ep_packet.proofs.IpHeadersLemmas.{leads}
use Rattle.ep_transport.specs.TransportHeaders.{transport_bytes}
use Rattle.ep_build.specs.BuiltFrames.{link_with_type, link_part_bytes, transport_number}
use Rattle.ep_build.proofs.WritingLemmas.{appended, are_bytes, chosen, joined, on_err, on_ok, prepared_back}
use Rattle.ep_build.proofs.WritingLemmas.{prepared_frame, succeeds, transport_len}
use Rattle.ep_build.proofs.writing.write_transport.Goals as goal

pub returns-in_err-ether_type-clause-err : goal.returns-in_err-ether_type-clause-err
returns-in_err-ether_type-clause-err g c = grind (arith, common_steps)

pub returns-then-is_err-clause-refused : goal.returns-then-is_err-clause-refused
returns-then-is_err-clause-refused g c = inr (refl, c.in_ok-ether_type.ensures.buildable)

pub returns-then-is_err-clause-full : goal.returns-then-is_err-clause-full
returns-then-is_err-clause-full g c wanting = omega (
  arith,
  on_err c.reserve.result _ (sym c.if-is_err.ensures.value) c.reserve.ensures.full,
  c.in_ok-ether_type.ensures.size_is,
)

pub append_headers-requires-clause-capacity : goal.append_headers-requires-clause-capacity
append_headers-requires-clause-capacity g c = omega (
  arith,
  on_ok c.reserve.result _ c.if-is_err.ensures.negation c.reserve.ensures.ok,
  c.in_ok-ether_type.ensures.parts,
)

pub append_headers-requires-clause-leads : goal.append_headers-requires-clause-leads
append_headers-requires-clause-leads g c = subst
    (λ (h : IpHeaders). (last : ℕ) × LeadThrough h (ip_headers_parts h) last)
    (sym c.in_ok-ether_type.ensures.is_linked) (
      _,
      leads (g.Headers.IsIpHeaders.headers c.args.headers.now) (record { 0 = transport_number c.args.transport.now })
          _,
    )

pub unwrap-requires : goal.unwrap-requires
unwrap-requires g c = succeeds c.write.result _ _ c.write.ensures.full (omega (
  arith,
  on_ok c.reserve.result _ c.if-is_err.ensures.negation c.reserve.ensures.ok,
  c.in_ok-ether_type.ensures.parts,
  c.append_headers.ensures.len,
  c.append_headers.ensures.capacity,
  transport_len c.prepared.new.transport c.in_ok-ether_type.ensures.fits_transport,
))

pub unwrap-requires-2 : goal.unwrap-requires-2
unwrap-requires-2 g c = c.extend_from_slice.ensures.succeeds (omega (
  arith,
  on_ok c.reserve.result _ c.if-is_err.ensures.negation c.reserve.ensures.ok,
  c.in_ok-ether_type.ensures.parts,
  c.append_headers.ensures.len,
  c.append_headers.ensures.capacity,
  c.write.ensures.capacity,
  transport_len c.prepared.new.transport c.in_ok-ether_type.ensures.fits_transport,
  ap length (on_ok c.write.result _ (ap is_ok c.unwrap.ensures) c.write.ensures.ok),
  length-append c.append_headers.new.buf.items (transport_bytes c.prepared.new.transport),
))

pub returns-clause-ok : goal.returns-clause-ok
returns-clause-ok g c =
    let made = c.in_ok-ether_type.ensures in
    let linked = g.Headers.IsIpHeaders.headers c.prepared.new.headers in
    let prefix = link_part_bytes (link_with_type c.args.link.now c.in_ok-ether_type.ether_type) in
    let complete = joined c.reserve.new.self.items prefix (written_headers linked (ip_headers_parts linked))
    (transport_bytes c.prepared.new.transport) c.args.payload.now _ _ c.extend_from_slice.new.self.items
    c.append_headers.ensures.items (on_ok c.write.result _ (ap is_ok c.unwrap.ensures) c.write.ensures.ok)
    (chosen _ _ _ _ (ap is_ok c.unwrap-2.ensures) c.extend_from_slice.ensures.items) in
    (made.buildable, appended _ _ _ _ _ complete c.reserve.ensures.items (prepared_frame _ _ _ _ _ _ _ _ made))

pub returns-clause-read_back : goal.returns-clause-read_back
returns-clause-read_back g c =
    let linked = g.Headers.IsIpHeaders.headers c.prepared.new.headers in
    let prefix = link_part_bytes (link_with_type c.args.link.now c.in_ok-ether_type.ether_type) in
    let complete = joined c.reserve.new.self.items prefix (written_headers linked (ip_headers_parts linked))
    (transport_bytes c.prepared.new.transport) c.args.payload.now _ _ c.extend_from_slice.new.self.items
    c.append_headers.ensures.items (on_ok c.write.result _ (ap is_ok c.unwrap.ensures) c.write.ensures.ok)
    (chosen _ _ _ _ (ap is_ok c.unwrap-2.ensures) c.extend_from_slice.ensures.items) in
    let bytes = are_bytes c.extend_from_slice.new.self.items (λ i present. c.type_inv.buf i 0 present) in
    prepared_back _ _ _ _ _ _ _ _ c.in_ok-ether_type.ensures c.append_headers.ensures.fits
    (AreBytes-back c.reserve.new.self.items _ (subst AreBytes complete bytes))
