use Rattle.std.proofs.Common.{◌++◌, length, refl, sym, subst, arith}
use Rattle.std.specs.Prelude.{drop}
use Rattle.std.proofs.lemmas.List.{length-append}
use Rattle.ep_base.specs.Bytes.{AreBytes}
use Rattle.ep_base.proofs.BytesLemmas.{AreBytes-prefix}
use Rattle.ep_packet.specs.IpHeaders.{ip_headers_parts, written_headers}
use Rattle.ep_transport.specs.TransportHeaders.{transport_bytes}
use Rattle.ep_build.specs.BuiltFrames.{built_frame, transport_frame_headers, link_with_type, link_part_bytes}
use Rattle.ep_build.proofs.PlacingLemmas.{at_start, both_at, fills, packet_at, same_len}
use Rattle.ep_build.proofs.SizeLemmas.{headers_len, link_len}
use Rattle.ep_build.proofs.WritingLemmas.{prepared_back, prepared_frame, prepared_len, transport_len}
use Rattle.ep_build.proofs.placing.place_transport.Goals as goal

pub returns-then-slice-size-clause-filled : goal.returns-then-slice-size-clause-filled
returns-then-slice-size-clause-filled g c =
    let made = c.in-Ok.ensures in
    ((made.buildable, prepared_len _ _ _ _ _ _ _ _ made, omega (arith, c.if-slice-size.true)), refl)

pub put-requires : goal.put-requires
put-requires g c =
    let made = c.in-Ok.ensures in
    let linked = g.Headers.IsIpHeaders.headers c.prepared.new.headers in
    let filled = c.prepared.new.transport in
    let prefix = link_part_bytes (link_with_type c.args.link.now c.in-Ok.prepared.0) in
    let written = written_headers linked (ip_headers_parts linked) in
    let first = c.place_headers-ip_end.ensures.bytes in
    let second = c.place_header-header_end.ensures in
    omega (
      arith,
      first.ends,
      second.ends,
      same_len _ _ _ _ _ first,
      same_len _ _ _ _ _ second,
      c.if-slice-size.false,
      made.parts,
      length-append prefix written,
      link_len c.args.link.now c.in-Ok.prepared.0 made.fits_link,
      headers_len linked made.fits_header,
      transport_len filled made.fits_transport,
    )

pub returns-clause-filled : goal.returns-clause-filled
returns-clause-filled g c =
    let made = c.in-Ok.ensures in
    let linked = g.Headers.IsIpHeaders.headers c.prepared.new.headers in
    let filled = c.prepared.new.transport in
    let payload = c.args.payload.now in
    let kept = transport_frame_headers c.args.link.now (g.Headers.IsIpHeaders.headers c.args.headers.now) c.args.transport.now in
    let prefix = link_part_bytes (link_with_type c.args.link.now c.in-Ok.prepared.0) in
    let written = written_headers linked (ip_headers_parts linked) in
    fills kept payload _ _ _ _ made.buildable (prepared_len _ _ _ _ _ _ _ _ made)
    (packet_at prefix written (transport_bytes filled ++ payload) (built_frame kept payload) _ _ _ _ _
    c.place_headers-ip_end.ensures.bytes
    (both_at (transport_bytes filled) payload _ _ _ _ _ _ c.place_header-header_end.ensures c.put.ensures)
    (prepared_frame _ _ _ _ _ _ _ _ made))

pub returns-clause-read_back : goal.returns-clause-read_back
returns-clause-read_back g c =
    let made = c.in-Ok.ensures in
    let linked = g.Headers.IsIpHeaders.headers c.prepared.new.headers in
    let filled = c.prepared.new.transport in
    let payload = c.args.payload.now in
    let kept = transport_frame_headers c.args.link.now (g.Headers.IsIpHeaders.headers c.args.headers.now) c.args.transport.now in
    let prefix = link_part_bytes (link_with_type c.args.link.now c.in-Ok.prepared.0) in
    let written = written_headers linked (ip_headers_parts linked) in
    let frame = built_frame kept payload in
    let present = packet_at prefix written (transport_bytes filled ++ payload) frame _ _ _ _ _
    c.place_headers-ip_end.ensures.bytes
    (both_at (transport_bytes filled) payload _ _ _ _ _ _ c.place_header-header_end.ensures c.put.ensures)
    (prepared_frame _ _ _ _ _ _ _ _ made) in
    let all : AreBytes c.put.new.slice = λ i. omega (arith, c.type_inv.slice i) in
    let framed : AreBytes frame = AreBytes-prefix frame (drop (length frame) c.args.slice.now)
    (subst AreBytes (at_start frame _ _ _ present) all) in
    prepared_back _ _ _ _ _ _ _ _ made c.place_headers-ip_end.ensures.fits
    (subst AreBytes (sym (prepared_frame _ _ _ _ _ _ _ _ made)) framed)
