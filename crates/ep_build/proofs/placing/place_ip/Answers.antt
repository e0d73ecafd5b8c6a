use Rattle.std.proofs.Common.{◌++◌, length, ap, arith}
use Rattle.std.proofs.lemmas.List.{length-append}
use Rattle.ep_base.proofs.TableLemmas.{first_row-as_none}
use Rattle.ep_packet.specs.IpHeaders.{ip_headers_parts, payload_len_rows, written_headers}
use Rattle.ep_build.specs.BuiltFrames.{built_frame, ip_frame_headers, link_with_type, link_part_bytes}
use Rattle.ep_build.specs.declared.err.build_write_error.BuildWriteError.TheVariants as error
use Rattle.ep_build.proofs.PlacingLemmas.{fills, packet_at}
use Rattle.ep_build.proofs.SizeLemmas.{headers_len, link_len}
use Rattle.ep_build.proofs.WritingLemmas.{fragment_back, is_ip_frame}
use Rattle.ep_build.proofs.placing.place_ip.Goals as goal

pub returns-clause-filled : goal.returns-clause-filled
returns-clause-filled g c =
    let headers = g.Headers.IsIpHeaders.headers c.args.headers.now in
    let linked = g.Headers.IsIpHeaders.headers c.link.new.self in
    let payload = c.args.payload.now in
    let kept = ip_frame_headers c.args.link.now headers c.args.last in
    let prefix = link_part_bytes (link_with_type c.args.link.now c.in-Ok.ether_type) in
    let written = written_headers linked (ip_headers_parts linked) in
    let complete = is_ip_frame c.args.link.now headers linked c.args.last c.in-Ok.ether_type payload c.in-Ok.ensures.1
    c.in-Ok.ensures.2 in
    fills kept payload _ _ _ _
    (first_row-as_none error.PayloadLen (payload_len_rows headers (length payload)) c.in-Ok.ensures.0)
    (omega (
      arith,
      c.header_len.ensures.value,
      c.headers_len.ensures.value,
      ap length complete,
      length-append prefix (written ++ payload),
      length-append written payload,
      link_len c.args.link.now c.in-Ok.ether_type c.link_fits.ensures,
      headers_len linked c.headers_len.ensures.fits,
    ))
    (packet_at prefix written payload (built_frame kept payload) _ _ _ _ _ c.place_headers-ip_end.ensures.bytes
    c.put.ensures complete)

pub returns-clause-fragment : goal.returns-clause-fragment
returns-clause-fragment g c =
    let headers = g.Headers.IsIpHeaders.headers in
    fragment_back c.args.link.now (headers c.args.headers.now) (headers c.link.new.self) c.args.last c.args.payload.now
    c.in-Ok.ensures.1 c.link_fits.ensures c.headers_len.ensures.fits c.place_headers-ip_end.ensures.fits
