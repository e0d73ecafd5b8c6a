use Rattle.std.proofs.Common.{refl, ap, arith}
use Rattle.ep_base.specs.Readings.{headers}
use Rattle.ep_base.specs.declared.err.len_error.LenError.{LenError}
use Rattle.ep_ip.specs.IpPackets.{ipv4_part}
use Rattle.ep_ip.proofs.RefusalPlaceLemmas.{ipv4_start, ipv4_within}
use Rattle.ep_packet.specs.Frame.{only_ipv4}
use Rattle.ep_packet.specs.PacketHeaders.{headers_of}
use Rattle.ep_packet.proofs.HeadersLemmas.{ip_error, ip_filled}
use Rattle.ep_packet.proofs.packet_headers.PacketHeaders.fill_ipv4.Goals as goal

pub add_offset-requires : goal.add_offset-requires
add_offset-requires c =
    let error = c.in-Err-Len in
    omega (
      arith,
      ipv4_within headers c.args.slice.now error.field-0 error.ensures.err,
      ap ipv4_start error.field-0-is,
      ap (λ (e : LenError). e.layer_start_offset) error.error-is,
      c.requires.place,
    )

pub returns-clause-ok : goal.returns-clause-ok
returns-clause-ok c =
    let read = c.in-Ok.ensures.ok in
    ip_filled only_ipv4 c.args.slice.now (ipv4_part read.0) _ _ _ (headers_of c.args.self.now) _ _
    (read.0, read.1, refl) read.2 c.fill_transport.ensures.ok

pub returns-clause-err : goal.returns-clause-err
returns-clause-err c =
    let read = c.in-Ok.ensures.ok in
    ip_error only_ipv4 c.args.slice.now (ipv4_part read.0) _ _ c.args.offset _ _ (read.0, read.1, refl) read.2
    c.fill_transport.ensures.err
