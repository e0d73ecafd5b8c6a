use Rattle.std.proofs.Common.{ap, sym, arith, inl, length, length-append}
use Rattle.std.proofs.lemmas.Result.{err_from_is_err_and}
use Rattle.ep_base.specs.Readings.{slices}
use Rattle.ep_base.specs.declared.err.len_error.LenError.{LenError}
use Rattle.ep_ip.proofs.RefusalPlaceLemmas.{ipv4_start, ipv4_within}
use Rattle.ep_packet.specs.declared.net_slice.NetSlice.TheVariants as slice
use Rattle.ep_packet.specs.Frame.{only_ipv4}
use Rattle.ep_packet.specs.FrameRefusals.{ipv4_refusal}
use Rattle.ep_ip.specs.Ipv4Slices.{ipv4_slice_bytes}
use Rattle.ep_packet.proofs.NetWalkLemmas.{ipv4_shown, net_holds, net_refused}
use Rattle.ep_packet.proofs.sliced_packet_walk.fill_ipv4.Goals as goal

pub add_offset-requires : goal.add_offset-requires
add_offset-requires c =
    let error = c.in-Err-Len in
    omega (
      arith,
      ipv4_within slices c.args.slice.now error.field-0 error.ensures.err,
      ap ipv4_start error.field-0-is,
      ap (λ (e : LenError). e.layer_start_offset) error.error-is,
      c.requires,
    )

pub fill_transport-requires-clause-headers : goal.fill_transport-requires-clause-headers
fill_transport-requires-clause-headers c =
    let ok = c.in-Ok.ensures.ok in
    (ipv4_shown c.args.slice.now ok.0 c.in-Ok.packet ok.1 ok.2).headers

pub returns-in_err-fill_transport-clause-err : goal.returns-in_err-fill_transport-clause-err
returns-in_err-fill_transport-clause-err c =
    let ok = c.in-Ok.ensures.ok in
    let refused = net_refused only_ipv4 c.args.offset c.args.slice.now
    (slice.Ipv4 c.in-Ok.packet) c.in_err-fill_transport.field-0.0
    (ipv4_shown c.args.slice.now ok.0 c.in-Ok.packet ok.1 ok.2) c.in_err-fill_transport.ensures.err in
    let left = err_from_is_err_and c.from_residual.result c.from_residual.ensures.1 in
    rw (left.1, left.2) refused

pub returns-in-Err-Header-clause-err : goal.returns-in-Err-Header-clause-err
returns-in-Err-Header-clause-err c =
    let found = c.in-Err-Header in
    inl (found.field-0, found.ensures.err, sym (ap (ipv4_refusal c.args.offset) found.field-0-is))

pub returns-in-Err-Exts-clause-err : goal.returns-in-Err-Exts-clause-err
returns-in-Err-Exts-clause-err c =
    let found = c.in-Err-Exts in
    inl (found.field-0, found.ensures.err, sym (ap (ipv4_refusal c.args.offset) found.field-0-is))

pub fill_transport-requires-clause-place : goal.fill_transport-requires-clause-place
fill_transport-requires-clause-place c =
    let ok = c.in-Ok.ensures.ok in
    omega (arith, ap length ok.1, length-append (ipv4_slice_bytes c.in-Ok.packet) ok.0, c.requires)

pub returns-clause-ok : goal.returns-clause-ok
returns-clause-ok c =
    let ok = c.in-Ok.ensures.ok in
    net_holds only_ipv4 c.args.slice.now (slice.Ipv4 c.in-Ok.packet) c.fill_transport.new.transport
    (ipv4_shown c.args.slice.now ok.0 c.in-Ok.packet ok.1 ok.2) c.in_ok-fill_transport.ensures.ok
    c.in_ok-fill_transport.ensures.bytes
