use Rattle.std.proofs.lemmas.Grind.{common_steps}
use Rattle.std.proofs.Common.{ap, arith}
use Rattle.ep_base.specs.Readings.{slices}
use Rattle.ep_base.specs.declared.err.len_error.LenError.{LenError}
use Rattle.ep_packet.proofs.WalkLemmas.{transport_error_start}
use Rattle.ep_packet.proofs.sliced_packet_walk.fill_transport_in.Goals as goal

pub after_header-requires : goal.after_header-requires
after_header-requires c =
    let found = c.in-Err-Len in
    let p = c.args.payload.now in
    let start = transport_error_start slices p.ip_number.0 p.fragmented p.payload.now _ _ found.field-0-is found.ensures.err in
    omega (arith, start, ap (λ (e : LenError). e.layer_start_offset) found.error-is, c.ranges.offset.fits)

pub returns-in-Err-Content-clause-err : goal.returns-in-Err-Content-clause-err
returns-in-Err-Content-clause-err c = grind (arith, common_steps)

pub returns-in-Err-Len-clause-err : goal.returns-in-Err-Len-clause-err
returns-in-Err-Len-clause-err c = grind (arith, common_steps)

pub returns-in-Ok-clause-ok : goal.returns-in-Ok-clause-ok
returns-in-Ok-clause-ok c = grind (arith, common_steps)
