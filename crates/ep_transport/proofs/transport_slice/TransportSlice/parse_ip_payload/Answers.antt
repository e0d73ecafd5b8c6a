use Rattle.std.proofs.Common.{rules}
use Rattle.ep_base.specs.Readings.{slices}
use Rattle.ep_transport.proofs.TransportLemmas.{icmpv4_refused}
use Rattle.ep_transport.proofs.transport_slice.TransportSlice.parse_ip_payload.Goals as goal

pub returns-in-Err-from_slice-2-clause-err : goal.returns-in-Err-from_slice-2-clause-err
returns-in-Err-from_slice-2-clause-err c =
    icmpv4_refused slices c.args.number.0 c.args.fragmented c.args.slice.now c.in-Err-from_slice-2.error
    c.if-fragmented.false (search rules) c.in-Err-from_slice-2.ensures.err
