use Rattle.std.proofs.Common.{sym, subst}
use Rattle.std.specs.Prelude.{OnOk}
use Rattle.ep_build.specs.BuiltFrames.{transport_frame_headers}
use Rattle.ep_build.specs.Placing.{FillsStart}
use Rattle.ep_build.specs.ReadBack.{IsReadBack}
use Rattle.ep_build.specs.Steps.{part_headers}
use Rattle.ep_build.specs.declared.ip_part.IpPart.{IpPart}
use Rattle.ep_build.proofs.placing.place_transport_step.Goals as goal

pub returns-in-Plain4-clause-filled : goal.returns-in-Plain4-clause-filled
returns-in-Plain4-clause-filled c = subst
    (λ (ip : IpPart). FillsStart (transport_frame_headers c.args.link (part_headers ip) c.args.transport) c.args.payload.now
    c.args.slice.now c.place_transport.new.slice c.place_transport.result)
    (sym c.in-Plain4.is) c.place_transport.ensures.filled

pub returns-in-Plain4-clause-read_back : goal.returns-in-Plain4-clause-read_back
returns-in-Plain4-clause-read_back c = subst
    (λ (ip : IpPart). OnOk c.place_transport.result
    (IsReadBack c.args.link (part_headers ip) c.args.transport c.args.payload.now))
    (sym c.in-Plain4.is) c.place_transport.ensures.read_back

pub returns-in-Plain6-clause-filled : goal.returns-in-Plain6-clause-filled
returns-in-Plain6-clause-filled c = subst
    (λ (ip : IpPart). FillsStart (transport_frame_headers c.args.link (part_headers ip) c.args.transport) c.args.payload.now
    c.args.slice.now c.place_transport-in-Plain6.new.slice c.place_transport-in-Plain6.result)
    (sym c.in-Plain6.is) c.place_transport-in-Plain6.ensures.filled

pub returns-in-Plain6-clause-read_back : goal.returns-in-Plain6-clause-read_back
returns-in-Plain6-clause-read_back c = subst
    (λ (ip : IpPart). OnOk c.place_transport-in-Plain6.result
    (IsReadBack c.args.link (part_headers ip) c.args.transport c.args.payload.now))
    (sym c.in-Plain6.is) c.place_transport-in-Plain6.ensures.read_back

pub returns-in-Any-clause-filled : goal.returns-in-Any-clause-filled
returns-in-Any-clause-filled c = subst
    (λ (ip : IpPart). FillsStart (transport_frame_headers c.args.link (part_headers ip) c.args.transport) c.args.payload.now
    c.args.slice.now c.place_transport-in-Any.new.slice c.place_transport-in-Any.result)
    (sym c.in-Any.is) c.place_transport-in-Any.ensures.filled

pub returns-in-Any-clause-read_back : goal.returns-in-Any-clause-read_back
returns-in-Any-clause-read_back c = subst
    (λ (ip : IpPart). OnOk c.place_transport-in-Any.result
    (IsReadBack c.args.link (part_headers ip) c.args.transport c.args.payload.now))
    (sym c.in-Any.is) c.place_transport-in-Any.ensures.read_back
