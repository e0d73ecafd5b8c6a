use Rattle.std.proofs.Common.{sym, subst}
use Rattle.std.specs.Prelude.{OnOk}
use Rattle.ep_build.specs.BuiltFrames.{transport_frame_headers}
use Rattle.ep_build.specs.ReadBack.{IsReadBack}
use Rattle.ep_build.specs.Steps.{part_headers}
use Rattle.ep_build.specs.declared.ip_part.IpPart.{IpPart}
use Rattle.ep_build.proofs.WritingLemmas.{Appends}
use Rattle.ep_build.proofs.writing.append_transport_step.Goals as goal

pub returns-in-Plain4-clause-ok : goal.returns-in-Plain4-clause-ok
returns-in-Plain4-clause-ok c = subst
    (λ (ip : IpPart). OnOk c.write_transport.result
    (Appends (transport_frame_headers c.args.link (part_headers ip) c.args.transport)
    c.args.payload.now c.args.buf.now.items c.write_transport.new.buf.items))
    (sym c.in-Plain4.is) c.write_transport.ensures.ok

pub returns-in-Plain4-clause-read_back : goal.returns-in-Plain4-clause-read_back
returns-in-Plain4-clause-read_back c = subst
    (λ (ip : IpPart). OnOk c.write_transport.result
    (IsReadBack c.args.link (part_headers ip) c.args.transport c.args.payload.now))
    (sym c.in-Plain4.is) c.write_transport.ensures.read_back

pub returns-in-Plain6-clause-ok : goal.returns-in-Plain6-clause-ok
returns-in-Plain6-clause-ok c = subst
    (λ (ip : IpPart). OnOk c.write_transport-in-Plain6.result
    (Appends (transport_frame_headers c.args.link (part_headers ip) c.args.transport)
    c.args.payload.now c.args.buf.now.items c.write_transport-in-Plain6.new.buf.items))
    (sym c.in-Plain6.is) c.write_transport-in-Plain6.ensures.ok

pub returns-in-Plain6-clause-read_back : goal.returns-in-Plain6-clause-read_back
returns-in-Plain6-clause-read_back c = subst
    (λ (ip : IpPart). OnOk c.write_transport-in-Plain6.result
    (IsReadBack c.args.link (part_headers ip) c.args.transport c.args.payload.now))
    (sym c.in-Plain6.is) c.write_transport-in-Plain6.ensures.read_back

pub returns-in-Any-clause-ok : goal.returns-in-Any-clause-ok
returns-in-Any-clause-ok c = subst
    (λ (ip : IpPart). OnOk c.write_transport-in-Any.result
    (Appends (transport_frame_headers c.args.link (part_headers ip) c.args.transport)
    c.args.payload.now c.args.buf.now.items c.write_transport-in-Any.new.buf.items))
    (sym c.in-Any.is) c.write_transport-in-Any.ensures.ok

pub returns-in-Any-clause-read_back : goal.returns-in-Any-clause-read_back
returns-in-Any-clause-read_back c = subst
    (λ (ip : IpPart). OnOk c.write_transport-in-Any.result
    (IsReadBack c.args.link (part_headers ip) c.args.transport c.args.payload.now))
    (sym c.in-Any.is) c.write_transport-in-Any.ensures.read_back
