use Rattle.std.proofs.Common.{sym, subst}
use Rattle.std.specs.Prelude.{OnOk}
use Rattle.ep_build.specs.BuiltFragments.{IsFragmentReadBack}
use Rattle.ep_build.specs.BuiltFrames.{ip_frame_headers}
use Rattle.ep_build.specs.Steps.{part_headers}
use Rattle.ep_build.specs.declared.ip_part.IpPart.{IpPart}
use Rattle.ep_build.proofs.WritingLemmas.{Appends}
use Rattle.ep_build.proofs.writing.append_ip_step.Goals as goal

pub returns-in-Plain4-clause-ok : goal.returns-in-Plain4-clause-ok
returns-in-Plain4-clause-ok c = subst
    (λ (ip : IpPart). OnOk c.write_ip.result (Appends (ip_frame_headers c.args.link (part_headers ip) c.args.last)
    c.args.payload.now c.args.buf.now.items c.write_ip.new.buf.items))
    (sym c.in-Plain4.is) c.write_ip.ensures.ok

pub returns-in-Plain4-clause-fragment : goal.returns-in-Plain4-clause-fragment
returns-in-Plain4-clause-fragment c = subst
    (λ (ip : IpPart). OnOk c.write_ip.result
    (IsFragmentReadBack c.args.link (part_headers ip) c.args.last c.args.payload.now))
    (sym c.in-Plain4.is) c.write_ip.ensures.fragment

pub returns-in-Plain6-clause-ok : goal.returns-in-Plain6-clause-ok
returns-in-Plain6-clause-ok c = subst
    (λ (ip : IpPart). OnOk c.write_ip-in-Plain6.result (Appends (ip_frame_headers c.args.link (part_headers ip) c.args.last)
    c.args.payload.now c.args.buf.now.items c.write_ip-in-Plain6.new.buf.items))
    (sym c.in-Plain6.is) c.write_ip-in-Plain6.ensures.ok

pub returns-in-Plain6-clause-fragment : goal.returns-in-Plain6-clause-fragment
returns-in-Plain6-clause-fragment c = subst
    (λ (ip : IpPart). OnOk c.write_ip-in-Plain6.result
    (IsFragmentReadBack c.args.link (part_headers ip) c.args.last c.args.payload.now))
    (sym c.in-Plain6.is) c.write_ip-in-Plain6.ensures.fragment

pub returns-in-Any-clause-ok : goal.returns-in-Any-clause-ok
returns-in-Any-clause-ok c = subst
    (λ (ip : IpPart). OnOk c.write_ip-in-Any.result (Appends (ip_frame_headers c.args.link (part_headers ip) c.args.last)
    c.args.payload.now c.args.buf.now.items c.write_ip-in-Any.new.buf.items))
    (sym c.in-Any.is) c.write_ip-in-Any.ensures.ok

pub returns-in-Any-clause-fragment : goal.returns-in-Any-clause-fragment
returns-in-Any-clause-fragment c = subst
    (λ (ip : IpPart). OnOk c.write_ip-in-Any.result
    (IsFragmentReadBack c.args.link (part_headers ip) c.args.last c.args.payload.now))
    (sym c.in-Any.is) c.write_ip-in-Any.ensures.fragment
