use Rattle.std.proofs.Common.{sym, subst}
use Rattle.std.specs.Prelude.{OnOk}
use Rattle.ep_build.specs.BuiltFragments.{IsFragmentReadBack}
use Rattle.ep_build.specs.BuiltFrames.{ip_frame_headers}
use Rattle.ep_build.specs.Placing.{FillsStart}
use Rattle.ep_build.specs.Steps.{part_headers}
use Rattle.ep_build.specs.declared.ip_part.IpPart.{IpPart}
use Rattle.ep_build.proofs.placing.place_ip_step.Goals as goal

pub returns-in-Plain4-clause-filled : goal.returns-in-Plain4-clause-filled
returns-in-Plain4-clause-filled c = subst
    (λ (ip : IpPart). FillsStart (ip_frame_headers c.args.link (part_headers ip) c.args.last) c.args.payload.now
    c.args.slice.now c.place_ip.new.slice c.place_ip.result)
    (sym c.in-Plain4.is) c.place_ip.ensures.filled

pub returns-in-Plain4-clause-fragment : goal.returns-in-Plain4-clause-fragment
returns-in-Plain4-clause-fragment c = subst
    (λ (ip : IpPart). OnOk c.place_ip.result
    (IsFragmentReadBack c.args.link (part_headers ip) c.args.last c.args.payload.now))
    (sym c.in-Plain4.is) c.place_ip.ensures.fragment

pub returns-in-Plain6-clause-filled : goal.returns-in-Plain6-clause-filled
returns-in-Plain6-clause-filled c = subst
    (λ (ip : IpPart). FillsStart (ip_frame_headers c.args.link (part_headers ip) c.args.last) c.args.payload.now
    c.args.slice.now c.place_ip-in-Plain6.new.slice c.place_ip-in-Plain6.result)
    (sym c.in-Plain6.is) c.place_ip-in-Plain6.ensures.filled

pub returns-in-Plain6-clause-fragment : goal.returns-in-Plain6-clause-fragment
returns-in-Plain6-clause-fragment c = subst
    (λ (ip : IpPart). OnOk c.place_ip-in-Plain6.result
    (IsFragmentReadBack c.args.link (part_headers ip) c.args.last c.args.payload.now))
    (sym c.in-Plain6.is) c.place_ip-in-Plain6.ensures.fragment

pub returns-in-Any-clause-filled : goal.returns-in-Any-clause-filled
returns-in-Any-clause-filled c = subst
    (λ (ip : IpPart). FillsStart (ip_frame_headers c.args.link (part_headers ip) c.args.last) c.args.payload.now
    c.args.slice.now c.place_ip-in-Any.new.slice c.place_ip-in-Any.result)
    (sym c.in-Any.is) c.place_ip-in-Any.ensures.filled

pub returns-in-Any-clause-fragment : goal.returns-in-Any-clause-fragment
returns-in-Any-clause-fragment c = subst
    (λ (ip : IpPart). OnOk c.place_ip-in-Any.result
    (IsFragmentReadBack c.args.link (part_headers ip) c.args.last c.args.payload.now))
    (sym c.in-Any.is) c.place_ip-in-Any.ensures.fragment
