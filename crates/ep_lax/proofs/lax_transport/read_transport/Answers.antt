use Rattle.std.proofs.lemmas.Grind.{common_steps}
use Rattle.std.proofs.Common.{◌≡◌, ◌≢◌, Bool, false, subst, sym, inr, rules, tests, arith}
use Rattle.std.proofs.lemmas.Result.{IfOk-weaker}
use Rattle.ep_base.specs.IpNumbers.{udp_number}
use Rattle.ep_lax.proofs.LaxTransportLemmas.{IsReadLaxly, others_read, udp_read_laxly}
use Rattle.ep_lax.proofs.lax_transport.read_transport.Goals as goal

pub returns-in-Ok-clause-ok : goal.returns-in-Ok-clause-ok
returns-in-Ok-clause-ok c =
    let p = c.args.payload.now in
    let ok = c.in-Ok.ensures.ok in
    let is_udp : p.ip_number.0 ≡ udp_number = search (rules, tests) in
    udp_read_laxly p.ip_number.0 p.fragmented p.payload.now p.incomplete c.in-Ok.datagram ok.0 c.if-payload.false
    is_udp ok.2 ok.3

pub returns-clause-ok : goal.returns-clause-ok
returns-clause-ok c =
    let p = c.args.payload.now in
    let other : p.ip_number.0 ≢ udp_number = search (rules, tests) in
    IfOk-weaker c.from_ip_number.result _ _
    (λ part is. subst (λ (f : Bool). IsReadLaxly p.ip_number.0 f p.payload.now p.incomplete part)
    (sym c.if-payload.false) (others_read p.ip_number.0 false p.payload.now p.incomplete (inr other) part is))
    c.from_ip_number.ensures.ok

pub returns-clause-err : goal.returns-clause-err
returns-clause-err c = grind (arith, common_steps)
