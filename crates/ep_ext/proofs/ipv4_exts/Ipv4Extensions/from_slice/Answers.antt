use Rattle.std.proofs.Common.{◌≡◌, [], arith}
use Rattle.std.proofs.lemmas.Result.{err_from_is_err_and}
use Rattle.ep_base.specs.Bytes.{AreBytes}
use Rattle.ep_base.specs.Readings.{headers}
use Rattle.ep_ext.specs.Chains.{ipv4, chain_of}
use Rattle.ep_ext.proofs.HeaderLawLemmas.{header_laws}
use Rattle.ep_ext.proofs.ChainLemmas.{one_chain, refused_no_chain, auth_refused, ends_at_once, one_authentication, number_other, number_same}
use Rattle.ep_ext.proofs.ipv4_exts.Ipv4Extensions.from_slice.Goals as goal

pub returns-then-ne-clause-only : goal.returns-then-ne-clause-only
returns-then-ne-clause-only c =
    let bytes = c.args.slice.now in
    let fits : AreBytes bytes = λ i. omega (arith, c.type_inv.slice i) in
    let other : c.args.number.0 ≡ 51 → ⊥ = number_other c.ne.result _ _ c.ne.ensures c.if-ne.true in
    λ chain is. one_chain header_laws ipv4 headers c.args.number.0 bytes fits (chain_of [] c.args.number.0 bytes) chain
    (ends_at_once headers c.args.number.0 bytes other) is

pub returns-in_err-header-clause-err : goal.returns-in_err-header-clause-err
returns-in_err-header-clause-err c =
    let p = err_from_is_err_and c.from_residual.result c.from_residual.ensures.1 in
    rw (p.1, p.2) (auth_refused headers c.args.number.0 c.args.slice.now _
    (number_same c.ne.result _ _ c.ne.ensures c.if-ne.false) c.in_err-header.ensures.err)

pub returns-in_err-header-clause-only : goal.returns-in_err-header-clause-only
returns-in_err-header-clause-only c =
    let bytes = c.args.slice.now in
    let fits : AreBytes bytes = λ i. omega (arith, c.type_inv.slice i) in
    let refused = auth_refused headers c.args.number.0 bytes _
    (number_same c.ne.result _ _ c.ne.ensures c.if-ne.false) c.in_err-header.ensures.err in
    λ chain is. absurd (refused_no_chain header_laws ipv4 headers c.args.number.0 bytes fits _ refused chain is)

pub returns-clause-only : goal.returns-clause-only
returns-clause-only c =
    let bytes = c.args.slice.now in
    let fits : AreBytes bytes = λ i. omega (arith, c.type_inv.slice i) in
    let header = c.in_ok-header.header in
    let rest = c.in_ok-header.rest.now in
    let here = one_authentication headers c.args.number.0 bytes header rest
    (number_same c.ne.result _ _ c.ne.ensures c.if-ne.false) c.in_ok-header.ensures.ok in
    λ chain is. one_chain header_laws ipv4 headers c.args.number.0 bytes fits _ chain here is
