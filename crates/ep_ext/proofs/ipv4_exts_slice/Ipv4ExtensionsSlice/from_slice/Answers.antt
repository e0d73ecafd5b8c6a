use Rattle.std.proofs.Common.{◌≡◌, ◌∷◌, [], ◌∙◌, arith}
use Rattle.std.proofs.lemmas.Result.{err_from_is_err_and}
use Rattle.ep_base.specs.Bytes.{AreBytes}
use Rattle.ep_base.specs.Readings.{slices}
use Rattle.ep_ext.specs.ExtensionParts.{authentication}
use Rattle.ep_ext.specs.IpAuthSlices.{ip_auth_slice_bytes, ip_auth_slice_header}
use Rattle.ep_base.proofs.BytesLemmas.{prefix_within, rest_of}
use Rattle.ep_ext.specs.Chains.{ipv4, chain_of}
use Rattle.ep_ext.proofs.HeaderLawLemmas.{header_laws}
use Rattle.ep_ext.proofs.ChainLemmas.{one_chain, refused_no_chain, auth_refused, ends_at_once, one_authentication, number_other, number_same}
use Rattle.ep_ext.proofs.ipv4_exts_slice.Ipv4ExtensionsSlice.from_slice.Goals as goal

pub returns-then-ne-clause-only : goal.returns-then-ne-clause-only
returns-then-ne-clause-only c =
    let bytes = c.args.slice.now in
    let fits : AreBytes bytes = λ i. omega (arith, c.type_inv.slice i) in
    let other : c.args.number.0 ≡ 51 → ⊥ = number_other c.ne.result _ _ c.ne.ensures c.if-ne.true in
    λ chain is. one_chain header_laws ipv4 slices c.args.number.0 bytes fits (chain_of [] c.args.number.0 bytes) chain
    (ends_at_once slices c.args.number.0 bytes other) is

pub returns-in_err-header-clause-err : goal.returns-in_err-header-clause-err
returns-in_err-header-clause-err c =
    let p = err_from_is_err_and c.from_residual.result c.from_residual.ensures.1 in
    rw (p.1, p.2) (auth_refused slices c.args.number.0 c.args.slice.now _
    (number_same c.ne.result _ _ c.ne.ensures c.if-ne.false) c.in_err-header.ensures.err)

pub returns-in_err-header-clause-only : goal.returns-in_err-header-clause-only
returns-in_err-header-clause-only c =
    let bytes = c.args.slice.now in
    let fits : AreBytes bytes = λ i. omega (arith, c.type_inv.slice i) in
    let refused = auth_refused slices c.args.number.0 bytes _
    (number_same c.ne.result _ _ c.ne.ensures c.if-ne.false) c.in_err-header.ensures.err in
    λ chain is. absurd (refused_no_chain header_laws ipv4 slices c.args.number.0 bytes fits _ refused chain is)

pub slice_bounds-rest-count : goal.slice_bounds-rest-count
slice_bounds-rest-count c =
    let ok = c.in_ok-header.ensures.ok in
    omega (arith, prefix_within c.args.slice.now (ip_auth_slice_bytes c.in_ok-header.header) ok.0 _ ok.1 c.header_len.ensures.bytes)

pub slice_bounds-rest-start : goal.slice_bounds-rest-start
slice_bounds-rest-start c =
    let ok = c.in_ok-header.ensures.ok in
    omega (arith, prefix_within c.args.slice.now (ip_auth_slice_bytes c.in_ok-header.header) ok.0 _ ok.1 c.header_len.ensures.bytes)

pub returns-clause-only : goal.returns-clause-only
returns-clause-only c =
    let bytes = c.args.slice.now in
    let fits : AreBytes bytes = λ i. omega (arith, c.type_inv.slice i) in
    let header = ip_auth_slice_header c.in_ok-header.header in
    let ok = c.in_ok-header.ensures.ok in
    let here = one_authentication slices c.args.number.0 bytes header ok.0
    (number_same c.ne.result _ _ c.ne.ensures c.if-ne.false) ok.2 in
    let rest = rest_of bytes (ip_auth_slice_bytes c.in_ok-header.header) ok.0 c.header_len.result ok.1
    c.header_len.ensures.bytes in
    λ chain is. (λ i. chain_of (authentication header ∷ []) (c.next_header-next_header.ensures i).0 (rest i))
    ∙ one_chain header_laws ipv4 slices c.args.number.0 bytes fits _ chain here is
