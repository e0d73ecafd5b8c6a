use Rattle.std.proofs.Common.{◌∷◌, [], Some, None, arith}
use Rattle.std.specs.Option.{option_map}
use Rattle.ep_base.specs.Bytes.{AreBytes}
use Rattle.ep_base.specs.Readings.{headers}
use Rattle.ep_ext.specs.ExtensionParts.{auth_refusal, authentication}
use Rattle.ep_ext.specs.Chains.{ipv4, chain_of}
use Rattle.ep_ext.proofs.ChainLemmas.{ends_at_once, one_authentication, number_other, number_same}
use Rattle.ep_ext.proofs.PrefixLemmas.{auth_stops, one_lax_chain, same_auth_stop}
use Rattle.ep_ext.proofs.ipv4_exts.Ipv4Extensions.from_slice_lax.Goals as goal

pub returns-then-ne-clause-chain : goal.returns-then-ne-clause-chain
returns-then-ne-clause-chain c =
    ends_at_once headers c.args.number.0 c.args.slice.now
    (number_other c.ne.result _ _ c.ne.ensures c.if-ne.true)

pub returns-then-ne-clause-only : goal.returns-then-ne-clause-only
returns-then-ne-clause-only c =
    let bytes = c.args.slice.now in
    let fits : AreBytes bytes = λ i. omega (arith, c.type_inv.slice i) in
    let here = ends_at_once headers c.args.number.0 bytes (number_other c.ne.result _ _ c.ne.ensures c.if-ne.true) in
    λ chain stop is.
    let same = one_lax_chain ipv4 headers c.args.number.0 bytes fits (chain_of [] c.args.number.0 bytes) chain None
    (option_map auth_refusal stop) here is in
    (same.0, same_auth_stop None stop same.1)

pub returns-in-Err-clause-chain : goal.returns-in-Err-clause-chain
returns-in-Err-clause-chain c =
    auth_stops headers c.args.number.0 c.args.slice.now c.in-Err.error
    (number_same c.ne.result _ _ c.ne.ensures c.if-ne.false) c.in-Err.ensures.err

pub returns-in-Err-clause-only : goal.returns-in-Err-clause-only
returns-in-Err-clause-only c =
    let bytes = c.args.slice.now in
    let fits : AreBytes bytes = λ i. omega (arith, c.type_inv.slice i) in
    let here = auth_stops headers c.args.number.0 bytes c.in-Err.error
    (number_same c.ne.result _ _ c.ne.ensures c.if-ne.false) c.in-Err.ensures.err in
    λ chain stop is.
    let same = one_lax_chain ipv4 headers c.args.number.0 bytes fits (chain_of [] c.args.number.0 bytes) chain
    (Some (auth_refusal c.in-Err.error)) (option_map auth_refusal stop) here is in
    (same.0, same_auth_stop (Some c.in-Err.error) stop same.1)

pub returns-in-Ok-clause-chain : goal.returns-in-Ok-clause-chain
returns-in-Ok-clause-chain c =
    one_authentication headers c.args.number.0 c.args.slice.now c.in-Ok.header c.in-Ok.rest.now
    (number_same c.ne.result _ _ c.ne.ensures c.if-ne.false) c.in-Ok.ensures.ok

pub returns-in-Ok-clause-only : goal.returns-in-Ok-clause-only
returns-in-Ok-clause-only c =
    let bytes = c.args.slice.now in
    let fits : AreBytes bytes = λ i. omega (arith, c.type_inv.slice i) in
    let header = c.in-Ok.header in
    let rest = c.in-Ok.rest.now in
    let here = one_authentication headers c.args.number.0 bytes header rest
    (number_same c.ne.result _ _ c.ne.ensures c.if-ne.false) c.in-Ok.ensures.ok in
    λ chain stop is.
    let same = one_lax_chain ipv4 headers c.args.number.0 bytes fits
    (chain_of (authentication header ∷ []) header.next_header.0 rest) chain None (option_map auth_refusal stop) here is
    in
    (same.0, same_auth_stop None stop same.1)
