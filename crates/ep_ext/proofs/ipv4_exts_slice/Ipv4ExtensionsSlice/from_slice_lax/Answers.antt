use Rattle.std.proofs.Common.{◌≡◌, ◌∷◌, [], ◌++◌, ◌∙◌, Some, None, sym, subst, arith}
use Rattle.std.specs.Option.{option_map}
use Rattle.ep_base.specs.Bytes.{AreBytes}
use Rattle.ep_base.specs.Readings.{slices}
use Rattle.ep_ext.specs.ExtensionParts.{auth_refusal, authentication}
use Rattle.ep_ext.specs.ChainPrefixes.{IsLaxChain}
use Rattle.ep_ext.specs.IpAuthSlices.{ip_auth_slice_bytes, ip_auth_slice_header}
use Rattle.ep_base.proofs.BytesLemmas.{prefix_within, rest_of}
use Rattle.ep_ext.specs.Chains.{ipv4, ExtensionChain, chain_of}
use Rattle.ep_ext.proofs.ChainLemmas.{ends_at_once, one_authentication, number_other, number_same}
use Rattle.ep_ext.proofs.PrefixLemmas.{auth_stops, one_prefix_chain, same_auth_stop}
use Rattle.ep_ext.proofs.ipv4_exts_slice.Ipv4ExtensionsSlice.from_slice_lax.Goals as goal

pub returns-then-ne-clause-chain : goal.returns-then-ne-clause-chain
returns-then-ne-clause-chain c =
    ends_at_once slices c.args.number.0 c.args.slice.now
    (number_other c.ne.result _ _ c.ne.ensures c.if-ne.true)

pub returns-then-ne-clause-only : goal.returns-then-ne-clause-only
returns-then-ne-clause-only c =
    let bytes = c.args.slice.now in
    let fits : AreBytes bytes = λ i. omega (arith, c.type_inv.slice i) in
    let here = ends_at_once slices c.args.number.0 bytes (number_other c.ne.result _ _ c.ne.ensures c.if-ne.true) in
    λ chain stop is.
    let same = one_prefix_chain ipv4 c.args.number.0 bytes fits (chain_of [] c.args.number.0 bytes) chain None
    (option_map auth_refusal stop) here is in
    (same.0, same_auth_stop None stop same.1)

pub returns-in-Err-clause-chain : goal.returns-in-Err-clause-chain
returns-in-Err-clause-chain c =
    auth_stops slices c.args.number.0 c.args.slice.now c.in-Err.error
    (number_same c.ne.result _ _ c.ne.ensures c.if-ne.false) c.in-Err.ensures.err

pub returns-in-Err-clause-only : goal.returns-in-Err-clause-only
returns-in-Err-clause-only c =
    let bytes = c.args.slice.now in
    let fits : AreBytes bytes = λ i. omega (arith, c.type_inv.slice i) in
    let here = auth_stops slices c.args.number.0 bytes c.in-Err.error
    (number_same c.ne.result _ _ c.ne.ensures c.if-ne.false) c.in-Err.ensures.err in
    λ chain stop is.
    let same = one_prefix_chain ipv4 c.args.number.0 bytes fits (chain_of [] c.args.number.0 bytes) chain
    (Some (auth_refusal c.in-Err.error)) (option_map auth_refusal stop) here is in
    (same.0, same_auth_stop (Some c.in-Err.error) stop same.1)

pub slice_bounds-rest-count : goal.slice_bounds-rest-count
slice_bounds-rest-count c =
    let ok = c.in-Ok.ensures.ok in
    omega (arith, prefix_within c.args.slice.now (ip_auth_slice_bytes c.in-Ok.header) ok.0 _ ok.1 c.header_len.ensures.bytes)

pub slice_bounds-rest-start : goal.slice_bounds-rest-start
slice_bounds-rest-start c =
    let ok = c.in-Ok.ensures.ok in
    omega (arith, prefix_within c.args.slice.now (ip_auth_slice_bytes c.in-Ok.header) ok.0 _ ok.1 c.header_len.ensures.bytes)

pub returns-in-Ok : goal.returns-in-Ok
returns-in-Ok c =
    let bytes = c.args.slice.now in
    let fits : AreBytes bytes = λ i. omega (arith, c.type_inv.slice i) in
    let header = ip_auth_slice_header c.in-Ok.header in
    let prefix = ip_auth_slice_bytes c.in-Ok.header in
    let ok = c.in-Ok.ensures.ok in
    let here = one_authentication slices c.args.number.0 bytes header ok.0
    (number_same c.ne.result _ _ c.ne.ensures c.if-ne.false) ok.2 in
    let rest = rest_of bytes prefix ok.0 c.header_len.result ok.1 c.header_len.ensures.bytes in
    let shown = chain_of (authentication header ∷ []) in
    let next = c.next_header-next_header.ensures in
    let same_chain : shown c.next_header-next_header.result.0 _ ≡ shown header.next_header.0 ok.0 =
    λ i. shown (next i).0 (rest i) in
    record {
      bytes = ok.1 ∙ (λ i. prefix ++ sym rest i);
      chain = subst (λ (x : ExtensionChain). IsLaxChain ipv4 c.args.number.0 bytes x None) (sym same_chain) here;
      only = λ chain stop is.
          let same = one_prefix_chain ipv4 c.args.number.0 bytes fits _ chain None
          (option_map auth_refusal stop) here is in
          (same_chain ∙ same.0, same_auth_stop None stop same.1);
    }
