use Rattle.std.proofs.lemmas.Grind.{common_steps}
use Rattle.std.proofs.Common.{◌≡◌, ◌∙◌, arith}
use Rattle.ep_base.specs.Bytes.{AreBytes}
use Rattle.ep_base.specs.Readings.{headers}
use Rattle.ep_ext.specs.Chains.{ipv6, chain_of}
use Rattle.ep_ext.specs.Ipv6Chains.{extensions_of}
use Rattle.ep_ext.proofs.HeaderLawLemmas.{header_laws}
use Rattle.ep_ext.proofs.ChainLemmas.{one_chain, refused_no_chain}
use Rattle.ep_ext.proofs.ipv6_exts.Ipv6Extensions.read_into.Goals as goal

pub returns-in-Ok-clause-only : goal.returns-in-Ok-clause-only
returns-in-Ok-clause-only c =
    let bytes = c.args.slice.now in
    let fits : AreBytes bytes = λ i. omega (arith, c.type_inv.slice i) in
    let ok = c.in-Ok.ensures.ok in
    λ chain is.
    let same : chain_of ok.0 c.in-Ok.read.0.0 c.in-Ok.read.1.now
    ≡ chain = one_chain header_laws ipv6 headers c.args.number.0 bytes fits _ chain ok.2 is in
    (ok.1 ∙ (λ i. extensions_of (same i).parts), (λ i. (same i).last), (λ i. (same i).rest))

pub returns-in-Err-clause-only : goal.returns-in-Err-clause-only
returns-in-Err-clause-only c =
    let bytes = c.args.slice.now in
    let fits : AreBytes bytes = λ i. omega (arith, c.type_inv.slice i) in
    λ chain is. refused_no_chain header_laws ipv6 headers c.args.number.0 bytes fits _ c.in-Err.ensures.err chain is

pub returns-in-Err-clause-none : goal.returns-in-Err-clause-none
returns-in-Err-clause-none c = grind (arith, common_steps)
