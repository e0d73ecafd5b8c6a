use Rattle.std.proofs.Common.{arith}
use Rattle.ep_base.specs.Bytes.{AreBytes}
use Rattle.ep_ext.proofs.ValuePrefixLemmas.{one_lax_value}
use Rattle.ep_ext.proofs.ipv6_exts.Ipv6Extensions.from_slice_lax.Goals as goal

pub returns-clause-only : goal.returns-clause-only
returns-clause-only c =
    let bytes = c.args.slice.now in
    let fits : AreBytes bytes = λ i. omega (arith, c.type_inv.slice i) in
    λ chain stop is. one_lax_value c.args.number.0 bytes fits _ _ _ _ c.fill_lax-stop.ensures chain stop is
