use Rattle.std.proofs.Common.{drop, take-append-drop, sym, refl, arith}
use Rattle.std.proofs.lemmas.Grind.{common_steps}
use Rattle.ep_ext.proofs.FragmentHeaderLemmas.{leading_is}
use Rattle.ep_ext.proofs.ipv6_fragment_header_slice.Ipv6FragmentHeaderSlice.from_slice.Goals as goal

pub returns-clause-ok : goal.returns-clause-ok
returns-clause-ok c =
    let bytes = c.args.slice.now in (
      drop 8 bytes,
      sym (take-append-drop 8 bytes),
      leading_is bytes 8 refl (λ i. omega (arith, c.type_inv.slice i)) (omega arith),
    )

pub returns-then-slice-lt-LEN-clause-only : goal.returns-then-slice-lt-LEN-clause-only
returns-then-slice-lt-LEN-clause-only c = grind (arith, common_steps)

pub returns-then-slice-lt-LEN-clause-err : goal.returns-then-slice-lt-LEN-clause-err
returns-then-slice-lt-LEN-clause-err c = grind (arith, common_steps)
