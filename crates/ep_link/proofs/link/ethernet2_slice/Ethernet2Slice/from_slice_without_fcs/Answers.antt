use Rattle.std.proofs.Common.{[], sym, arith}
use Rattle.std.proofs.lemmas.Grind.{common_steps}
use Rattle.std.proofs.lemmas.List.{append-nil}
use Rattle.ep_link.proofs.Ethernet2Lemmas.{ethernet2_is_read}
use Rattle.ep_link.proofs.link.ethernet2_slice.Ethernet2Slice.from_slice_without_fcs.Goals as goal

pub returns-clause-ok : goal.returns-clause-ok
returns-clause-ok c =
    let bytes = c.args.slice.now in
    let is = ethernet2_is_read.reads bytes (λ i. omega (arith, c.type_inv.slice i)) (grind (arith, common_steps)) in
    ([], sym (append-nil bytes), is)

pub returns-clause-only : goal.returns-clause-only
returns-clause-only c frame is =
    let same = (ethernet2_is_read.is_read c.args.slice.now frame is).1 in
    λ i. record { header = (sym same i).header; payload = (sym same i).payload; left = frame.left }

pub returns-then-slice-lt-LEN-clause-only : goal.returns-then-slice-lt-LEN-clause-only
returns-then-slice-lt-LEN-clause-only c = grind (arith, common_steps)

pub returns-then-slice-lt-LEN-clause-err : goal.returns-then-slice-lt-LEN-clause-err
returns-then-slice-lt-LEN-clause-err c = grind (arith, common_steps)
