use Rattle.std.proofs.Common.{[], sym, arith}
use Rattle.std.proofs.lemmas.Grind.{common_steps}
use Rattle.std.proofs.lemmas.List.{append-nil}
use Rattle.ep_link.proofs.LinuxSllLemmas.{linux_sll_is_read}
use Rattle.ep_link.proofs.link.linux_sll_slice.LinuxSllSlice.from_slice.Goals as goal

pub returns-clause-ok : goal.returns-clause-ok
returns-clause-ok c =
    let bytes = c.args.slice.now in
    let is = linux_sll_is_read.reads bytes (λ i. omega (arith, c.type_inv.slice i)) (grind (arith, common_steps)) in
    ([], sym (append-nil bytes), is)

pub returns-clause-only : goal.returns-clause-only
returns-clause-only c packet is =
    let same = (linux_sll_is_read.is_read c.args.slice.now packet is).1 in
    λ i. record { header = (sym same i).header; payload = (sym same i).payload; left = packet.left }
