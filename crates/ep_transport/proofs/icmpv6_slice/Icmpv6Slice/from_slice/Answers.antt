use Rattle.std.proofs.Common.{[], sym, arith}
use Rattle.std.proofs.lemmas.Grind.{common_steps}
use Rattle.std.proofs.lemmas.List.{append-nil}
use Rattle.ep_transport.proofs.Icmpv6Lemmas.{icmpv6_is_read}
use Rattle.ep_transport.proofs.icmpv6_slice.Icmpv6Slice.from_slice.Goals as goal

pub returns-clause-ok : goal.returns-clause-ok
returns-clause-ok c =
    let bytes = c.args.slice.now in
    let is = icmpv6_is_read.reads bytes (λ i. omega (arith, c.type_inv.slice i)) (grind (arith, common_steps)) in
    ([], sym (append-nil bytes), is)

pub returns-clause-only : goal.returns-clause-only
returns-clause-only c message is = sym (icmpv6_is_read.is_read c.args.slice.now message is).1
