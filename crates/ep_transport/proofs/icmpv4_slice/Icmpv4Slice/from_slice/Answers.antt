use Rattle.std.proofs.Common.{[], sym, arith, rules, tests}
use Rattle.std.proofs.lemmas.Grind.{common_steps}
use Rattle.std.proofs.lemmas.List.{append-nil}
use Rattle.ep_transport.proofs.Icmpv4Lemmas.{icmpv4_is_read, kind_refuses_none}
use Rattle.ep_transport.proofs.icmpv4_slice.Icmpv4Slice.from_slice.Goals as goal

pub returns-clause-ok : goal.returns-clause-ok
returns-clause-ok c =
    let bytes = c.args.slice.now in
    let none =
    kind_refuses_none bytes c.kind_of.result c.kind_of.ensures (omega arith) c.in_ok-check_timestamp.ensures in
    ([], sym (append-nil bytes), icmpv4_is_read.reads bytes (λ i. omega (arith, c.type_inv.slice i)) none)

pub returns-clause-only : goal.returns-clause-only
returns-clause-only c message is = sym (icmpv4_is_read.is_read c.args.slice.now message is).1

pub returns-then-slice-lt-MIN_LEN-clause-err : goal.returns-then-slice-lt-MIN_LEN-clause-err
returns-then-slice-lt-MIN_LEN-clause-err c = grind (arith, common_steps)

pub returns-then-slice-lt-MIN_LEN-clause-only : goal.returns-then-slice-lt-MIN_LEN-clause-only
returns-then-slice-lt-MIN_LEN-clause-only c = search (rules, tests, common_steps)
