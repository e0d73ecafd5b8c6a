use Rattle.std.proofs.Common.{[], sym, arith}
use Rattle.std.proofs.lemmas.List.{append-nil}
use Rattle.ep_transport.proofs.TcpLemmas.{segment_present}
use Rattle.ep_transport.proofs.tcp_slice.TcpSlice.from_slice.Goals as goal

pub returns-clause-ok : goal.returns-clause-ok
returns-clause-ok c =
    let bytes = c.args.slice.now in (
      [],
      sym (append-nil bytes),
      (segment_present bytes (λ i. omega (arith, c.type_inv.slice i)) (omega arith) (omega arith) (omega arith)).0,
    )

pub returns-clause-only : goal.returns-clause-only
returns-clause-only c =
    let bytes = c.args.slice.now in
    (segment_present bytes (λ i. omega (arith, c.type_inv.slice i)) (omega arith) (omega arith) (omega arith)).1
