use Rattle.std.proofs.Common.{ℕ, nat_eq, subst}
use Rattle.etherparse.specs.BoundedPools.{TakesBoundedFrame}
use Rattle.etherparse.specs.Pools.{fragment_in}
use Rattle.etherparse_c.proofs.bounded_pooling.process_packet.Goals as goal

pub returns-clause-takes : goal.returns-clause-takes
returns-clause-takes c =
    let new = c.process_sliced_packet.new.self in
    let carried = fragment_in c.args.packet.now in
    let result = c.process_sliced_packet.result in
    subst (λ (now : ℕ). TakesBoundedFrame nat_eq c.args.pool.now new carried now c.args.channel result)
    c.from-now.ensures c.process_sliced_packet.ensures.takes
