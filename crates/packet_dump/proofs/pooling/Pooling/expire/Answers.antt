use Rattle.std.proofs.lemmas.Bool.{le-ltb, lt-ltb}
use Rattle.std.proofs.lemmas.Result.{on_ok_weaker}
use Rattle.packet_dump.proofs.PoolLemmas.{expires, expires_none}
use Rattle.packet_dump.proofs.pooling.Pooling.expire.Goals as goal

pub returns-then-self-second : goal.returns-then-self-second
returns-then-self-second c =
    let old = c.args.self.now in
    let new = record old { swept = c.seconds_of-second.result; pool = c.expire.new.self } in
    on_ok_weaker c.push_evictions.result
    (λ lines.
    expires c.args.options.now c.args.packet.now old new c.args.output.now.items _
    (rw c.seconds_of-second.ensures at (lt-ltb old.swept c.seconds_of-second.result c.if-self-second.true))
    c.seconds_of-second.ensures (rw c.idle.ensures at c.expire.ensures.step) (rw c.evicted.ensures.shown at lines))
    c.push_evictions.ensures

pub returns : goal.returns
returns c =
    expires_none c.args.options.now c.args.packet.now c.args.self.now c.args.output.now.items
    (rw c.seconds_of-second.ensures at (le-ltb c.args.self.now.swept c.seconds_of-second.result c.if-self-second.false))
