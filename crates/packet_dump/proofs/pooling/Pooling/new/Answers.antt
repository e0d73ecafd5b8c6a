use Rattle.std.proofs.Common.{refl, ◌∙◌}
use Rattle.packet_dump.proofs.PoolLemmas.{holds_new}
use Rattle.packet_dump.proofs.pooling.Pooling.new.Goals as goal

pub returns : goal.returns
returns c =
    holds_new c.args.options.now _ (c.in_ok-new.ensures.limits ∙ c.limits.ensures) refl c.in_ok-new.ensures.names
    c.in_ok-new.ensures.statistics
