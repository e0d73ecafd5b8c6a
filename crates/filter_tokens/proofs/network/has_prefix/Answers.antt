use Rattle.filter_tokens.proofs.NumberLemmas.{zero_prefix}
use Rattle.filter_tokens.proofs.network.has_prefix.Goals as goal

pub returns-then-bits-eq0 : goal.returns-then-bits-eq0
returns-then-bits-eq0 c =
    zero_prefix c.args.bits c.args.width c.args.address c.args.network c.if-bits-eq0.true c.requires.below
