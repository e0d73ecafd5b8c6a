use Rattle.std.proofs.Common.{rules}
use Rattle.filter_language.proofs.StackLemmas.{step_set}
use Rattle.filter_language.proofs.parser.stack.set_skip.Goals as goal

pub returns-then-place-len : goal.returns-then-place-len
returns-then-place-len c = λ before right step is place_is.
    step_set c.args.steps.now.items before right step c.with_skip.result c.index.result.now c.args.place c.len-len.result
    is place_is c.index.ensures c.with_skip.ensures (search rules)
