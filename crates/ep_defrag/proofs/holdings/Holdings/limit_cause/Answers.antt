use Rattle.std.proofs.lemmas.Grind.{common_steps}
use Rattle.std.proofs.Common.{arith}
use Rattle.ep_defrag.proofs.HoldingsLemmas.{len_of_names}
use Rattle.ep_defrag.proofs.LimitHoldingLemmas.{cause_streams, cause_bytes, cause_none}
use Rattle.ep_defrag.proofs.holdings.Holdings.limit_cause.Goals as goal

pub returns-then-len-most_names-clause-cause : goal.returns-then-len-most_names-clause-cause
returns-then-len-most_names-clause-cause g c rows all =
    cause_streams c.args.limits.now _ rows all (omega (arith, len_of_names c.args.self.now.table))

pub returns-then-self-limits-clause-cause : goal.returns-then-self-limits-clause-cause
returns-then-self-limits-clause-cause g c rows all =
    cause_bytes c.args.limits.now _ rows all (omega (arith, len_of_names c.args.self.now.table)) (omega arith)

pub returns-clause-cause : goal.returns-clause-cause
returns-clause-cause g c rows all =
    cause_none c.args.limits.now _ rows all (omega (arith, len_of_names c.args.self.now.table)) (omega arith)

pub returns-clause-within : goal.returns-clause-within
returns-clause-within g c = grind (arith, common_steps)
