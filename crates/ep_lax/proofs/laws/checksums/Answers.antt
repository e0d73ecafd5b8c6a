use Rattle.ep_lax.proofs.LaxVerdictLemmas.{lax_verdicts_shown, strict_verdicts}
use Rattle.ep_lax.proofs.laws.checksums.Goals as goal

pub returns-clause-shown : goal.returns-clause-shown
returns-clause-shown c = lax_verdicts_shown

pub returns-clause-strict : goal.returns-clause-strict
returns-clause-strict c = strict_verdicts
