use Rattle.frame_bench.proofs.TextLemmas.{number_utf8}
use Rattle.frame_bench.proofs.pool_requests.number.Goals as goal

pub returns-in_default-clause-none : goal.returns-in_default-clause-none
returns-in_default-clause-none c = λ value is.
    c.in_default.ensures.cases.0 (number_utf8 c.args.text.now value is)
