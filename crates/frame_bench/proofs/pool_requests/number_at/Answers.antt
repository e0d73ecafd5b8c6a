use Rattle.std.proofs.Common.{◌∙◌, sym, subst}
use Rattle.line_io.specs.Lines.{space}
use Rattle.frame_bench.specs.Requests.{IsNumber}
use Rattle.frame_bench.proofs.TextLemmas.{no_split, number_without, same_split}
use Rattle.frame_bench.proofs.pool_requests.number_at.Goals as goal

pub returns-in_err-word-clause-none : goal.returns-in_err-word-clause-none
returns-in_err-word-clause-none c =
    rw c.from_residual.ensures
    (λ word rest value parts is. no_split space c.args.text.now word rest c.in_err-word.ensures.none parts)

pub returns-in_err-number-clause-none : goal.returns-in_err-number-clause-none
returns-in_err-number-clause-none c =
    let split = c.in_ok-word.ensures.some in
    rw c.from_residual-in_err-number.ensures
    (λ word rest value parts is.
    let same =
    same_split space word c.in_ok-word.word.now rest c.in_ok-word.rest.now (number_without word value is) split.0
    (sym parts ∙ split.1) in
    c.in_err-number.ensures.none value (subst (λ t. IsNumber t value) same.0 is))
