use Rattle.filter_tokens.specs.Values.{most_number}
use Rattle.filter_tokens.proofs.ValueLemmas.{decimal_if_no_mark, hexadecimal_number}
use Rattle.filter_tokens.proofs.value.number.Goals as goal

pub returns-in-Some-clause-some : goal.returns-in-Some-clause-some
returns-in-Some-clause-some c =
    (hexadecimal_number c.args.word.now c.in-Some.hexadecimal.now c.digits.result c.in-Some.ensures.some
    c.digits.ensures).0

pub returns-in-Some-clause-only : goal.returns-in-Some-clause-only
returns-in-Some-clause-only c =
    (hexadecimal_number c.args.word.now c.in-Some.hexadecimal.now c.digits.result c.in-Some.ensures.some
    c.digits.ensures).1

pub returns-in-None-clause-only : goal.returns-in-None-clause-only
returns-in-None-clause-only c =
    λ value stated.
    c.decimal.ensures.only value (decimal_if_no_mark most_number c.args.word.now value c.in-None.ensures.none stated)
