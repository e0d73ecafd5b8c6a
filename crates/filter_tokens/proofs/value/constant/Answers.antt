use Rattle.std.proofs.Common.{sym}
use Rattle.filter_tokens.specs.Names.{constant_names, lookup_name}
use Rattle.filter_tokens.proofs.ValueLemmas.{not_named}
use Rattle.filter_tokens.proofs.value.constant.Goals as goal

pub returns-in-None-clause-only : goal.returns-in-None-clause-only
returns-in-None-clause-only c =
    λ value stated.
    c.number.ensures.only value
    (not_named (lookup_name c.args.word.now constant_names) value (sym c.in-None.ensures) stated)
