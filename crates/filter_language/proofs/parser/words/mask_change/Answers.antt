use Rattle.filter_language.proofs.ChangeLemmas.{mask_words}
use Rattle.filter_language.proofs.parser.words.mask_change.Goals as goal

pub returns-in-Some-clause-ok : goal.returns-in-Some-clause-ok
returns-in-Some-clause-ok c =
    mask_words c.network_change.result c.args.layer c.args.side c.args.address c.args.word.now c.in-Some.bits
    c.in-Some.ensures.some c.network_change.ensures.ok
