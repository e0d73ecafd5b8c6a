use Rattle.filter_language.proofs.ParserLemmas.{words_changed}
use Rattle.filter_language.proofs.parser.Parser.change.Goals as goal

pub returns-in-Word-clause-ok : goal.returns-in-Word-clause-ok
returns-in-Word-clause-ok c =
    words_changed c.word_change.result c.args.self.now.mode c.args.self.now.head c.args.self.now.only_values
    c.args.word.now c.args.kind c.in-Word.is c.word_change.ensures.ok
