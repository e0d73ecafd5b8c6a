use Rattle.filter_tokens.specs.ShownTokens.{shown_token}
use Rattle.filter_language.specs.Grammar.{most_levels}
use Rattle.filter_language.specs.Parsing.{state_of}
use Rattle.filter_language.proofs.AcceptLemmas.{accepted}
use Rattle.filter_language.proofs.parser.Parser.accept.Goals as goal

pub returns-in-Ok : goal.returns-in-Ok
returns-in-Ok c = λ frames shown.
    accepted most_levels (state_of c.args.self.now frames) (shown_token c.args.kind c.args.word.now) c.in-Ok.change
    c.apply.new.self c.apply.result (c.in-Ok.ensures.ok frames)
    (c.apply.ensures frames c.args.word.now shown c.in-Ok.ensures.apt)
