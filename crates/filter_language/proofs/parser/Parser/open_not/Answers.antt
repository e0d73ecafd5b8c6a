use Rattle.std.proofs.Common.{◌∷◌}
use Rattle.filter_language.specs.Grammar.{most_levels}
use Rattle.filter_language.specs.Parsing.{state_of}
use Rattle.filter_language.specs.States.{negating}
use Rattle.filter_language.proofs.ParserLemmas.{frames_within, level_opened}
use Rattle.filter_language.proofs.parser.Parser.open_not.Goals as goal

pub returns : goal.returns
returns c = λ frames shown within.
    let none = frames_within c.args.self.now.mode frames within shown.1 in
    let done = c.in_ok-open_not.ensures frames shown.0 in (
      negating ∷ frames,
      (done.1, none),
      level_opened most_levels (state_of c.args.self.now frames) c.args.only negating c.args.self.now.only_values done.0,
    )
