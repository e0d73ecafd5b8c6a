use Rattle.std.proofs.Common.{◌∷◌}
use Rattle.filter_language.specs.Grammar.{most_levels}
use Rattle.filter_language.specs.Parsing.{state_of}
use Rattle.filter_language.specs.States.{opened}
use Rattle.filter_language.proofs.ParserLemmas.{frames_within, level_opened}
use Rattle.filter_language.proofs.parser.Parser.open_group.Goals as goal

pub returns : goal.returns
returns c = λ frames shown within.
    let none = frames_within c.args.self.now.mode frames within shown.1 in
    let done = c.in_ok-open_group.ensures frames shown.0 in (
      (opened c.args.self.now.head c.args.self.now.only_values) ∷ frames,
      (done.1, none),
      level_opened most_levels (state_of c.args.self.now frames) c.args.only (opened c.args.self.now.head c.args.self.now.only_values) c.args.only done.0,
    )
