use Rattle.std.proofs.Common.{ap, subst}
use Rattle.filter_tokens.specs.ShownTokens.{shown_token}
use Rattle.filter_language.specs.declared.change.Change.{Change}
use Rattle.filter_language.specs.Grammar.{most_levels}
use Rattle.filter_language.specs.Changes.{IsAptIn, changed}
use Rattle.filter_language.specs.Parsing.{state_of}
use Rattle.filter_language.proofs.ParserLemmas.{frames_within, within_frames}
use Rattle.filter_language.proofs.parser.Parser.apply.Goals as goal

pub returns-in-Qualify : goal.returns-in-Qualify
returns-in-Qualify c = λ frames text shown apt.
    let within = subst (λ (made : Change). IsAptIn c.args.self.now.mode made) c.in-Qualify.is apt in
    let none = frames_within c.args.self.now.mode frames within.0 shown.1 in (
      frames,
      (shown.0, within_frames c.in-Qualify.mode frames within.1 none),
      ap (λ (made : Change). changed most_levels (state_of c.args.self.now frames) made (shown_token c.args.kind text))
          c.in-Qualify.is,
    )
