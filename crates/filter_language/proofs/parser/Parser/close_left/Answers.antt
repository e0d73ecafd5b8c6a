use Rattle.std.proofs.Common.{List, ap, subst, sym, ◌∙◌, arith}
use Rattle.filter_language.specs.Parsing.{HasNoExpression, state_of, steps_before}
use Rattle.filter_language.specs.States.{Frame, close_left, levels_in}
use Rattle.filter_language.proofs.ParserLemmas.{frames_within}
use Rattle.filter_language.proofs.StackLemmas.{group_on_top}
use Rattle.filter_language.proofs.parser.Parser.close_left.Goals as goal

pub returns-in-Some : goal.returns-in-Some
returns-in-Some c = λ frames shown within.
    let none = frames_within c.args.self.now.mode frames within shown.1 in
    let group = c.in-Some.ensures.group in
    let (inner, is, rest_is) =
    group_on_top frames c.close_group.new.self.levels.items c.in-Some.head c.in-Some.only_values none
    (sym shown.0.1 ∙ group.0) in
    let counted = ap levels_in is in (
      inner,
      (
        (c.close_group.ensures.steps ∙ shown.0.0 ∙ ap steps_before is, rest_is, omega (arith, group.1, shown.0.2, counted)),
        subst HasNoExpression is none,
      ),
      ap (λ (list : List Frame). close_left (state_of c.args.self.now frames) c.args.operand c.args.mask list) is,
    )
