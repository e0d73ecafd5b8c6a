use Rattle.std.proofs.Common.{◌∙◌}
use Rattle.filter_language.proofs.StackLemmas.{ended, not_ended}
use Rattle.filter_language.proofs.parser.stack.Stack.end_operator.Goals as goal

pub returns-in-Some : goal.returns-in-Some
returns-in-Some c = λ frames e is no_not.
    let r =
    ended frames e c.args.self.now.steps.items c.set_skip.new.steps.items c.args.self.now.levels.items
    c.pop_operator.new.self.levels.items c.args.self.now.open_levels c.in-Some.place is.0 is.1 is.2 is.3
    c.in-Some.ensures.place
    (λ before right old steps_are place_is.
    c.set_skip.ensures before right old (c.pop_operator.ensures.steps ∙ steps_are) place_is) in
    (r.0, r.1, c.pop_operator.ensures.open ∙ r.2)

pub returns-in-None : goal.returns-in-None
returns-in-None c = λ frames e is no_not.
    let none = c.in-None.ensures.place in
    let r =
    not_ended frames e c.args.self.now.steps.items c.args.self.now.levels.items c.args.self.now.open_levels
    is.0 is.1 is.2 is.3 none.1 no_not in
    (c.pop_operator.ensures.steps ∙ r.0, none.0 ∙ r.1, c.pop_operator.ensures.open ∙ r.2)
