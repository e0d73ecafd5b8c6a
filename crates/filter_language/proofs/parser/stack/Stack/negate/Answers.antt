use Rattle.std.proofs.Common.{List, ◌∷◌, ◌++◌, [], ap, ◌∙◌, rules}
use Rattle.filter_language.specs.declared.step.Step.{Step}
use Rattle.filter_language.specs.declared.step.Step.TheVariants as step
use Rattle.filter_language.specs.Trees.{negated}
use Rattle.filter_language.proofs.StackLemmas.{negated_once}
use Rattle.filter_language.proofs.parser.stack.Stack.negate.Goals as goal

pub loop-self-preserved : goal.loop-self-preserved
loop-self-preserved c = λ frames e is.
    let h = c.loop-self.invariant frames e is in
    let popped = c.loop-self-test.ensures.yes (search rules) in
    let pushed = c.in_ok-push_step.ensures.ok in
    let n =
    negated_once h.0 h.1 c.loop-self.self.steps.items c.push_step.new.self.steps.items c.loop-self.self.levels.items
    c.pop_not.new.self.levels.items c.loop-self.self.open_levels h.3.0 h.3.1 h.3.2 h.3.3 popped.0
    (pushed.2 ∙ ap (λ (list : List Step). list ++ step.Negate ∷ []) c.pop_not.ensures.steps) in
    (n.0, negated h.1, h.2 ∙ n.1, (n.2, pushed.1 ∙ n.3, pushed.0 ∙ popped.1 ∙ n.4, n.5))
