-- The steps of both filters are those of the expression of both.
use Rattle.std.proofs.Common.{◌≡◌, List, ap, subst, sym, ◌∙◌}
use Rattle.std.specs.List.{All}
use Rattle.filter_language.specs.declared.step.Step.{Step}
use Rattle.packet_filter.specs.HostSets.{HasHostSet}
use Rattle.filter_language.specs.Trees.{both_of, steps_of_text, tree_of}
use Rattle.filter_language.proofs.TreeLemmas.{both_steps, reads_back}
use Rattle.packet_filter.proofs.filter.Filter.both.Goals as goal

pub invariant_of-result : goal.invariant_of-result
invariant_of-result c =
    let made : c.in_ok-steps.steps.items
    ≡ steps_of_text (both_of (tree_of c.self.inside.steps.items) (tree_of c.other.inside.steps.items)) =
    c.in_ok-steps.ensures
    ∙ both_steps (tree_of c.self.inside.steps.items) (tree_of c.other.inside.steps.items) c.self.inside.steps.items
    c.other.inside.steps.items c.self.invariant.0 c.other.invariant.0
    (rw c.self.view_is (sym c.is_empty-2.ensures ∙ c.if-is_empty-2.false))
    (rw c.other.view_is (sym c.is_empty.ensures ∙ c.if-is_empty.false)) in (
      made ∙ ap steps_of_text (sym (ap tree_of made
          ∙ reads_back (both_of (tree_of c.self.inside.steps.items) (tree_of c.other.inside.steps.items)))),
      subst (λ (steps : List Step). All (HasHostSet steps) c.in_ok-sets.sets.items) c.as_slice.ensures.value
          c.in_ok-sets.ensures,
    )

pub returns : goal.returns
returns c =
    let made : c.in_ok-steps.steps.items
    ≡ steps_of_text (both_of (tree_of c.self.inside.steps.items) (tree_of c.other.inside.steps.items)) =
    c.in_ok-steps.ensures
    ∙ both_steps (tree_of c.self.inside.steps.items) (tree_of c.other.inside.steps.items) c.self.inside.steps.items
    c.other.inside.steps.items c.self.invariant.0 c.other.invariant.0
    (rw c.self.view_is (sym c.is_empty-2.ensures ∙ c.if-is_empty-2.false))
    (rw c.other.view_is (sym c.is_empty.ensures ∙ c.if-is_empty.false)) in
    rw (← c.self.view_is, ← c.other.view_is) (ap tree_of made
    ∙ reads_back (both_of (tree_of c.self.inside.steps.items) (tree_of c.other.inside.steps.items)))
