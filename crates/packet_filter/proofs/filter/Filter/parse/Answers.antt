use Rattle.std.proofs.Common.{List, ap, subst, sym, ◌∙◌}
use Rattle.std.specs.List.{All}
use Rattle.filter_language.specs.declared.step.Step.{Step}
use Rattle.packet_filter.specs.HostSets.{HasHostSet}
use Rattle.filter_language.specs.Refusals.{IsFilterText}
use Rattle.filter_language.specs.Trees.{steps_of_text, tree_of}
use Rattle.filter_language.proofs.TreeLemmas.{reads_back}
use Rattle.packet_filter.proofs.filter.Filter.parse.Goals as goal

pub invariant_of-result : goal.invariant_of-result
invariant_of-result c =
    let (tree, text, is) = c.in-Ok.ensures.ok in (
      is ∙ sym (ap steps_of_text (ap tree_of is ∙ reads_back tree)),
      subst (λ (steps : List Step). All (HasHostSet steps) c.in-Ok-host_sets.sets.items) c.as_slice.ensures.value
          c.in-Ok-host_sets.ensures,
    )

pub returns-in-Ok-host_sets-clause-ok : goal.returns-in-Ok-host_sets-clause-ok
returns-in-Ok-host_sets-clause-ok c =
    let (tree, text, is) = c.in-Ok.ensures.ok in
    rw (← c.as_bytes.ensures.value)
    (subst (IsFilterText c.as_bytes.result.now) (sym (ap tree_of is ∙ reads_back tree)) text)
