use Rattle.std.proofs.Common.{◌+◌, List, Option, drop, ap, subst, sym, ◌∙◌}
use Rattle.std.specs.List.{All}
use Rattle.std.specs.Option.{IfSome}
use Rattle.std.proofs.lemmas.List.{drop-drop}
use Rattle.std.proofs.lemmas.List.Elements.{All-push}
use Rattle.packet_filter.specs.declared.host_set.HostSet.{HostSet}
use Rattle.filter_language.specs.declared.step.Step.{Step}
use Rattle.packet_filter.specs.HostSets.{BeginsHostSet, HasHostSet}
use Rattle.packet_filter.proofs.host_sets.host_sets.Goals as goal

pub loop-rest-preserved-in-Continue-branch-3 : goal.loop-rest-preserved-in-Continue-branch-3
loop-rest-preserved-in-Continue-branch-3 c =
    let (n, rest_is) = c.loop-rest.invariant.0 in
    let begins : BeginsHostSet c.loop-rest.rest.now c.in-Some.set =
    subst (λ (found : Option HostSet). IfSome found (BeginsHostSet c.loop-rest.rest.now)) c.in-Some.is
    c.in_ok-set.ensures in (
      (
        n + c.in-Some.set.len,
        c.split_steps.ensures.later ∙ ap (λ (steps : List Step). drop c.in-Some.set.len steps) rest_is
            ∙ drop-drop c.in-Some.set.len n c.args.steps.now,
      ),
      subst (λ (sets : List HostSet). All (HasHostSet c.args.steps.now) sets) (sym c.in_ok-push-in-Some.ensures.items)
          (All-push (HasHostSet c.args.steps.now) c.loop-rest.sets.items c.in-Some.set c.loop-rest.invariant.1
          (n, subst (λ (steps : List Step). BeginsHostSet steps c.in-Some.set) rest_is begins)),
    )

pub loop-rest-preserved : goal.loop-rest-preserved
loop-rest-preserved c =
    let (n, rest_is) = c.loop-rest.invariant.0 in (
      (
        n + 1,
        c.split_steps-in-None.ensures.later ∙ ap (λ (steps : List Step). drop 1 steps) rest_is
            ∙ drop-drop 1 n c.args.steps.now,
      ),
      c.loop-rest.invariant.1,
    )
