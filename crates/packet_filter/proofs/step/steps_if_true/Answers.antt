use Rattle.std.proofs.Common.{◌≡◌, ◌+◌, List, true, drop, refl, ap, ◌∙◌}
use Rattle.std.proofs.lemmas.List.{drop-drop, take_rest}
use Rattle.filter_language.specs.declared.step.Step.{Step}
use Rattle.packet_filter.specs.Running.{value_after}
use Rattle.packet_filter.proofs.StepLemmas.{skips_if_true}
use Rattle.packet_filter.proofs.step.steps_if_true.Goals as goal

pub loop-later-preserved : goal.loop-later-preserved
loop-later-preserved c =
    let skipped = c.in-SkipIfTrue.skipped in
    let later : List Step = c.loop-later.later.now in
    let (n, later_is) = c.loop-later.invariant.0 in
    let next : c.later_steps-later-in-len1-up.result.now ≡ drop skipped (drop 1 later) =
    c.later_steps-later-in-len1-up.ensures ∙ ap (λ (steps : List Step). drop skipped steps) (take_rest later 1) in (
      (
        n + 1 + skipped,
        next ∙ ap (λ (steps : List Step). drop skipped (drop 1 steps)) later_is
            ∙ ap (λ (steps : List Step). drop skipped steps) (drop-drop 1 n c.args.steps.now)
            ∙ drop-drop skipped (n + 1) c.args.steps.now,
      ),
      λ packet. ap (λ (steps : List Step). value_after steps 0 true packet) next
          ∙ skips_if_true later c.step-item.result skipped true packet c.in-len1-up.len_at_least c.step-item.is
          c.in-SkipIfTrue.is refl
          ∙ c.loop-later.invariant.1 packet,
    )
