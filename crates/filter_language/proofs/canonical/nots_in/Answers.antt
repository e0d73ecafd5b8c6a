use Rattle.std.proofs.Common.{◌≡◌, List, ◌∷◌, drop, ap}
use Rattle.std.proofs.lemmas.List.{length-drop}
use Rattle.filter_language.specs.declared.step.Step.{Step}
use Rattle.filter_language.specs.declared.step.Step.TheVariants as step
use Rattle.filter_language.specs.Printing.{nots_in}
use Rattle.filter_language.proofs.CanonicalLemmas.{operator_found}
use Rattle.filter_language.proofs.TreeLemmas.{begin_with}
use Rattle.filter_language.proofs.canonical.nots_in.Goals as goal

pub loop-left-preserved-in-SkipIfFalse : goal.loop-left-preserved-in-SkipIfFalse
loop-left-preserved-in-SkipIfFalse c =
    let l = c.loop-left in
    let rest = drop 1 l.left.now in
    let prefix : l.left.now ≡ step.SkipIfFalse c.in-SkipIfFalse.skipped ∷ rest =
    begin_with l.left.now c.step-item.result _ c.in-len1-up.len_at_least c.step-item.is c.in-SkipIfFalse.is in
    operator_found l.left.now rest _ c.in-SkipIfFalse.skipped l.nots.items _ _
    (ap (λ (steps : List Step). nots_in steps 0) prefix) c.split_steps.ensures.later (length-drop 1 l.left.now)
    c.in_ok-push-in-SkipIfFalse.ensures.items l.invariant

pub loop-left-preserved : goal.loop-left-preserved
loop-left-preserved c =
    let l = c.loop-left in
    let rest = drop 1 l.left.now in
    let prefix : l.left.now ≡ step.SkipIfTrue c.in-SkipIfTrue.skipped ∷ rest =
    begin_with l.left.now c.step-item.result _ c.in-len1-up.len_at_least c.step-item.is c.in-SkipIfTrue.is in
    operator_found l.left.now rest _ c.in-SkipIfTrue.skipped l.nots.items _ _
    (ap (λ (steps : List Step). nots_in steps 0) prefix) c.split_steps-in-SkipIfTrue.ensures.later
    (length-drop 1 l.left.now) c.in_ok-push-in-SkipIfTrue.ensures.items l.invariant
