use Rattle.std.proofs.Common.{List, drop, true, false, sym, ap, ◌∙◌}
use Rattle.std.proofs.lemmas.List.{take_rest}
use Rattle.filter_language.specs.declared.step.Step.{Step}
use Rattle.filter_language.specs.declared.step.Step.TheVariants as step
use Rattle.filter_language.proofs.PrintingLemmas.{ends, ends_after, ends_at_end, ends_skipped}
use Rattle.filter_language.proofs.TreeLemmas.{begin_with}
use Rattle.filter_language.proofs.printing.ends_with_operator.Goals as goal

pub returns : goal.returns
returns c =
    let l = c.loop-left in
    λ e is.
    sym (ends_at_end l.left.now l.ended c.in_default.len_below) ∙ l.invariant
    ∙ ap (λ (steps : List Step). ends_after steps 0 false) is ∙ ends e false

pub loop-left-preserved-in-SkipIfFalse-1 : goal.loop-left-preserved-in-SkipIfFalse-1
loop-left-preserved-in-SkipIfFalse-1 c =
    let l = c.loop-left in
    let skipped = c.in-SkipIfFalse.skipped in
    ap (λ (list : List Step). ends_after list 0 true)
    (c.split_steps.ensures.later ∙ ap (λ (list : List Step). drop skipped list) (take_rest l.left.now 1))
    ∙ sym (ends_skipped (drop 1 l.left.now) skipped true)
    ∙ sym (ap (λ (list : List Step). ends_after list 0 l.ended)
    (begin_with l.left.now c.step-item.result (step.SkipIfFalse skipped) c.in-len1-up.len_at_least c.step-item.is
    c.in-SkipIfFalse.is))
    ∙ l.invariant

pub loop-left-preserved-in-SkipIfTrue-1 : goal.loop-left-preserved-in-SkipIfTrue-1
loop-left-preserved-in-SkipIfTrue-1 c =
    let l = c.loop-left in
    let skipped = c.in-SkipIfTrue.skipped in
    ap (λ (list : List Step). ends_after list 0 true)
    (c.split_steps-in-SkipIfTrue.ensures.later ∙ ap (λ (list : List Step). drop skipped list) (take_rest l.left.now 1))
    ∙ sym (ends_skipped (drop 1 l.left.now) skipped true)
    ∙ sym (ap (λ (list : List Step). ends_after list 0 l.ended)
    (begin_with l.left.now c.step-item.result (step.SkipIfTrue skipped) c.in-len1-up.len_at_least c.step-item.is
    c.in-SkipIfTrue.is))
    ∙ l.invariant
