use Rattle.std.proofs.Common.{◌≡◌, ℕ, List, ◌∷◌, drop, length, Some, None, ap, sym, arith, ◌∙◌}
use Rattle.std.proofs.lemmas.List.{length-drop, take_rest}
use Rattle.filter_language.specs.declared.step.Step.{Step}
use Rattle.filter_language.specs.declared.step.Step.TheVariants as step
use Rattle.filter_language.proofs.PrintingLemmas.{last_after, last_at_end, last_skipped, opened}
use Rattle.filter_language.proofs.TreeLemmas.{begin_with}
use Rattle.filter_language.proofs.printing.find_last_not.Goals as goal

pub returns-in-Some-clause-place : goal.returns-in-Some-clause-place
returns-in-Some-clause-place c =
    let l = c.loop-left in
    λ e is.
    opened e c.args.steps.now (Some c.in-Some.len) is
    (sym c.in-Some.is ∙ sym (last_at_end l.left.now l.last c.in_default.len_below) ∙ l.invariant.0)

pub returns-in-None-clause-place : goal.returns-in-None-clause-place
returns-in-None-clause-place c =
    let l = c.loop-left in
    λ e is.
    opened e c.args.steps.now None is
    (sym c.in-None.is ∙ sym (last_at_end l.left.now l.last c.in_default.len_below) ∙ l.invariant.0)

pub loop-left-preserved-in-Test : goal.loop-left-preserved-in-Test
loop-left-preserved-in-Test c =
    let l = c.loop-left in
    let rest = drop 1 l.left.now in
    let prefix : l.left.now ≡ step.Test c.in-Test.field-0 ∷ rest =
    begin_with l.left.now c.step-item.result _ c.in-len1-up.len_at_least c.step-item.is c.in-Test.is in (
      ap (λ (list : List Step). last_after list 0 l.last) (take_rest l.left.now 1)
          ∙ sym (ap (λ (list : List Step). last_after list 0 l.last) prefix) ∙ l.invariant.0,
      omega (arith, l.invariant.1, length-drop 1 l.left.now, ap length (take_rest l.left.now 1)),
      l.invariant.2,
    )

pub loop-left-preserved-in-Negate : goal.loop-left-preserved-in-Negate
loop-left-preserved-in-Negate c =
    let l = c.loop-left in
    let rest = drop 1 l.left.now in
    let prefix : l.left.now ≡ step.Negate ∷ rest =
    begin_with l.left.now c.step-item.result _ c.in-len1-up.len_at_least c.step-item.is c.in-Negate.is in (
      ap (λ (list : List Step). last_after list 0 (Some (length l.left.now))) (take_rest l.left.now 1)
          ∙ ap (λ (len : ℕ). last_after rest 0 (Some len)) (ap length prefix)
          ∙ sym (ap (λ (list : List Step). last_after list 0 l.last) prefix) ∙ l.invariant.0,
      omega (arith, l.invariant.1, length-drop 1 l.left.now, ap length (take_rest l.left.now 1)),
      (omega (arith, c.in-len1-up.len_at_least), omega (arith, l.invariant.1)),
    )

pub loop-left-preserved-in-SkipIfFalse : goal.loop-left-preserved-in-SkipIfFalse
loop-left-preserved-in-SkipIfFalse c =
    let l = c.loop-left in
    let rest = drop 1 l.left.now in
    let prefix : l.left.now ≡ step.SkipIfFalse c.in-SkipIfFalse.skipped ∷ rest =
    begin_with l.left.now c.step-item.result _ c.in-len1-up.len_at_least c.step-item.is c.in-SkipIfFalse.is in
    let later : c.split_steps.result.1.now ≡ drop c.in-SkipIfFalse.skipped rest =
    c.split_steps.ensures.later
    ∙ ap (λ (list : List Step). drop c.in-SkipIfFalse.skipped list) (take_rest l.left.now 1) in (
      ap (λ (list : List Step). last_after list 0 l.last) later
          ∙ sym (last_skipped rest c.in-SkipIfFalse.skipped l.last)
          ∙ sym (ap (λ (list : List Step). last_after list 0 l.last) prefix) ∙ l.invariant.0,
      omega (arith, l.invariant.1, length-drop 1 l.left.now, length-drop c.in-SkipIfFalse.skipped rest, ap length later),
      l.invariant.2,
    )

pub loop-left-preserved : goal.loop-left-preserved
loop-left-preserved c =
    let l = c.loop-left in
    let rest = drop 1 l.left.now in
    let prefix : l.left.now ≡ step.SkipIfTrue c.in-SkipIfTrue.skipped ∷ rest =
    begin_with l.left.now c.step-item.result _ c.in-len1-up.len_at_least c.step-item.is c.in-SkipIfTrue.is in
    let later : c.split_steps-in-SkipIfTrue.result.1.now ≡ drop c.in-SkipIfTrue.skipped rest =
    c.split_steps-in-SkipIfTrue.ensures.later
    ∙ ap (λ (list : List Step). drop c.in-SkipIfTrue.skipped list) (take_rest l.left.now 1) in (
      ap (λ (list : List Step). last_after list 0 l.last) later
          ∙ sym (last_skipped rest c.in-SkipIfTrue.skipped l.last)
          ∙ sym (ap (λ (list : List Step). last_after list 0 l.last) prefix) ∙ l.invariant.0,
      omega (arith, l.invariant.1, length-drop 1 l.left.now, length-drop c.in-SkipIfTrue.skipped rest, ap length later),
      l.invariant.2,
    )
