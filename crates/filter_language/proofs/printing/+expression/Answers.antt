use Rattle.std.proofs.Common.{◌≡◌, ℕ, List, ◌∷◌, ◌++◌, ◌-◌, length, drop, ap, sym, arith, append_assoc, ◌∙◌}
use Rattle.std.proofs.lemmas.Grind.{common_steps}
use Rattle.std.proofs.lemmas.List.{length-drop, take_rest}
use Rattle.filter_language.specs.declared.step.Step.TheVariants as step
use Rattle.filter_language.specs.Printing.{expression_text, openings}
use Rattle.filter_language.proofs.PrintingLemmas.{and_appended, body, body_is, negate_appended, or_appended, steps_of-some, test_appended, text_is}
use Rattle.filter_language.proofs.TreeLemmas.{begin_with, operand_parts}
use Rattle.filter_language.proofs.printing.+expression.Goals as goal

pub append_expression-loop-left-init : goal.append_expression-loop-left-init
append_expression-loop-left-init t c =
    let old = c.args.output.now.items in (
      omega arith,
      λ e is. (
        body e,
        body_is e c.args.steps.now is,
        ap (λ (list : List ℕ). list ++ body e) (c.in_ok-append_openings.ensures e is)
            ∙ append_assoc old (openings e) (body e) ∙ ap (λ (list : List ℕ). old ++ list) (sym (text_is e)),
      ),
    )

pub append_expression-loop-left-preserved-in-Test : goal.append_expression-loop-left-preserved-in-Test
append_expression-loop-left-preserved-in-Test t c =
    let l = c.loop-left in
    let rest = drop 1 l.left.now in
    let prefix : l.left.now ≡ step.Test c.in-Test.primitive ∷ rest =
    begin_with l.left.now c.step-item.result _ c.in-len1-up.len_at_least c.step-item.is c.in-Test.is in (
      omega (arith, l.invariant.0, length-drop 1 l.left.now, ap length (take_rest l.left.now 1)),
      λ e is.
          test_appended l.left.now rest _ c.in-Test.primitive l.ended l.output.items c.append_primitive.new.output.items
          (c.args.output.now.items ++ expression_text e) prefix (take_rest l.left.now 1)
          c.in_ok-append_primitive-in-Test.ensures (l.invariant.1 e is),
    )

pub append_expression-loop-left-preserved-in-Negate : goal.append_expression-loop-left-preserved-in-Negate
append_expression-loop-left-preserved-in-Negate t c =
    let l = c.loop-left in
    let rest = drop 1 l.left.now in
    let prefix : l.left.now ≡ step.Negate ∷ rest =
    begin_with l.left.now c.step-item.result _ c.in-len1-up.len_at_least c.step-item.is c.in-Negate.is in (
      omega (arith, l.invariant.0, length-drop 1 l.left.now, ap length (take_rest l.left.now 1)),
      λ e is.
          negate_appended l.left.now rest _ l.ended l.output.items c.append_closing.new.output.items
          (c.args.output.now.items ++ expression_text e) prefix (take_rest l.left.now 1)
          c.in_ok-append_closing-in-Negate.ensures (l.invariant.1 e is),
    )

pub append_expression-loop-left-preserved-in-SkipIfFalse :
    goal.append_expression-loop-left-preserved-in-SkipIfFalse
append_expression-loop-left-preserved-in-SkipIfFalse t c =
    let l = c.loop-left in
    let parts =
    operand_parts l.left.now _ _ c.step-item.result _ _ c.in-len1-up.len_at_least c.step-item.is c.in-SkipIfFalse.is
    c.split_steps.ensures.first c.split_steps.ensures.later in (
      omega (arith, l.invariant.0, parts.3),
      λ e is.
          and_appended l.left.now _ _ _ _ l.ended l.output.items c.extend_from_slice.new.self.items
          c.append_right.new.output.items (c.args.output.now.items ++ expression_text e) parts.0 parts.1 parts.2
          c.in_ok-extend_from_slice-in-SkipIfFalse.ensures.items (λ f taken. c.in_ok-append_right-in-SkipIfFalse.ensures f taken)
          (l.invariant.1 e is),
    )

pub append_expression-loop-left-preserved :
    goal.append_expression-loop-left-preserved
append_expression-loop-left-preserved t c =
    let l = c.loop-left in
    let parts =
    operand_parts l.left.now _ _ c.step-item.result _ _ c.in-len1-up.len_at_least c.step-item.is c.in-SkipIfTrue.is
    c.split_steps-in-SkipIfTrue.ensures.first c.split_steps-in-SkipIfTrue.ensures.later in (
      omega (arith, l.invariant.0, parts.3),
      λ e is.
          or_appended l.left.now _ _ _ _ l.ended l.output.items c.extend_from_slice-in-SkipIfTrue.new.self.items
          c.append_right-in-SkipIfTrue.new.output.items (c.args.output.now.items ++ expression_text e) parts.0 parts.1 parts.2
          c.in_ok-extend_from_slice-in-SkipIfTrue.ensures.items (λ f taken. c.in_ok-append_right-in-SkipIfTrue.ensures f taken)
          (l.invariant.1 e is),
    )

pub append_expression-returns-then-is_empty-clause-text :
    goal.append_expression-returns-then-is_empty-clause-text
append_expression-returns-then-is_empty-clause-text t c = λ e is.
    absurd (grind (arith, common_steps, steps_of-some e, ap length is))
