use Rattle.std.proofs.Common.{◌≡◌, ◌∷◌, ◌++◌, ◌-◌, length, drop, ap, arith}
use Rattle.std.proofs.lemmas.List.{length-drop, take_rest}
use Rattle.filter_language.specs.declared.step.Step.TheVariants as step
use Rattle.filter_language.specs.Printing.{canonical}
use Rattle.filter_language.proofs.CanonicalLemmas.{and_appended, negate_appended, or_appended, starts_appended, test_appended}
use Rattle.filter_language.proofs.TreeLemmas.{begin_with, operand_parts}
use Rattle.filter_language.proofs.canonical.+canonical.Goals as goal

pub append_canonical-loop-left-init : goal.append_canonical-loop-left-init
append_canonical-loop-left-init t c = (
  omega arith,
  λ tree is. starts_appended tree c.args.steps.now c.args.output.now.items _ is c.in_ok-append_starts.ensures,
)

pub append_canonical-loop-left-preserved-in-Test : goal.append_canonical-loop-left-preserved-in-Test
append_canonical-loop-left-preserved-in-Test t c =
    let l = c.loop-left in
    let rest = drop 1 l.left.now in
    let prefix : l.left.now ≡ step.Test c.in-Test.primitive ∷ rest =
    begin_with l.left.now c.step-item.result _ c.in-len1-up.len_at_least c.step-item.is c.in-Test.is in (
      omega (arith, l.invariant.0, length-drop 1 l.left.now, ap length (take_rest l.left.now 1)),
      λ tree is.
          test_appended l.left.now rest _ c.in-Test.primitive l.output.items c.append_primitive.new.output.items
          (c.args.output.now.items ++ canonical tree) prefix (take_rest l.left.now 1)
          c.in_ok-append_primitive-in-Test.ensures (l.invariant.1 tree is),
    )

pub append_canonical-loop-left-preserved-in-Negate : goal.append_canonical-loop-left-preserved-in-Negate
append_canonical-loop-left-preserved-in-Negate t c =
    let l = c.loop-left in
    let rest = drop 1 l.left.now in
    let prefix : l.left.now ≡ step.Negate ∷ rest =
    begin_with l.left.now c.step-item.result _ c.in-len1-up.len_at_least c.step-item.is c.in-Negate.is in (
      omega (arith, l.invariant.0, length-drop 1 l.left.now, ap length (take_rest l.left.now 1)),
      λ tree is.
          negate_appended l.left.now rest _ l.output.items c.extend_from_slice.new.self.items
          (c.args.output.now.items ++ canonical tree) prefix (take_rest l.left.now 1)
          c.in_ok-extend_from_slice-in-Negate.ensures.items (l.invariant.1 tree is),
    )

pub append_canonical-loop-left-preserved-in-SkipIfFalse : goal.append_canonical-loop-left-preserved-in-SkipIfFalse
append_canonical-loop-left-preserved-in-SkipIfFalse t c =
    let l = c.loop-left in
    let parts =
    operand_parts l.left.now _ _ c.step-item.result _ _ c.in-len1-up.len_at_least c.step-item.is c.in-SkipIfFalse.is
    c.split_steps.ensures.first c.split_steps.ensures.later in (
      omega (arith, l.invariant.0, parts.3),
      λ tree is.
          and_appended l.left.now _ _ _ _ l.output.items c.append_right_operand.new.output.items
          (c.args.output.now.items ++ canonical tree) parts.0 parts.1 parts.2
          (λ right taken. c.in_ok-append_right_operand-in-SkipIfFalse.ensures right taken) (l.invariant.1 tree is),
    )

pub append_canonical-loop-left-preserved : goal.append_canonical-loop-left-preserved
append_canonical-loop-left-preserved t c =
    let l = c.loop-left in
    let parts =
    operand_parts l.left.now _ _ c.step-item.result _ _ c.in-len1-up.len_at_least c.step-item.is c.in-SkipIfTrue.is
    c.split_steps-in-SkipIfTrue.ensures.first c.split_steps-in-SkipIfTrue.ensures.later in (
      omega (arith, l.invariant.0, parts.3),
      λ tree is.
          or_appended l.left.now _ _ _ _ l.output.items c.append_right_operand-in-SkipIfTrue.new.output.items
          (c.args.output.now.items ++ canonical tree) parts.0 parts.1 parts.2
          (λ right taken. c.in_ok-append_right_operand-in-SkipIfTrue.ensures right taken) (l.invariant.1 tree is),
    )
