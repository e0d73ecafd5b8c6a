-- Filter expressions as trees, and the steps that a filter consists of.
use Rattle.std.specs.Prelude.{ℕ, zero, suc, List, [], ◌∷◌, ◌++◌, length, take, drop, Option, Some, None}
use Rattle.filter_tokens.specs.declared.primitive.Primitive.{Primitive}
use Rattle.filter_language.specs.declared.step.Step.{Step}
use Rattle.filter_language.specs.declared.step.Step.TheVariants as step

-- A filter expression: primitives, joined by `not`, `and` and `or`.
pub data Expr : Type 0 where
  test : Primitive → Expr
  negated : Expr → Expr
  both : Expr → Expr → Expr
  either : Expr → Expr → Expr

-- The steps of an expression. The right operand of `and` or `or` comes after a step that skips it if the left one
-- decides.
abbrev pub steps_of : Expr → List Step
steps_of (test primitive) = step.Test primitive ∷ []
steps_of (negated e) = steps_of e ++ step.Negate ∷ []
steps_of (both e f) = steps_of e ++ step.SkipIfFalse (length (steps_of f)) ∷ steps_of f
steps_of (either e f) = steps_of e ++ step.SkipIfTrue (length (steps_of f)) ∷ steps_of f

-- The steps of the expression of a text, which is empty or has one.
abbrev pub steps_of_text : Option Expr → List Step
steps_of_text None = []
steps_of_text (Some e) = steps_of e

-- The conjunction of two expressions. Without an expression every packet is matched.
abbrev pub both_of : Option Expr → Option Expr → Option Expr
both_of None right = right
both_of (Some e) None = Some e
both_of (Some e) (Some f) = Some (both e f)

-- ---- the expression of steps

-- An expression that ends with an operator on the expression before it, if both are there.
abbrev pub negated_of : Option Expr → Option Expr
negated_of None = None
negated_of (Some e) = Some (negated e)

abbrev pub joined : (Expr → Expr → Expr) → Option Expr → Option Expr → Option Expr
joined operator None right = None
joined operator (Some e) None = None
joined operator (Some e) (Some f) = Some (operator e f)

-- The expression of at most `most` steps. `before` is the expression of the steps before them.
abbrev pub tree_after : (most : ℕ) → Option Expr → List Step → Option Expr
tree_after zero before steps = before
tree_after (suc most) before [] = before
tree_after (suc most) before (step.Test primitive ∷ steps) = tree_after most (Some (test primitive)) steps
tree_after (suc most) before (step.Negate ∷ steps) = tree_after most (negated_of before) steps
tree_after (suc most) before (step.SkipIfFalse skipped ∷ steps) =
    tree_after most (joined both before (tree_after most None (take skipped steps))) (drop skipped steps)
tree_after (suc most) before (step.SkipIfTrue skipped ∷ steps) =
    tree_after most (joined either before (tree_after most None (take skipped steps))) (drop skipped steps)

-- The expression of all steps; none without steps.
abbrev pub tree_of : List Step → Option Expr
tree_of steps = tree_after (length steps) None steps
