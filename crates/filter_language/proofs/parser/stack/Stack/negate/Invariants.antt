use Rattle.std.proofs.Common.{◌≡◌, List, length}
use Rattle.filter_language.specs.Parsing.{IsOperandOf}
use Rattle.filter_language.specs.States.{Frame, completed}
use Rattle.filter_language.specs.Trees.{Expr}
use Rattle.filter_language.proofs.parser.stack.Stack.negate.Given as goal

-- The operand that is left is completed to the same frames.
abbrev pub invariant-loop-self : goal.invariant-loop-self
invariant-loop-self l =
    (frames : List Frame) (e : Expr) → IsOperandOf l.fn.self frames e
    → (others : List Frame) × (f : Expr) × (completed frames e ≡ completed others f) × IsOperandOf l.self others f

abbrev pub decreases-loop-self : goal.decreases-loop-self
decreases-loop-self l = length l.self.levels.items
