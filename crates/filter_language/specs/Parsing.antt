-- The parser's representation of a state of the grammar.
use Rattle.std.specs.Prelude.{◌≡◌, ◌⊎◌, ℕ, List, [], ◌∷◌, ◌++◌, length, Bool, Option, Some, None, Result, Ok, Err}
use Rattle.filter_tokens.specs.declared.filter_error.FilterErrorKind.{FilterErrorKind}
use Rattle.filter_tokens.specs.declared.filter_error.FilterErrorKind.TheVariants as kind
use Rattle.filter_language.specs.Changes.{state_in}
use Rattle.filter_language.specs.declared.head.Head.{Head}
use Rattle.filter_language.specs.declared.mode.Mode.{Mode}
use Rattle.filter_language.specs.declared.mode.Mode.TheVariants as mode
use Rattle.filter_language.specs.Trees.{Expr}
use Rattle.filter_language.specs.States.{Frame, Reading, State, completed, expression, left_of_and, left_of_or, levels_in, negating, opened}
use Rattle.filter_language.specs.declared.parser.Parser.{Parser}
use Rattle.filter_language.specs.declared.parser.stack.Level.{Level}
use Rattle.filter_language.specs.declared.parser.stack.Level.TheVariants as level
use Rattle.filter_language.specs.declared.parser.stack.Stack.{Stack}
use Rattle.filter_language.specs.declared.step.Step.{Step}
use Rattle.filter_language.specs.declared.step.Step.TheVariants as step
use Rattle.filter_language.specs.Trees.{steps_of}

-- ---- frames

-- The steps of the expressions of frames. The length of an operator's step is set when its right operand is complete.
abbrev pub steps_before : List Frame → List Step
steps_before [] = []
steps_before (expression e ∷ frames) = steps_before frames ++ steps_of e
steps_before (left_of_and e ∷ frames) = (steps_before frames ++ steps_of e) ++ step.SkipIfFalse 0 ∷ []
steps_before (left_of_or e ∷ frames) = (steps_before frames ++ steps_of e) ++ step.SkipIfTrue 0 ∷ []
steps_before (negating ∷ frames) = steps_before frames
steps_before (opened q only ∷ frames) = steps_before frames

-- The levels of frames, from the outside in. An operator's place is that of its step.
abbrev pub levels_of : List Frame → List Level
levels_of [] = []
levels_of (expression e ∷ frames) = levels_of frames
levels_of (left_of_and e ∷ frames) =
    levels_of frames ++ level.Operator (length (steps_before frames ++ steps_of e)) ∷ []
levels_of (left_of_or e ∷ frames) =
    levels_of frames ++ level.Operator (length (steps_before frames ++ steps_of e)) ∷ []
levels_of (negating ∷ frames) = levels_of frames ++ level.Not ∷ []
levels_of (opened q only ∷ frames) = levels_of frames ++ level.Group q only ∷ []

-- The stack holds these frames.
abbrev pub AreFrames : Stack → List Frame → Type 0
AreFrames stack frames =
    (stack.steps.items ≡ steps_before frames) × (stack.levels.items ≡ levels_of frames)
    × (stack.open_levels ≡ levels_in frames)

-- No frame is a complete expression: an operand is expected.
abbrev pub HasNoExpression : List Frame → Type 0
HasNoExpression [] = Unit {0}
HasNoExpression (expression e ∷ frames) = ⊥
HasNoExpression (frame ∷ frames) = HasNoExpression frames

-- The stack holds these frames, and the steps of an operand after them.
abbrev pub IsOperandOf : Stack → List Frame → Expr → Type 0
IsOperandOf stack frames e =
    (stack.steps.items ≡ steps_before frames ++ steps_of e) × (stack.levels.items ≡ levels_of frames)
    × (stack.open_levels ≡ levels_in frames) × HasNoExpression frames

-- The innermost frame is a complete expression after a complete operand, and only then.
abbrev pub IsFrames : Mode → List Frame → Type 0
IsFrames mode.Complete [] = ⊥
IsFrames mode.Complete (expression e ∷ frames) = HasNoExpression frames
IsFrames mode.Complete (frame ∷ frames) = ⊥
IsFrames within frames = HasNoExpression frames

-- A skipping step with another length; other steps stay as they are.
abbrev pub with_skip : Step → ℕ → Step
with_skip (step.SkipIfFalse skipped) len = step.SkipIfFalse len
with_skip (step.SkipIfTrue skipped) len = step.SkipIfTrue len
with_skip other len = other

-- The parenthesis around an expression was closed, or there is none directly around it.
abbrev pub IsClosed : Stack → Expr → List Frame → Option (Option Head × Bool) → Type 0
IsClosed stack e (opened q only ∷ frames) (Some group) =
    (group.0 ≡ q) × (group.1 ≡ only) × AreFrames stack (completed frames e)
IsClosed stack e (opened q only ∷ frames) None = ⊥
IsClosed stack e frames (Some group) = ⊥
IsClosed stack e frames None = Unit {0}

-- ---- states

-- The state that the parser holds, around which are these frames.
abbrev pub state_of : Parser → List Frame → State
state_of parser frames = state_in parser.mode parser.head parser.only_values frames

abbrev pub IsShown : Parser → List Frame → Type 0
IsShown parser frames = AreFrames parser.stack frames × IsFrames parser.mode frames

-- The parser did what a reading says: it holds the next state, or there is this kind of error. It can be out of memory.
abbrev pub IsDone : Parser → Result (Unit {0}) FilterErrorKind → Reading → Type 0
IsDone parser (Ok done) read = (others : List Frame) × IsShown parser others × (read ≡ Ok (state_of parser others))
IsDone parser (Err found) read = (found ≡ kind.Memory) ⊎ (read ≡ Err found)
