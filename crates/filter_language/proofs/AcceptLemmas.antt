-- Lemmas about what the parser holds after a token.
use Rattle.std.proofs.Common.{◌≡◌, ◌⊎◌, inl, inr, ℕ, Bool, List, [], ◌∷◌, Option, Some, Result, Ok, Err, refl, subst, sym, ◌∙◌}
use Rattle.std.specs.Prelude.{MatchResult}
use Rattle.filter_tokens.specs.declared.filter_error.FilterErrorKind.{FilterErrorKind}
use Rattle.filter_tokens.specs.declared.filter_error.FilterErrorKind.TheVariants as kind
use Rattle.filter_tokens.specs.declared.primitive.Primitive.{Primitive}
use Rattle.filter_tokens.specs.Tokens.{Token}
use Rattle.filter_language.specs.declared.head.Head.{Head}
use Rattle.filter_language.specs.declared.mode.Mode.{Mode}
use Rattle.filter_language.specs.declared.mode.Mode.TheVariants as mode
use Rattle.filter_language.specs.declared.parser.Parser.{Parser}
use Rattle.filter_language.specs.declared.change.Change.{Change}
use Rattle.filter_language.specs.declared.parser.stack.Stack.{Stack}
use Rattle.filter_language.specs.Changes.{IsChange, IsWithin, changed, state_in}
use Rattle.filter_language.specs.Parsing.{AreFrames, HasNoExpression, IsDone, IsFrames, IsShown, state_of}
use Rattle.filter_language.specs.States.{Frame, Reads, State, Stops, completed, expression, expression_in, join_frames, left_of_and, left_of_or, negating, opened}
use Rattle.filter_language.specs.Trees.{Expr, steps_of, test}
use Rattle.filter_language.proofs.ParserLemmas.{completed_frames, frames_within}
use Rattle.filter_language.proofs.StackLemmas.{no_last}

-- A primitive that was read completes the operand.
pub appended_frames : (stack after : Stack) (m : Mode) (frames : List Frame) (p : Primitive)
    → AreFrames stack frames → IsFrames m frames → IsWithin m
    → ((list : List Frame) → AreFrames stack list → HasNoExpression list → AreFrames after (completed list (test p)))
    → AreFrames after (completed frames (test p)) × IsFrames mode.Complete (completed frames (test p))
appended_frames stack after m frames p are innermost within appended =
    let none = frames_within m frames within innermost in
    (appended frames are none, completed_frames frames (test p) none)

-- The parser holds the state after an operand that is complete, with these qualifiers in force.
pub completed_parser : (after : Parser) (stack : Stack) (m : Mode) (q : Option Head) (only : Bool)
    (frames : List Frame) (state : State) → after ≡ record { stack = stack; mode = m; head = q; only_values = only }
    → state ≡ state_in mode.Complete q only frames → AreFrames stack frames × IsFrames mode.Complete frames
    → (others : List Frame) × (AreFrames after.stack others × IsFrames mode.Complete others)
    × (mode.Complete ≡ mode.Complete) × (state ≡ state_in mode.Complete after.head after.only_values others)
completed_parser after stack m q only frames state is state_is are =
    subst
    (λ (parser : Parser). (others : List Frame) × (AreFrames parser.stack others × IsFrames mode.Complete others)
    × (mode.Complete ≡ mode.Complete) × (state ≡ state_in mode.Complete parser.head parser.only_values others))
    (sym is) (frames, are, refl, state_is)

-- An operator makes an expression its left operand.
pub joined_frames : (stack after : Stack) (frames : List Frame) (q : Option Head) (only : Bool) (left : Expr → Frame)
    → AreFrames stack frames → IsFrames mode.Complete frames
    → ((inner : List Frame) (e : Expr) → HasNoExpression inner → HasNoExpression (left e ∷ inner))
    → ((inner : List Frame) (e : Expr) → AreFrames stack (expression e ∷ inner) → AreFrames after (left e ∷ inner))
    → (others : List Frame) × (AreFrames after others × HasNoExpression others)
    × (join_frames (state_in mode.Complete q only frames) left frames ≡ Ok (state_in (mode.Operand only) q only others))
joined_frames stack after (expression e ∷ inner) q only left are complete none joined =
    (left e ∷ inner, (joined inner e are, none inner e complete), refl)
joined_frames stack after [] q only left are complete none joined = absurd complete
joined_frames stack after (left_of_and e ∷ inner) q only left are complete none joined = absurd complete
joined_frames stack after (left_of_or e ∷ inner) q only left are complete none joined = absurd complete
joined_frames stack after (negating ∷ inner) q only left are complete none joined = absurd complete
joined_frames stack after (opened q' only' ∷ inner) q only left are complete none joined = absurd complete

-- Without open levels, what was read is an expression.
pub ended_frames : (stack : Stack) (frames : List Frame) → AreFrames stack frames → IsFrames mode.Complete frames
    → stack.levels.items ≡ [] → (e : Expr) × (expression_in frames ≡ Some e) × (stack.steps.items ≡ steps_of e)
ended_frames stack [] are complete empty = absurd complete
ended_frames stack (expression e ∷ []) are complete empty = (e, refl, are.0)
ended_frames stack (expression e ∷ expression f ∷ inner) are complete empty = absurd complete
ended_frames stack (expression e ∷ left_of_and f ∷ inner) are complete empty =
    absurd (no_last _ _ (sym empty ∙ are.1))
ended_frames stack (expression e ∷ left_of_or f ∷ inner) are complete empty =
    absurd (no_last _ _ (sym empty ∙ are.1))
ended_frames stack (expression e ∷ negating ∷ inner) are complete empty = absurd (no_last _ _ (sym empty ∙ are.1))
ended_frames stack (expression e ∷ opened q only ∷ inner) are complete empty =
    absurd (no_last _ _ (sym empty ∙ are.1))
ended_frames stack (left_of_and e ∷ inner) are complete empty = absurd complete
ended_frames stack (left_of_or e ∷ inner) are complete empty = absurd complete
ended_frames stack (negating ∷ inner) are complete empty = absurd complete
ended_frames stack (opened q only ∷ inner) are complete empty = absurd complete

-- The parser that makes the change of a token reads the token.
pub accepted : (most : ℕ) (state : State) (token : Token) (made : Change) (parser : Parser)
    (result : Result (Unit {0}) FilterErrorKind) → IsChange most state token made
    → IsDone parser result (changed most state made token)
    → MatchResult result
    (λ done. (others : List Frame) × IsShown parser others × Reads most state token (state_of parser others))
    (λ found. (found ≡ kind.Memory) ⊎ Stops most state token found)
accepted most state token made parser (Ok done) is (others, shown, read) =
    (others, shown, is.0 (state_of parser others) read)
accepted most state token made parser (Err found) is (inl memory) = inl memory
accepted most state token made parser (Err found) is (inr stopped) = inr (is.1 found stopped)
