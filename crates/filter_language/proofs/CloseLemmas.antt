-- Lemmas about `)` after an operand.
use Rattle.std.proofs.Common.{◌≡◌, Bool, List, [], ◌∷◌, Option, Some, Ok, subst, sym}
use Rattle.filter_language.specs.declared.head.Head.{Head}
use Rattle.filter_language.specs.declared.mode.Mode.TheVariants as mode
use Rattle.filter_language.specs.declared.parser.stack.Stack.{Stack}
use Rattle.filter_language.specs.Changes.{state_in}
use Rattle.filter_language.specs.Parsing.{AreFrames, HasNoExpression, IsClosed, IsFrames}
use Rattle.filter_language.specs.States.{Frame, close_frames, completed, expression, opened}
use Rattle.filter_language.specs.Trees.{Expr}
use Rattle.filter_language.proofs.ParserLemmas.{completed_frames}

-- The parenthesis that was closed is an operand of the frames around it.
pub closed_frames : (stack after : Stack) (frames : List Frame) (q : Option Head) (only : Bool)
    (found : Option (Option Head × Bool)) → found ≡ Some (q, only) → AreFrames stack frames
    → IsFrames mode.Complete frames
    → ((inner : List Frame) (e : Expr) → AreFrames stack (expression e ∷ inner) → HasNoExpression inner
    → IsClosed after e inner found)
    → (others : List Frame) × (AreFrames after others × IsFrames mode.Complete others)
    × (close_frames frames ≡ Ok (state_in mode.Complete q only others))
closed_frames stack after [] q only found is are complete closed = absurd complete
closed_frames stack after (expression e ∷ opened q' only' ∷ frames) q only found is are complete closed =
    let present : IsClosed after e (opened q' only' ∷ frames) (Some (q, only)) =
    subst (λ (group : Option (Option Head × Bool)). IsClosed after e (opened q' only' ∷ frames) group) is
    (closed (opened q' only' ∷ frames) e are complete) in (
      completed frames e,
      (present.2, completed_frames frames e complete),
      λ i. Ok (state_in mode.Complete (sym present.0 i) (sym present.1 i) (completed frames e)),
    )
closed_frames stack after (expression e ∷ inner) q only found is are complete closed =
    absurd (subst (λ (group : Option (Option Head × Bool)). IsClosed after e inner group) is (closed inner e are complete))
closed_frames stack after (frame ∷ frames) q only found is are complete closed = absurd complete
