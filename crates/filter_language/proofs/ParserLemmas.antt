-- Lemmas about the frames that the parser holds.
use Rattle.std.proofs.Common.{◌≡◌, ℕ, ◌<◌, Bool, List, [], ◌∷◌, Option, Result, Ok, Err, subst, sym, ◌∙◌, arith}
use Rattle.std.proofs.lemmas.Grind.{common_steps}
use Rattle.std.specs.Prelude.{IfOk}
use Rattle.filter_tokens.specs.declared.filter_error.FilterErrorKind.{FilterErrorKind}
use Rattle.filter_tokens.specs.declared.token.TokenKind.{TokenKind}
use Rattle.filter_tokens.specs.declared.token.TokenKind.TheVariants as token_kind
use Rattle.filter_tokens.specs.ShownTokens.{shown_token}
use Rattle.filter_tokens.specs.Tokens.{word}
use Rattle.filter_language.specs.declared.head.Head.{Head}
use Rattle.filter_language.specs.declared.mode.Mode.{Mode}
use Rattle.filter_language.specs.declared.mode.Mode.TheVariants as mode
use Rattle.filter_language.specs.declared.change.Change.{Change}
use Rattle.filter_language.specs.Grammar.{most_levels}
use Rattle.filter_language.specs.Changes.{IsChange, IsWithin, IsWordChange, state_in}
use Rattle.filter_language.specs.Parsing.{HasNoExpression, IsFrames}
use Rattle.filter_language.specs.States.{Frame, ReadsWord, State, completed, expression, left_of_and, left_of_or, levels_in, negating, open_level, opened}
use Rattle.filter_language.specs.Trees.{Expr, negated}

-- While an operand goes on, no frame is a complete expression.
pub frames_within : (m : Mode) (frames : List Frame) → IsWithin m → IsFrames m frames → HasNoExpression frames
frames_within mode.Complete frames within are = absurd within
frames_within m frames within are = are

pub within_frames : (m : Mode) (frames : List Frame) → IsWithin m → HasNoExpression frames → IsFrames m frames
within_frames mode.Complete frames within none = absurd within
within_frames m frames within none = none

-- After an operand, the innermost frame is a complete expression.
pub completed_frames : (frames : List Frame) (e : Expr) → HasNoExpression frames
    → IsFrames mode.Complete (completed frames e)
completed_frames [] e none = tt
completed_frames (expression f ∷ frames) e none = absurd none
completed_frames (left_of_and f ∷ frames) e none = none
completed_frames (left_of_or f ∷ frames) e none = none
completed_frames (negating ∷ frames) e none = completed_frames frames (negated e) none
completed_frames (opened q only ∷ frames) e none = none

-- A level is opened where fewer than the most are open, and else it is too deep.
pub level_opened : (most : ℕ) (state : State) (only : Bool) (frame : Frame) (inside : Bool)
    → levels_in state.frames < most
    → open_level most state only frame inside ≡ Ok (record {
      mode = mode.Operand only;
      head = state.head;
      only_values = inside;
      frames = frame ∷ state.frames;
    })
level_opened most state only frame inside space = grind (arith, common_steps)

-- The change that a word makes leads to the state after it.
word_change_is : (now : Mode) (q : Option Head) (only : Bool) (text : List ℕ) (made : Change)
    → IsWordChange now q text made → (frames : List Frame)
    → IsChange most_levels (state_in now q only frames) (word text) made
word_change_is now q only text made h frames =
    let (found, same, read) = h most_levels only frames (word text) in (
      λ after done.
          let both = sym same ∙ done in
          let is : found ≡ after = cc in subst (λ (s : State). ReadsWord (state_in now q only frames) now text s) is read,
      λ error failed. let both = sym same ∙ failed in absurd cc,
    )

pub words_changed : (result : Result Change FilterErrorKind) (now : Mode) (q : Option Head) (only : Bool) (text : List ℕ)
    (token : TokenKind) → token ≡ token_kind.Word → IfOk result (λ made. IsWordChange now q text made)
    → IfOk result (λ made. (frames : List Frame)
    → IsChange most_levels (state_in now q only frames) (shown_token token text) made)
words_changed (Ok made) now q only text token is h = λ frames.
    subst (λ (k : TokenKind). IsChange most_levels (state_in now q only frames) (shown_token k text) made) (sym is)
    (word_change_is now q only text made h frames)
words_changed (Err found) now q only text token is h = tt
