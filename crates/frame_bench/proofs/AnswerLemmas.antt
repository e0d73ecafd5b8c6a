-- Each input has exactly one output.
use Rattle.std.proofs.Common.{◌≡◌, ◌⊎◌, inl, inr, ℕ, List, [], ◌∷◌, ◌++◌}
use Rattle.std.proofs.Common.{refl, sym, ap, ◌∙◌, subst}
use Rattle.std.specs.Prelude.{codes}
use Rattle.etherparse.specs.Bytes.{AreBytes}
use Rattle.etherparse.specs.Tables.{IsDecided}
use Rattle.etherparse.specs.Calls.{drops_streams}
use Rattle.etherparse.specs.Types.SliceError.{SliceError}
use Rattle.etherparse.specs.Frame.{IsFrame}
use Rattle.etherparse.specs.Layers.{Layers}
use Rattle.etherparse.specs.FrameRefusals.{RefusesFrame}
use Rattle.etherparse.specs.Types.Entry.{Entry}
use Rattle.line_io.specs.Lines.{line_feed, lines_of}
use Rattle.frame_bench.specs.Answers.{AreAnswers, IsAnswer, IsAnswered, IsReplyAfter}
use Rattle.frame_bench.specs.LineCalls.{PoolHistory, new_pool, with_call, IsAfterLine, IsAfterLines, IsHistory}
use Rattle.frame_bench.specs.LineCalls.{IsAfterRequest, frame_call}
use Rattle.frame_bench.specs.PoolReplies.{call_reply}
use Rattle.frame_bench.specs.Replies.{IsReply}
use Rattle.frame_bench.specs.Requests.{Asks}
use Rattle.frame_bench.specs.SliceReplies.{layers_text, refusal_text}
use Rattle.frame_bench.specs.declared.requests.Request.{Request}
use Rattle.frame_bench.specs.declared.requests.Request.TheVariants.{Slice, Fragment, Drop, Limit}
use Rattle.frame_bench.proofs.AskLemmas.{ask_bytes, ask_cases, ask_one}

-- Holds if exactly one value has the property.
pub record HasOne {X : Type 0} (P : X → Type 0) : Type 0 where
  pub some : (x : X) × P x
  pub one : (x y : X) → P x → P y → x ≡ y

-- Exactly one value is equal to a value.
HasOne-is : {X : Type 0} (value : X) → HasOne (λ x. x ≡ value)
HasOne-is value = record { some = (value, refl); one = λ x y a b. a ∙ sym b }

-- Exactly one value is determined by another if that one is determined.
HasOne-by : {X Y : Type 0} (P : Y → Type 0) (Q : Y → X → Type 0) → HasOne P → ((y : Y) → HasOne (Q y))
    → HasOne (λ x. (y : Y) × P y × Q y x)
HasOne-by P Q reported each = record {
  some = (((each reported.some.0).some).0, (reported.some.0, reported.some.1, ((each reported.some.0).some).1));
  one = λ x z a b.
      (each a.0).one x z a.2 (subst (λ y. Q y z) (sym (reported.one a.0 b.0 a.1 b.1)) b.2);
}

-- Holds if the value is that of the frame that the bytes are, or that of the error that rejects them.
abbrev IsReportedOf : {X : Type 0} → Entry → List ℕ → (Layers → X) → (SliceError → X) → X → Type 0
IsReportedOf entry bytes of_layers of_error x =
    ((layers : Layers) × IsFrame entry bytes layers × (x ≡ of_layers layers))
    ⊎ ((error : SliceError) × RefusesFrame entry bytes error × (x ≡ of_error error))

answer_is_unique : {X : Type 0} (entry : Entry) (bytes : List ℕ) (of_layers : Layers → X) (of_error : SliceError → X)
    → IsDecided (IsFrame entry bytes) (RefusesFrame entry bytes)
    → (x y : X) → IsReportedOf entry bytes of_layers of_error x → IsReportedOf entry bytes of_layers of_error y → x ≡ y
answer_is_unique entry bytes of_layers of_error frame x y (inl a) (inl b) =
    a.2 ∙ ap of_layers (frame.one_value a.0 b.0 a.1 b.1) ∙ sym b.2
answer_is_unique entry bytes of_layers of_error frame x y (inl a) (inr b) = absurd (frame.not_both a.0 b.0 a.1 b.1)
answer_is_unique entry bytes of_layers of_error frame x y (inr a) (inl b) = absurd (frame.not_both b.0 a.0 b.1 a.1)
answer_is_unique entry bytes of_layers of_error frame x y (inr a) (inr b) =
    a.2 ∙ ap of_error (frame.one_error a.0 b.0 a.1 b.1) ∙ sym b.2

HasOne-reported : {X : Type 0} (entry : Entry) (bytes : List ℕ) (of_layers : Layers → X) (of_error : SliceError → X)
    → IsDecided (IsFrame entry bytes) (RefusesFrame entry bytes)
    → HasOne (IsReportedOf entry bytes of_layers of_error)
HasOne-reported entry bytes of_layers of_error frame = record {
  some =
      elim frame.some [
        | inl layers ↦ (of_layers layers.0, inl (layers.0, layers.1, refl))
        | inr error ↦ (of_error error.0, inr (error.0, error.1, refl))
      ];
  one = answer_is_unique entry bytes of_layers of_error frame;
}

-- Holds if the value is that of a line's request, or the default if the line is none.
abbrev IsAsked : {X : Type 0} → List ℕ → (Request → List ℕ → X → Type 0) → X → X → Type 0
IsAsked line Says else x =
    ((request : Request) × (bytes : List ℕ) × Asks line request bytes × Says request bytes x)
    ⊎ (((request : Request) (bytes : List ℕ) → Asks line request bytes → ⊥) × (x ≡ else))

module _ {X : Type 0} (line : List ℕ) (Says : Request → List ℕ → X → Type 0) (else : X)
    (each : (request : Request) (bytes : List ℕ) → AreBytes bytes → HasOne (Says request bytes)) where
  asked_some : (x : X) × IsAsked line Says else x
  asked_some =
      elim (ask_cases line) [
        | inl asked ↦
            let found = (each asked.0 asked.1 (ask_bytes line asked.0 asked.1 asked.2)).some in
            (found.0, inl (asked.0, asked.1, asked.2, found.1))
        | inr none ↦ (else, inr (none, refl))
      ]

  asked_one : (x y : X) → IsAsked line Says else x → IsAsked line Says else y → x ≡ y
  asked_one x y (inl a) (inl b) =
      let same = ask_one line a.0 b.0 a.1 b.1 a.2 b.2 in
      let other =
      subst (λ (r : Request). Says r a.1 y) (sym same.0) (subst (λ (t : List ℕ). Says b.0 t y) (sym same.1) b.3) in
      (each a.0 a.1 (ask_bytes line a.0 a.1 a.2)).one x y a.3 other
  asked_one x y (inl a) (inr b) = absurd (b.0 a.0 a.1 a.2)
  asked_one x y (inr a) (inl b) = absurd (a.0 b.0 b.1 b.2)
  asked_one x y (inr a) (inr b) = a.1 ∙ sym b.1

  HasOne-asked : HasOne (IsAsked line Says else)
  HasOne-asked = record { some = asked_some; one = asked_one }

module _ (decided : (entry : Entry) (bytes : List ℕ) → AreBytes bytes
    → IsDecided (IsFrame entry bytes) (RefusesFrame entry bytes)) where
  -- A request has exactly one history after it, and exactly one reply.
  after_request : (before : PoolHistory) (request : Request) (bytes : List ℕ) → AreBytes bytes
      → HasOne (IsAfterRequest before request bytes)
  after_request before (Slice entry) bytes are = HasOne-is before
  after_request before (Fragment entry timestamp channel) bytes are =
      HasOne-reported entry bytes (λ layers. with_call before (frame_call layers timestamp channel)) (λ error. before)
      (decided entry bytes are)
  after_request before (Drop timestamp) bytes are = HasOne-is (with_call before (drops_streams timestamp))
  after_request before (Limit max) bytes are = HasOne-is (new_pool max)

  request_reply : (history : PoolHistory) (request : Request) (bytes : List ℕ) → AreBytes bytes
      → HasOne (IsReply history request bytes)
  request_reply history (Slice entry) bytes are =
      HasOne-reported entry bytes layers_text refusal_text (decided entry bytes are)
  request_reply history (Fragment entry timestamp channel) bytes are =
      HasOne-reported entry bytes (λ layers. call_reply history (frame_call layers timestamp channel)) refusal_text
      (decided entry bytes are)
  request_reply history (Drop timestamp) bytes are = HasOne-is (call_reply history (drops_streams timestamp))
  request_reply history (Limit max) bytes are = HasOne-is (codes "ok")

  -- A line has exactly one history after it, and so do lines.
  after_line : (before : PoolHistory) (line : List ℕ) → HasOne (IsAfterLine before line)
  after_line before line = HasOne-asked line (IsAfterRequest before) before (after_request before)

  after_some : (before : PoolHistory) (lines : List (List ℕ))
      → (after : PoolHistory) × IsAfterLines before lines after
  after_some before [] = (before, refl)
  after_some before (line ∷ lines) =
      let next = (after_line before line).some in
      let rest = after_some next.0 lines in
      (rest.0, (next.0, next.1, rest.1))

  after_one : (before : PoolHistory) (lines : List (List ℕ)) (a b : PoolHistory) → IsAfterLines before lines a
      → IsAfterLines before lines b → a ≡ b
  after_one before [] a b x y = x ∙ sym y
  after_one before (line ∷ lines) a b x y =
      let same = (after_line before line).one x.0 y.0 x.1 y.1 in
      after_one x.0 lines a b x.2 (subst (λ (h : PoolHistory). IsAfterLines h lines b) (sym same) y.2)

  -- A line has exactly one answer.
  line_answer : (before : List (List ℕ)) (line : List ℕ) → HasOne (IsAnswer before line)
  line_answer before line =
      HasOne-asked line (IsReplyAfter before) (codes "err line")
      (λ request bytes are.
      HasOne-by (IsHistory before) (λ history. IsReply history request bytes)
      (record { some = after_some (new_pool 65535) before; one = after_one (new_pool 65535) before })
      (λ history. request_reply history request bytes are))

  -- Lines have answers.
  answers_some : (before lines : List (List ℕ)) → (text : List ℕ) × AreAnswers before lines text
  answers_some before [] = ([], refl)
  answers_some before (line ∷ lines) =
      let first = (line_answer before line).some in
      let rest = answers_some (before ++ (line ∷ [])) lines in
      (first.0 ++ line_feed ∷ rest.0, (first.0, rest.0, first.1, refl, rest.1))

  -- Lines have no other answers.
  answers_one : (before lines : List (List ℕ)) (a b : List ℕ) → AreAnswers before lines a → AreAnswers before lines b
      → a ≡ b
  answers_one before [] a b x y = x ∙ sym y
  answers_one before (line ∷ lines) a b x y =
      let first = (line_answer before line).one x.0 y.0 x.2 y.2 in
      let rest = answers_one (before ++ (line ∷ [])) lines x.1 y.1 x.4 y.4 in
      x.3 ∙ rw (first, rest) (sym y.3)

  -- An input has exactly one output.
  pub answered : (before : List (List ℕ)) (input : List ℕ) → IsAnswered before input
  answered before input = record {
    some = answers_some before (lines_of input);
    one = answers_one before (lines_of input);
  }
