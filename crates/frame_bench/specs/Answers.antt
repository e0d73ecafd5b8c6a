-- The answers to the lines of a text. The answer to a line depends on the lines before it.
use Rattle.std.specs.Prelude.{◌≡◌, ℕ, ◌⊎◌, List, [], ◌∷◌, ◌++◌, codes}
use Rattle.line_io.specs.Lines.{line_feed, lines_of}
use Rattle.frame_bench.specs.LineCalls.{PoolHistory, IsHistory}
use Rattle.frame_bench.specs.Replies.{IsReply}
use Rattle.frame_bench.specs.Requests.{Asks}
use Rattle.frame_bench.specs.declared.requests.Request.{Request}

-- Holds if this is the reply to a request with these bytes, on the pool after some lines.
abbrev pub IsReplyAfter : List (List ℕ) → Request → List ℕ → List ℕ → Type 0
IsReplyAfter before request bytes reply =
    (history : PoolHistory) × IsHistory before history × IsReply history request bytes reply

-- Holds if this is the answer to a line after others: the reply to its request, or `err line` if it is none.
abbrev pub IsAnswer : List (List ℕ) → List ℕ → List ℕ → Type 0
IsAnswer before line answer =
    ((request : Request) × (bytes : List ℕ) × Asks line request bytes × IsReplyAfter before request bytes answer)
    ⊎ (((request : Request) (bytes : List ℕ) → Asks line request bytes → ⊥) × (answer ≡ codes "err line"))

-- Holds if the text is the answers to these lines, after some others, in order, each in a line of its own.
abbrev pub AreAnswers : List (List ℕ) → List (List ℕ) → List ℕ → Type 0
AreAnswers before [] text = text ≡ []
AreAnswers before (line ∷ lines) text =
    (answer rest : List ℕ) × IsAnswer before line answer × (text ≡ answer ++ line_feed ∷ rest)
    × AreAnswers (before ++ (line ∷ [])) lines rest

-- Holds if the output is the answers to the lines of the input, after some others.
abbrev pub AnswersAfter : List (List ℕ) → List ℕ → List ℕ → Type 0
AnswersAfter before input output = AreAnswers before (lines_of input) output

-- Holds if the output is a start of the answers to the lines of the input, after some others.
abbrev pub BeginsAnswersAfter : List (List ℕ) → List ℕ → List ℕ → Type 0
BeginsAnswersAfter before input output = (rest : List ℕ) × AnswersAfter before input (output ++ rest)

-- Holds if the output is the answers to the lines of the input.
abbrev pub AnswersTo : List ℕ → List ℕ → Type 0
AnswersTo input output = AnswersAfter [] input output

-- Holds if the output is a start of the answers to the lines of the input.
abbrev pub BeginsAnswersTo : List ℕ → List ℕ → Type 0
BeginsAnswersTo input output = BeginsAnswersAfter [] input output

-- Holds if an input has exactly one output, after some lines.
pub record IsAnswered (before : List (List ℕ)) (input : List ℕ) : Type 0 where
  pub some : (output : List ℕ) × AnswersAfter before input output
  pub one : (output other : List ℕ) → AnswersAfter before input output → AnswersAfter before input other
      → output ≡ other
