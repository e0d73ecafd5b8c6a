-- Answers that are written while input is read.
use Rattle.std.specs.Prelude.{◌≡◌, ℕ, List, ◌++◌}
use Rattle.etherparse.specs.Types.IpDefragPool.{IpDefragPool}
use Rattle.line_io.specs.Lines.{lines_of, IsWithinLine}
use Rattle.frame_bench.specs.Answers.{AreAnswers, BeginsAnswersAfter}
use Rattle.frame_bench.specs.LineCalls.{HoldsLines}

-- Holds if, after some complete lines and the start of a line, a chunk of input has these answers to the lines that end
-- within it, and leaves this start of the next line.
pub record Advances (before : List (List ℕ)) (begun piece answers next : List ℕ) : Type 0 where
  pub ended : List (List ℕ)
  pub answered : AreAnswers before ended answers
  pub parted : (more : List ℕ) → lines_of ((begun ++ piece) ++ more) ≡ ended ++ lines_of (next ++ more)
  pub within : IsWithinLine next

-- Holds if `Advances` holds and the pool is then in the state after all complete lines.
abbrev pub AdvancesTo : List (List ℕ) → (begun piece answers next : List ℕ) → IpDefragPool ℕ ℕ → Type 0
AdvancesTo before begun piece answers next pool =
    (advances : Advances before begun piece answers next) × HoldsLines (before ++ advances.ended) pool

-- Holds if the text is a start of the answers to the chunk.
abbrev pub BeginsAnswers : List (List ℕ) → List ℕ → List ℕ → List ℕ → Type 0
BeginsAnswers before begun piece text = BeginsAnswersAfter before (begun ++ piece) text
