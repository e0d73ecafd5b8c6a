-- Lemmas about the lines of a text that is built from parts.
use Rattle.std.proofs.Common.{◌≡◌, ◌≢◌, ℕ, ◌==◌, false, List, [], ◌∷◌, ◌++◌, refl, ap, ◌∙◌, arith}
use Rattle.std.proofs.lemmas.List.Elements.{All-head, All-tail}
use Rattle.line_io.specs.Lines.{IsWithinLine, line_feed, lines_of, onto_first}

-- A byte other than a line feed fails the test for a line feed.
not_ended : (byte : ℕ) → byte ≢ line_feed → (byte == line_feed) ≡ false
not_ended byte other = grind (arith)

-- A byte other than a line feed belongs to the first line.
pub lines_of-onto_first : (byte : ℕ) (rest : List ℕ) → byte ≢ line_feed
    → lines_of (byte ∷ rest) ≡ onto_first byte (lines_of rest)
lines_of-onto_first byte rest other = rw (not_ended byte other) refl

-- A line feed ends the line before it.
pub lines_of-ended : (line rest : List ℕ) → IsWithinLine line
    → lines_of (line ++ line_feed ∷ rest) ≡ line ∷ lines_of rest
lines_of-ended [] rest within = refl
lines_of-ended (byte ∷ line) rest within =
    let other : byte ≢ line_feed = All-head (λ x. x ≢ line_feed) byte line within in
    let tail : IsWithinLine line = All-tail (λ x. x ≢ line_feed) byte line within in
    lines_of-onto_first byte (line ++ line_feed ∷ rest) other ∙ ap (onto_first byte) (lines_of-ended line rest tail)

-- A text without line feed that is not empty is a single line.
pub lines_of-within : (byte : ℕ) (line : List ℕ) → IsWithinLine (byte ∷ line)
    → lines_of (byte ∷ line) ≡ (byte ∷ line) ∷ []
lines_of-within byte [] within = lines_of-onto_first byte [] (All-head (λ x. x ≢ line_feed) byte [] within)
lines_of-within byte (next ∷ line) within =
    let other : byte ≢ line_feed = All-head (λ x. x ≢ line_feed) byte (next ∷ line) within in
    let tail : IsWithinLine (next ∷ line) = All-tail (λ x. x ≢ line_feed) byte (next ∷ line) within in
    lines_of-onto_first byte (next ∷ line) other ∙ ap (onto_first byte) (lines_of-within next line tail)
