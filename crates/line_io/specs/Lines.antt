-- The lines of a text, and the words of a line.
use Rattle.std.specs.Prelude.{◌≢◌, ℕ, ◌==◌, if◌then◌else◌, List, [], ◌∷◌, ◌++◌, All}

-- the byte that ends a line
abbrev pub line_feed : ℕ
line_feed = 10

-- the byte between two words
abbrev pub space : ℕ
space = 32

-- the lines with a byte added to the start of the first line
abbrev pub onto_first : ℕ → List (List ℕ) → List (List ℕ)
onto_first byte [] = (byte ∷ []) ∷ []
onto_first byte (line ∷ lines) = (byte ∷ line) ∷ lines

-- the lines of a text, without the line feed at the end of each; a last line without line feed counts if it is not
-- empty
abbrev pub lines_of : List ℕ → List (List ℕ)
lines_of [] = []
lines_of (byte ∷ rest) = if byte == line_feed then [] ∷ lines_of rest else onto_first byte (lines_of rest)

-- words in one line, separated by single spaces
abbrev pub words : List (List ℕ) → List ℕ
words [] = []
words (word ∷ []) = word
words (word ∷ next ∷ rest) = word ++ space ∷ words (next ∷ rest)

-- the text contains no line feed
abbrev pub IsWithinLine : List ℕ → Type 0
IsWithinLine text = All (λ byte. byte ≢ line_feed) text
