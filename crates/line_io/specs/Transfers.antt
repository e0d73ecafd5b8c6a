-- Bytes that are read and written between two states.
use Rattle.std.specs.Prelude.{ℕ, List, Option}
use Rattle.std.specs.Io.KnownBytes.{Appends, Consumes}
use Rattle.line_io.specs.WatchedWords.{inner_of}
use Rattle.line_io.specs.declared.watched.Watched.{Watched}

-- The bytes that were read from a reader and written to a writer are related by `Related`. The states are the bytes
-- that remain in the reader and the contents of the writer, each before and after. If a reader or a writer does not
-- expose its bytes, any bytes may have been transferred.
abbrev pub Moves : (List ℕ → List ℕ → Type 0) → (remaining next_remaining contents next_contents : Option (List ℕ))
    → Type 0
Moves Related remaining next_remaining contents next_contents =
    (read written : List ℕ) × Consumes remaining next_remaining read × Appends contents next_contents written
    × Related read written

-- Between two states of a watched reader and of a watched writer, the bytes read and the bytes written are related by
-- `Related`.
abbrev pub Transfers : {R W : Type 0} → (List ℕ → List ℕ → Type 0) → (R → Option (List ℕ)) → Watched R → Watched R
    → (W → Option (List ℕ)) → Watched W → Watched W → Type 0
Transfers Related remaining reader next_reader contents writer next_writer =
    Moves Related (remaining (inner_of reader)) (remaining (inner_of next_reader))
    (contents (inner_of writer)) (contents (inner_of next_writer))
