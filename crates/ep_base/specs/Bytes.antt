-- Bytes and big-endian numbers on the wire.
use Rattle.std.specs.Prelude.{ℕ, ◌+◌, ◌*◌, ◌^◌, ◌<◌, Bool, true, false, List, slice_index}

-- each number of the list is a byte
abbrev pub AreBytes : List ℕ → Type 0
AreBytes bytes = (i : ℕ) → slice_index bytes i < 256

-- the big-endian 16 bit number at bytes i and i + 1
abbrev pub word_at : List ℕ → ℕ → ℕ
word_at bytes i = 256 * slice_index bytes i + slice_index bytes (i + 1)

-- the big-endian 32-bit number at index `i`
abbrev pub long_at : List ℕ → ℕ → ℕ
long_at bytes i = 2 ^ 16 * word_at bytes i + word_at bytes (i + 2)

-- a flag as a bit, 0 or 1
abbrev pub bit : Bool → ℕ
bit false = 0
bit true = 1
