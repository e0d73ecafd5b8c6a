-- Hex dump: bytes in rows of 16, in hexadecimal and as characters.
use Rattle.std.specs.Prelude.{ℕ, zero, suc, ◌+◌, ◌-◌, ◌*◌, ◌/◌, ◌%◌, ◌&&◌, nat_le, nat_lt, if◌then◌else◌, List, [], ◌∷◌, ◌++◌, codes}
use Rattle.std.specs.Prelude.{length, map, min, replicate, slice_range}
use Rattle.line_io.specs.Lines.{line_feed, space}
use Rattle.packet_text.specs.Addresses.{hex_pair}

-- the start of a row: a line feed, and the offset of its first byte, the lower 24 bits
abbrev pub row_start : ℕ → List ℕ
row_start index =
    line_feed ∷ codes "    " ++ hex_pair (index / 65536 % 256) ++ hex_pair (index / 256 % 256) ++ hex_pair (index % 256)

-- two hexadecimal digits for each byte, each after a space
abbrev pub spaced_text : List ℕ → List ℕ
spaced_text [] = []
spaced_text (byte ∷ bytes) = (space ∷ hex_pair byte) ++ spaced_text bytes

-- the bytes of a row, padded with spaces to 16 bytes
abbrev pub digits_text : List ℕ → List ℕ
digits_text row = spaced_text row ++ replicate (48 - 3 * length row) space

-- a byte as a printable ASCII character, or `.` if it is none
abbrev pub character_of : ℕ → ℕ
character_of byte = if nat_le 32 byte && nat_lt byte 127 then byte else 46

-- the bytes of a row as characters
abbrev pub characters_text : List ℕ → List ℕ
characters_text row = codes "  |" ++ map character_of row ++ codes "|"

-- a row whose first byte is at `index`
abbrev pub row_text : ℕ → List ℕ → List ℕ
row_text index row = row_start index ++ digits_text row ++ characters_text row

-- the bytes of the row that begins at `index`
abbrev pub row_at : List ℕ → ℕ → List ℕ
row_at bytes index = slice_range bytes index (min (length bytes) (index + 16))

-- the first rows of bytes in order
abbrev pub first_rows : List ℕ → ℕ → List ℕ
first_rows bytes zero = []
first_rows bytes (suc row) = first_rows bytes row ++ row_text (16 * row) (row_at bytes (16 * row))

-- all rows
abbrev pub rows_text : List ℕ → List ℕ
rows_text bytes = first_rows bytes ((length bytes + 15) / 16)
