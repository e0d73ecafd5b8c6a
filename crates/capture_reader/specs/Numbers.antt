-- Numbers of two, four and eight bytes, in the byte order of the machine that wrote them.
use Rattle.std.specs.Prelude.{ℕ, ◌+◌, List, [], ◌∷◌, slice_index}
use Rattle.std.specs.Int.{w16, w32, w64, to_be_bytes, to_le_bytes, from_be_bytes, from_le_bytes}
use Rattle.capture_reader.specs.declared.byte_order.ByteOrder.{ByteOrder}
use Rattle.capture_reader.specs.declared.byte_order.ByteOrder.TheVariants.{Big, Little}

-- the two bytes of a number
unfoldable pub word16 : ByteOrder → ℕ → List ℕ
word16 Big number = to_be_bytes w16 number
word16 Little number = to_le_bytes w16 number

-- the four bytes of a number
unfoldable pub word32 : ByteOrder → ℕ → List ℕ
word32 Big number = to_be_bytes w32 number
word32 Little number = to_le_bytes w32 number

-- the two bytes at index i
abbrev pub two_at : List ℕ → ℕ → List ℕ
two_at bytes i = slice_index bytes i ∷ slice_index bytes (i + 1) ∷ []

-- the four bytes at index i
abbrev pub four_at : List ℕ → ℕ → List ℕ
four_at bytes i =
    slice_index bytes i ∷ slice_index bytes (i + 1) ∷ slice_index bytes (i + 2) ∷ slice_index bytes (i + 3) ∷ []

-- the number in the two bytes at index i
unfoldable pub word16_at : ByteOrder → List ℕ → ℕ → ℕ
word16_at Big bytes i = from_be_bytes w16 (two_at bytes i)
word16_at Little bytes i = from_le_bytes w16 (two_at bytes i)

-- the number in the four bytes at index i
unfoldable pub word32_at : ByteOrder → List ℕ → ℕ → ℕ
word32_at Big bytes i = from_be_bytes w32 (four_at bytes i)
word32_at Little bytes i = from_le_bytes w32 (four_at bytes i)

-- the first eight bytes
abbrev pub eight_of : List ℕ → List ℕ
eight_of bytes =
    slice_index bytes 0 ∷ slice_index bytes 1 ∷ slice_index bytes 2 ∷ slice_index bytes 3 ∷ slice_index bytes 4
    ∷ slice_index bytes 5 ∷ slice_index bytes 6 ∷ slice_index bytes 7 ∷ []

-- the number in the first eight bytes
unfoldable pub word64_of : ByteOrder → List ℕ → ℕ
word64_of Big bytes = from_be_bytes w64 (eight_of bytes)
word64_of Little bytes = from_le_bytes w64 (eight_of bytes)
