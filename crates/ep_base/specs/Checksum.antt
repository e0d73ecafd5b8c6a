-- The Internet checksum of a list of bytes (RFC 1071; RFC 768; RFC 791, 3.1).
use Rattle.std.specs.Prelude.{ℕ, zero, suc, ◌+◌, ◌-◌, ◌*◌, ◌%◌, List, [], ◌∷◌}

-- the sum of the big-endian 16 bit words; an odd last byte is the upper half of a word
abbrev pub word_sum : List ℕ → ℕ
word_sum [] = 0
word_sum (upper ∷ []) = 256 * upper
word_sum (upper ∷ lower ∷ rest) = (256 * upper + lower) + word_sum rest

-- a sum modulo 65535, represented by 1 to 65535, and by 0 only if the sum is 0
abbrev pub residue : ℕ → ℕ
residue zero = zero
residue (suc n) = suc (n % 65535)

-- the one's complement sum of bytes
unfoldable pub ones_sum : List ℕ → ℕ
ones_sum bytes = residue (word_sum bytes)

-- the one's complement sum of two one's complement sums
unfoldable pub ones_add : ℕ → ℕ → ℕ
ones_add a b = residue (a + b)

-- the checksum of bytes: the one's complement of their sum
abbrev pub checksum_of : List ℕ → ℕ
checksum_of bytes = 65535 - ones_sum bytes

-- a checksum as UDP writes it: 65535 in place of 0, which means that the sender computed no checksum
abbrev pub no_zero : ℕ → ℕ
no_zero zero = 65535
no_zero (suc n) = suc n
