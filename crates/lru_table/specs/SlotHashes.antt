-- Hashes of slots: the exclusive or of the words of eight bytes that are written.
use Rattle.std.specs.Prelude.{ℕ, ◌==◌, List, length, if◌then◌else◌, bit_xor}
use Rattle.std.specs.Int.{w64, from_le_bytes}
use Rattle.lru_table.specs.declared.slot.SlotHasher.{SlotHasher}

-- the exclusive or of the words that were written
abbrev pub word_of : SlotHasher → ℕ
word_of hasher = hasher.word

-- the hasher after bytes were written; only eight bytes are a word
abbrev pub with_bytes : SlotHasher → List ℕ → SlotHasher
with_bytes hasher bytes =
    if length bytes == 8 then record { word = bit_xor hasher.word (from_le_bytes w64 bytes) } else hasher
