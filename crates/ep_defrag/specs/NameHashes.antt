-- How the hasher of stream identifiers regroups writes for std's hasher: different writes become different writes (law
-- `name_hashes`). No answer of a pool depends on it, since equal identifiers are written and hashed alike.
use Rattle.std.specs.Prelude.{ℕ, ◌+◌, ◌*◌, ◌%◌, ◌^◌, List, [], ◌∷◌, ◌++◌, length, if◌then◌else◌, ◌==◌, nat_le, nat_lt, slice_index, bit_or}
use Rattle.std.specs.Int.{w16, w64, to_le_bytes, from_le_bytes}
use Rattle.std.specs.Hash.{HashWrites}
use Rattle.std.specs.Hash.FoldHasher as std_hasher
use Rattle.std.specs.List.{fold}
use Rattle.ep_defrag.specs.declared.name_hasher.NameHasher.{NameHasher}

-- effect of a write: the writes passed to std's hasher, then the pending word and its number of bytes
pub record Step : Type 0 where
  pub given : HashWrites
  pub waiting : ℕ
  pub count : ℕ

-- one write of a number's eight bytes
abbrev pub word : ℕ → HashWrites
word number = to_le_bytes w64 number ∷ []

-- write of the pending word, unless it is empty
unfoldable pub rest_of : ℕ → HashWrites
rest_of waiting = if nat_lt 1 waiting then word waiting else []

-- step that passes the pending word on if it would get more than three bytes
unfoldable pub capacity_step : ℕ → ℕ → ℕ → Step
capacity_step waiting count bytes =
    if nat_le (count + bytes) 3 then record { given = []; waiting = waiting; count = count }
    else record { given = word waiting; waiting = 1; count = 0 }

-- step that appends bytes to the pending word
unfoldable pub wait_step : ℕ → ℕ → ℕ → ℕ → Step
wait_step waiting count bytes number = let flushed = capacity_step waiting count bytes in record {
  given = flushed.given;
  waiting = bit_or (flushed.waiting * 2 ^ (8 * bytes) % 2 ^ 64) number;
  count = flushed.count + bytes;
}

-- step of a write of eight bytes: a number below 256 starts a pending word, a greater one is passed on after a mark
unfoldable pub number_step : ℕ → ℕ → Step
number_step waiting number =
    if nat_lt number 256 then record { given = rest_of waiting; waiting = bit_or 0x200 number; count = 0 }
    else record { given = word (bit_or waiting (2 ^ 63)) ++ word number; waiting = 1; count = 0 }

-- step of a write: one or two bytes are appended to the pending word, all others except eight are passed on unchanged
unfoldable pub step_of : ℕ → ℕ → List ℕ → Step
step_of waiting count bytes =
    if length bytes == 1 then wait_step waiting count 1 (slice_index bytes 0)
    else (if length bytes == 2 then wait_step waiting count 2 (bit_or (2 ^ 40) (from_le_bytes w16 bytes))
    else (if length bytes == 8 then number_step waiting (from_le_bytes w64 bytes)
    else record { given = rest_of waiting ++ bytes ∷ []; waiting = 1; count = 0 }))

-- hasher before any write
unfoldable pub initial : NameHasher
initial = record { state = std_hasher.initial; waiting = 1; count = 0 }

-- hasher after a step
unfoldable pub stepped : NameHasher → Step → NameHasher
stepped hasher step = record {
  state = fold std_hasher.write hasher.state step.given;
  waiting = step.waiting;
  count = step.count;
}

-- hasher after a write
unfoldable pub with_bytes : NameHasher → List ℕ → NameHasher
with_bytes hasher bytes = stepped hasher (step_of hasher.waiting hasher.count bytes)

-- hash after all writes
unfoldable pub finished : NameHasher → ℕ
finished hasher = std_hasher.finish (fold std_hasher.write hasher.state (rest_of hasher.waiting))

-- hash of a list of writes
unfoldable pub hash_of : HashWrites → ℕ
hash_of writes = finished (fold with_bytes initial writes)

-- writes passed to std's hasher for a list of writes, after a pending word
unfoldable pub given_after : ℕ → ℕ → HashWrites → HashWrites
given_after waiting count [] = rest_of waiting
given_after waiting count (bytes ∷ writes) =
    let step = step_of waiting count bytes in
    step.given ++ given_after step.waiting step.count writes

-- writes passed to std's hasher for the writes of an identifier
abbrev pub given_for : HashWrites → HashWrites
given_for writes = given_after 1 0 writes

-- hash that std's hasher computes of a list of writes
abbrev pub std_hash : HashWrites → ℕ
std_hash writes = std_hasher.finish (fold std_hasher.write std_hasher.initial writes)
