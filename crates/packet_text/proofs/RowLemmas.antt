-- A row that is written into a buffer of spaces.
use Rattle.std.proofs.Common.{◌≡◌, ℕ, suc, ◌+◌, ◌-◌, ◌*◌, ◌/◌, ◌%◌, ◌<◌, ◌≤◌, List, [], ◌∷◌, ◌++◌, get_or, length, map, replicate, set, take}
use Rattle.std.proofs.Common.{codes, refl, sym, ap, ◌∙◌, arith, append_assoc}
use Rattle.std.proofs.lemmas.List.{length-append, length-map, length-take-le, map_more, set-append_right, set_at}
use Rattle.std.proofs.lemmas.List.{take_all, take_at, take_more}
use Rattle.packet_text.specs.Addresses.{hex_digit, hex_pair}
use Rattle.packet_text.specs.Rows.{character_of, characters_text, spaced_text}

-- A position `k` bytes after the first `n` bytes is at offset `k` of the rest.
add_sub_left : (n k : ℕ) → n + k - n ≡ k
add_sub_left n k = omega arith

spaced_text-append : (prefix rest : List ℕ) → spaced_text (prefix ++ rest) ≡ spaced_text prefix ++ spaced_text rest
spaced_text-append [] rest = refl
spaced_text-append (byte ∷ prefix) rest = ap (λ t. 32 ∷ hex_pair byte ++ t) (spaced_text-append prefix rest)

length-spaced_text : (row : List ℕ) → length (spaced_text row) ≡ 3 * length row
length-spaced_text [] = refl
length-spaced_text (byte ∷ row) = omega (arith, length-spaced_text row)

-- One more byte appends a space and its two digits.
spaced_text-more : (row : List ℕ) (at : ℕ) → at < length row
    → spaced_text (take (at + 1) row) ≡ spaced_text (take at row) ++ 32 ∷ hex_pair (get_or row at 0)
spaced_text-more row at within =
    ap spaced_text (take_more row at 0 within) ∙ spaced_text-append (take at row) (get_or row at 0 ∷ [])

-- Two digits are written after the space that follows the prefix.
put_after_space : (prefix : List ℕ) (rest n first second : ℕ) → length prefix ≡ n
    → set (set (prefix ++ replicate (suc (suc (suc rest))) 32) (n + 1) first) (n + 2) second
    ≡ (prefix ++ 32 ∷ first ∷ second ∷ []) ++ replicate rest 32
put_after_space prefix rest n first second long =
    let after : List ℕ = replicate rest 32 in
    let one : n ≤ n + 1 = omega arith in
    let two : n ≤ n + 2 = omega arith in
    ap (λ t. set t (n + 2) second)
    (set-append_right prefix (32 ∷ 32 ∷ 32 ∷ after) n (n + 1) first long one
    ∙ ap (λ k. prefix ++ set (32 ∷ 32 ∷ 32 ∷ after) k first) (add_sub_left n 1))
    ∙ set-append_right prefix (32 ∷ first ∷ 32 ∷ after) n (n + 2) second long two
    ∙ ap (λ k. prefix ++ set (32 ∷ first ∷ 32 ∷ after) k second) (add_sub_left n 2)
    ∙ sym (append_assoc prefix (32 ∷ first ∷ second ∷ []) after)

-- The text is the digits of the first bytes, padded with spaces.
abbrev pub AreDigits : List ℕ → ℕ → List ℕ → Type 0
AreDigits row at text = text ≡ spaced_text (take at row) ++ replicate (48 - 3 * at) 32

pub AreDigits-more : (row text pair : List ℕ) (at : ℕ) → AreDigits row at text → at < length row → length row ≤ 16
    → pair ≡ hex_pair (get_or row at 0)
    → AreDigits row (at + 1) (set (set text (3 * at + 1) (get_or pair 0 0)) (3 * at + 2) (get_or pair 1 0))
AreDigits-more row text pair at are within short is =
    let byte = get_or row at 0 in
    let prefix = spaced_text (take at row) in
    let rest = 48 - 3 * (at + 1) in
    let space : 48 - 3 * at ≡ suc (suc (suc rest)) = omega (arith, within, short) in
    let long : length prefix ≡ 3 * at =
    length-spaced_text (take at row) ∙ ap (λ n. 3 * n) (length-take-le at row (omega (arith, within))) in
    ap (λ p. set (set text (3 * at + 1) (get_or p 0 0)) (3 * at + 2) (get_or p 1 0)) is
    ∙ ap (λ t. set (set t (3 * at + 1) (hex_digit (byte / 16))) (3 * at + 2) (hex_digit (byte % 16)))
    (are ∙ ap (λ n. prefix ++ replicate n 32) space)
    ∙ put_after_space prefix rest (3 * at) (hex_digit (byte / 16)) (hex_digit (byte % 16)) long
    ∙ ap (λ t. t ++ replicate rest 32) (sym (spaced_text-more row at within))

-- the text before the next character
abbrev pub characters_so_far : List ℕ → ℕ → List ℕ
characters_so_far row at = codes "  |" ++ map character_of (take at row)

-- The text is the first characters, padded with spaces.
abbrev pub AreCharacters : List ℕ → ℕ → List ℕ → Type 0
AreCharacters row at text = text ≡ characters_so_far row at ++ replicate (17 - at) 32

length-characters_so_far : (row : List ℕ) (at : ℕ) → at ≤ length row → length (characters_so_far row at) ≡ at + 3
length-characters_so_far row at within =
    omega (arith, length-map (take at row) character_of, length-take-le at row within)

-- A byte is written in place of the first of the spaces.
put_character : (row text : List ℕ) (at byte : ℕ) → AreCharacters row at text → at ≤ length row → length row ≤ 16
    → set text (at + 3) byte ≡ (characters_so_far row at ++ byte ∷ []) ++ replicate (16 - at) 32
put_character row text at byte are within short =
    let space : 17 - at ≡ suc (16 - at) = omega (arith, within, short) in
    ap (λ t. set t (at + 3) byte) (are ∙ ap (λ n. characters_so_far row at ++ replicate n 32) space)
    ∙ set_at (characters_so_far row at) 32 (replicate (16 - at) 32) byte (at + 3)
    (length-characters_so_far row at within)
    ∙ sym (append_assoc (characters_so_far row at) (byte ∷ []) (replicate (16 - at) 32))

pub AreCharacters-more : (row text : List ℕ) (at byte : ℕ) → AreCharacters row at text → at < length row
    → length row ≤ 16 → byte ≡ character_of (get_or row at 0) → AreCharacters row (at + 1) (set text (at + 3) byte)
AreCharacters-more row text at byte are within short is =
    let space : 16 - at ≡ 17 - (at + 1) = omega (arith, within, short) in
    put_character row text at byte are (omega (arith, within)) short
    ∙ ap (λ b. (characters_so_far row at ++ b ∷ []) ++ replicate (16 - at) 32) is
    ∙ ap (λ t. (codes "  |" ++ t) ++ replicate (16 - at) 32) (sym (map_more character_of row at 0 within))
    ∙ ap (λ n. characters_so_far row (at + 1) ++ replicate n 32) space

-- All characters and the bar after them are the characters of the row.
pub AreCharacters-all : (row text : List ℕ) → AreCharacters row (length row) text → length row ≤ 16
    → take (length row + 4) (set text (length row + 3) 124) ≡ characters_text row
AreCharacters-all row text are short =
    let prefix = characters_so_far row (length row) in
    ap (λ t. take (length row + 4) t) (put_character row text (length row) 124 are (omega arith) short)
    ∙ take_at (prefix ++ 124 ∷ []) (replicate (16 - length row) 32) (length row + 4)
    (length-append prefix (124 ∷ []) ∙ omega (arith, length-characters_so_far row (length row) (omega arith)))
    ∙ ap (λ t. (codes "  |" ++ map character_of t) ++ 124 ∷ []) (take_all (length row) row (omega arith))
