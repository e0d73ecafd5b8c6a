-- The first occurrence of a byte in a text that is searched in steps.
use Rattle.std.proofs.Common.{◌≡◌, ◌≢◌, ℕ, ◌+◌, ◌-◌, ◌<◌, ◌≤◌, ◌==◌, not, true, false, inl, inr, List, length, take}
use Rattle.std.proofs.Common.{drop}
use Rattle.std.proofs.Common.{get_or, sym, ap, ◌∙◌, arith}
use Rattle.std.specs.List.{All, prefix_len}
use Rattle.std.specs.Simd.Lanes.{chunk}
use Rattle.std.proofs.lemmas.Bool.{cases_lt}
use Rattle.std.proofs.lemmas.List.{get_or-take, get_or-drop, length-drop, length-take}
use Rattle.std.proofs.lemmas.List.Elements.{All-from_get_or, All-get_or}
use Rattle.std.proofs.lemmas.Simd.{run_in_chunk_fails, run_in_chunk_stops}

-- A byte that fails the test differs from the mark, and a byte that passes it is equal.
other_byte : (byte mark : ℕ) → (byte == mark) ≡ false → byte ≢ mark
other_byte byte mark fails same = grind (arith)

same_byte : (byte mark : ℕ) → (byte == mark) ≡ true → byte ≡ mark
same_byte byte mark passes = grind (arith)

-- Holds if no byte before this index is the mark.
abbrev pub IsWithoutBefore : ℕ → List ℕ → ℕ → Type 0
IsWithoutBefore mark text end = (at : ℕ) → at < end → get_or text at 0 ≢ mark

-- number of bytes of a step before the first mark
abbrev pub len_in : ℕ → List ℕ → ℕ → ℕ
len_in mark text start = prefix_len (λ byte. not (byte == mark)) (chunk start 16 text)

-- After a step no byte before the result is the mark.
pub without_in_step : (mark start len : ℕ) (text : List ℕ) → start + 16 ≤ length text → len ≡ len_in mark text start
    → IsWithoutBefore mark text start → IsWithoutBefore mark text (start + len)
without_in_step mark start len text in_text counted before at below =
    elim (cases_lt at start) [
      | inl earlier ↦ before at earlier
      | inr later ↦
          other_byte (get_or text at 0) mark
          (run_in_chunk_fails (λ byte. byte == mark) text start 16 len 0 in_text counted at (omega arith) below)
    ]

pub mark_in_step : (mark start len : ℕ) (text : List ℕ) → start + 16 ≤ length text → len ≡ len_in mark text start
    → len < 16 → get_or text (start + len) 0 ≡ mark
mark_in_step mark start len text in_text counted short =
    same_byte (get_or text (start + len) 0) mark
    (run_in_chunk_stops (λ byte. byte == mark) text start 16 len 0 in_text counted short)

-- After the rest no byte before the result is the mark.
pub without_in_rest : (mark start len : ℕ) (text : List ℕ) → start + len ≤ length text
    → IsWithoutBefore mark text start → All (λ byte. byte ≢ mark) (take len (drop start text))
    → IsWithoutBefore mark text (start + len)
without_in_rest mark start len text in_text before rest at below same =
    elim (cases_lt at start) [
      | inl earlier ↦ before at earlier same
      | inr later ↦
          let within : at - start < len = omega arith in
          let place : start + (at - start) ≡ at = omega arith in
          let found : get_or (take len (drop start text)) (at - start) 0 ≡ get_or text at 0 =
          get_or-take len (drop start text) (at - start) 0 within ∙ get_or-drop start text (at - start) 0
          ∙ ap (λ n. get_or text n 0) place in
          All-get_or (λ byte. byte ≢ mark) (take len (drop start text)) (at - start) 0
          (omega (arith, length-take len (drop start text), length-drop start text)) rest (found ∙ same)
    ]

-- The first bytes of a text up to the result do not contain the mark.
pub prefix_without : (mark len : ℕ) (text : List ℕ) → len ≤ length text → IsWithoutBefore mark text len
    → All (λ byte. byte ≢ mark) (take len text)
prefix_without mark len text in_text before =
    All-from_get_or (λ byte. byte ≢ mark) (take len text) 0
    (λ at below same.
    let within : at < len = omega (arith, length-take len text, below) in
    before at within (sym (get_or-take len text at 0 within) ∙ same))
