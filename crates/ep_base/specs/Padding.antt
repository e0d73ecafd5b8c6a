-- Bytes stored in a fixed array.
use Rattle.std.specs.Prelude.{◌≡◌, ℕ, ◌-◌, ◌≤◌, List, ◌++◌, length, take, drop, replicate}
use Rattle.std.proofs.Common.{sym, ap, ◌∙◌, arith, length-take-le, take-append-drop}

-- Bytes padded with zero bytes to a width.
abbrev pub padded : ℕ → List ℕ → List ℕ
padded width bytes = bytes ++ replicate (width - length bytes) 0

-- An array whose bytes after the first n are 0 is equal to its first n bytes, padded.
pub padded_prefix : (width n : ℕ) (array : List ℕ) → length array ≡ width → n ≤ width
    → drop n array ≡ replicate (width - n) 0 → padded width (take n array) ≡ array
padded_prefix width n array len within zeros =
    let short : length (take n array) ≡ n = length-take-le n array (omega (arith, len, within)) in
    ap (λ (k : ℕ). take n array ++ replicate (width - k) 0) short
    ∙ ap (λ (s : List ℕ). take n array ++ s) (sym zeros) ∙ take-append-drop n array
