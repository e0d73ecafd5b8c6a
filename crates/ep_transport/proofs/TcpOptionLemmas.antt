-- Bytes of TCP options padded to a multiple of 4.
use Rattle.std.proofs.Common.{◌≡◌, ℕ, ◌+◌, ◌-◌, ◌*◌, ◌/◌, ◌%◌, ◌≤◌, List, ◌++◌, length, take, drop, replicate, sym, ap, ◌∙◌, append_assoc, arith}
use Rattle.std.proofs.lemmas.List.{append-nil, take_at, drop_at, length-append, length-replicate, replicate-append-replicate}
use Rattle.ep_transport.specs.TcpOptionBytes.{in_words}

-- Splits bytes followed by zero bytes at an index within the zero bytes.
pub cut_in_zeros : (bytes zeros : List ℕ) (n m width : ℕ) → length bytes ≡ n → n ≤ m → m ≤ width
    → zeros ≡ replicate (width - n) 0
    → (take m (bytes ++ zeros) ≡ bytes ++ replicate (m - n) 0) × (drop m (bytes ++ zeros) ≡ replicate (width - m) 0)
cut_in_zeros bytes zeros n m width len above within all =
    let prefix = bytes ++ replicate (m - n) 0 in
    let apart : replicate (width - n) 0 ≡ replicate (m - n) 0 ++ replicate (width - m) 0 =
    ap (λ (k : ℕ). replicate k 0) (omega arith) ∙ sym (replicate-append-replicate (m - n) (width - m) 0) in
    let same : bytes ++ zeros ≡ prefix ++ replicate (width - m) 0 =
    ap (λ (s : List ℕ). bytes ++ s) (all ∙ apart)
    ∙ sym (append_assoc bytes (replicate (m - n) 0) (replicate (width - m) 0)) in
    let size : length prefix ≡ m =
    omega (arith, length-append bytes (replicate (m - n) 0), length-replicate {A = ℕ} (m - n) 0, len, above) in (
      ap (take m) same ∙ take_at prefix (replicate (width - m) 0) m size,
      ap (drop m) same
          ∙ drop_at prefix (replicate (width - m) 0) m size,
    )

-- Bytes whose number is a multiple of 4 are not padded.
pub complete_words : (bytes : List ℕ) → length bytes % 4 ≡ 0 → in_words bytes ≡ bytes
complete_words bytes words =
    let none : (length bytes + 3) / 4 * 4 - length bytes ≡ 0 = omega (arith, words) in
    ap (λ (k : ℕ). bytes ++ replicate k 0) none ∙ append-nil bytes
