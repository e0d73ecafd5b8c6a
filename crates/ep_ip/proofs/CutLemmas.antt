-- Bytes split into a header, a payload limited by a length field, and trailing bytes.
use Rattle.std.proofs.Common.{◌≡◌, ℕ, ◌-◌, ◌≤◌, List, ◌++◌, length, take, drop, sym, ap, ◌∙◌, arith}
use Rattle.std.proofs.lemmas.List.{drop_at, drop-drop, take-append-drop, append_assoc}

-- Bytes are their first n bytes (the header), the payload up to byte t, and the bytes from t on.
pub cut_parts : (bytes header rest : List ℕ) (n t : ℕ) → bytes ≡ header ++ rest → n ≡ length header → n ≤ t
    → bytes ≡ (header ++ take (t - n) (drop n bytes)) ++ drop t bytes
cut_parts bytes header rest n t parts len enough =
    let prefix : List ℕ → List ℕ = λ s. header ++ s in
    let payload = take (t - n) (drop n bytes) in
    let after : drop n bytes ≡ rest = ap (drop n) parts ∙ drop_at header rest n (sym len) in
    let left : drop (t - n) (drop n bytes) ≡ drop t bytes =
    drop-drop (t - n) n bytes ∙ ap (λ (k : ℕ). drop k bytes) (omega arith) in
    let halves : drop n bytes ≡ payload ++ drop t bytes =
    sym (take-append-drop (t - n) (drop n bytes)) ∙ ap (λ (s : List ℕ). payload ++ s) left in
    parts ∙ ap prefix (sym after) ∙ ap prefix halves ∙ sym (append_assoc header payload (drop t bytes))
