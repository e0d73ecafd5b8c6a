-- One's complement sums of concatenated bytes.
use Rattle.std.proofs.Common.{◌≡◌, ℕ, zero, suc, ◌%◌, List, [], ◌∷◌, ◌++◌, length, refl, sym, ap, ◌∙◌, append_assoc, arith}
use Rattle.std.specs.Int.{w16, to_be_bytes}
use Rattle.std.proofs.lemmas.List.{length-append}
use Rattle.ep_base.specs.Checksum.{ones_sum, ones_add, checksum_of, no_zero}
use Rattle.ep_base.proofs.SumLemmas.{ones_sum-checksum, ones_sum-word, ones_sum_le, sum_more}

-- The sum of an even number of bytes, plus the sum of bytes equal to `back`, is the sum of the concatenation.
pub sum_piece : (prefix back : List ℕ) (n m : ℕ) (piece : List ℕ) → n ≡ ones_sum prefix → length prefix % 2 ≡ 0
    → piece ≡ back → m ≡ ones_add n (ones_sum piece)
    → m ≡ ones_sum (prefix ++ back)
sum_piece prefix back n m piece sum even same more =
    sum_more prefix back n m sum even (more ∙ ap (λ (s : List ℕ). ones_add n (ones_sum s)) same)

-- ---- bytes with a computed checksum

-- Regroups the concatenation of four lists.
three_parts : (prefix head word back : List ℕ) → ((prefix ++ head) ++ word) ++ back ≡ prefix ++ (head ++ (word ++ back))
three_parts prefix head word back = append_assoc (prefix ++ head) word back ∙ append_assoc prefix head (word ++ back)

-- Bytes whose checksum field, computed as 0, is replaced by their checksum sum to 65535.
pub filled : (prefix head back : List ℕ) → length prefix % 2 ≡ 0 → length head % 2 ≡ 0
    → ones_sum (prefix ++ (head ++ (to_be_bytes w16 (checksum_of (prefix ++ (head ++ (0 ∷ 0 ∷ back)))) ++ back))) ≡ 65535
filled prefix head back even even_head =
    let zero : List ℕ = 0 ∷ 0 ∷ [] in
    let even_both : length (prefix ++ head) % 2 ≡ 0 = omega (arith, even, even_head, length-append prefix head) in
    let message : ((prefix ++ head) ++ zero) ++ back ≡ prefix ++ (head ++ (zero ++ back)) =
    three_parts prefix head zero back in
    let sum = checksum_of (((prefix ++ head) ++ zero) ++ back) in
    ap (λ (s : List ℕ). ones_sum (prefix ++ (head ++ (to_be_bytes w16 (checksum_of s) ++ back)))) (sym message)
    ∙ ap ones_sum (sym (three_parts prefix head (to_be_bytes w16 sum) back))
    ∙ ones_sum-checksum (prefix ++ head) back even_both

-- If the checksum is 0, the bytes sum to 65535 with 65535 in its place.
filled_zero : (prefix head back : List ℕ) → length prefix % 2 ≡ 0 → length head % 2 ≡ 0
    → checksum_of (prefix ++ (head ++ (0 ∷ 0 ∷ back))) ≡ 0
    → ones_sum (prefix ++ (head ++ (255 ∷ 255 ∷ back))) ≡ 65535
unfolding ones_sum ones_add
filled_zero prefix head back even even_head none =
    let zero : List ℕ = 0 ∷ 0 ∷ [] in
    let full : List ℕ = 255 ∷ 255 ∷ [] in
    let even_both : length (prefix ++ head) % 2 ≡ 0 = omega (arith, even, even_head, length-append prefix head) in
    let without = ((prefix ++ head) ++ zero) ++ back in
    let same : ones_sum without ≡ 65535 =
    let message = three_parts prefix head zero back in
    omega (arith, ap (λ (s : List ℕ). checksum_of s) message ∙ none, ones_sum_le without)
    in
    ap ones_sum (sym (three_parts prefix head full back))
    ∙ ones_sum-word (prefix ++ head) back 255 255 even_both
    ∙ ap (λ (n : ℕ). ones_add n (ones_sum full)) same

filled_with : (n : ℕ) (prefix head back : List ℕ) → length prefix % 2 ≡ 0 → length head % 2 ≡ 0
    → checksum_of (prefix ++ (head ++ (0 ∷ 0 ∷ back))) ≡ n
    → ones_sum (prefix ++ (head ++ (to_be_bytes w16 (no_zero n) ++ back))) ≡ 65535
filled_with zero prefix head back even even_head same = filled_zero prefix head back even even_head same
filled_with (suc n) prefix head back even even_head same =
    ap (λ (k : ℕ). ones_sum (prefix ++ (head ++ (to_be_bytes w16 k ++ back)))) (sym same)
    ∙ filled prefix head back even even_head

pub filled_no_zero : (prefix head back : List ℕ) → length prefix % 2 ≡ 0 → length head % 2 ≡ 0
    → ones_sum (prefix ++ (head
    ++ (to_be_bytes w16 (no_zero (checksum_of (prefix ++ (head ++ (0 ∷ 0 ∷ back))))) ++ back))) ≡ 65535
filled_no_zero prefix head back even even_head =
    filled_with (checksum_of (prefix ++ (head ++ (0 ∷ 0 ∷ back)))) prefix head back even even_head refl
