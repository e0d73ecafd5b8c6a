-- Texts of link headers.
use Rattle.std.proofs.Common.{◌≡◌, ℕ, List, [], ◌∷◌, ◌++◌, length, take, drop, codes, ap, append-nil, arith}

-- The text of 42 bytes in which two addresses of 17 bytes are written.
pub two_addresses : (a b : List ℕ) → length a ≡ 17 → let first = a ++ codes " > 00:00:00:00:00:00" in
    take 20 first ++ (b ++ drop 17 (drop 25 (codes " eth " ++ first))) ≡ a ++ (codes " > " ++ b)
two_addresses (c ∷ d ∷ e ∷ f ∷ g ∷ h ∷ i ∷ j ∷ k ∷ l ∷ m ∷ n ∷ o ∷ p ∷ q ∷ r ∷ s ∷ []) b long =
    ap (λ (end : List ℕ). c ∷ d ∷ e ∷ f ∷ g ∷ h ∷ i ∷ j ∷ k ∷ l ∷ m ∷ n ∷ o ∷ p ∷ q ∷ r ∷ s ∷ (codes " > " ++ end))
    (append-nil b)
two_addresses _ b long = absurd (omega arith)
