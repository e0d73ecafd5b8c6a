-- Lemmas about the text of primitives.
use Rattle.std.proofs.Common.{◌≡◌, ℕ, List, [], ◌∷◌, ◌++◌, length, slice_index, codes, refl, arith}
use Rattle.filter_tokens.specs.PrimitiveTexts.{hex_pair, station_text}

-- The text of six bytes.
pub station_of_six : (station : List ℕ) → length station ≡ 6
    → station_text station
    ≡ (hex_pair (slice_index station 0) ++ codes ":") ++ ((hex_pair (slice_index station 1) ++ codes ":")
    ++ ((hex_pair (slice_index station 2) ++ codes ":") ++ ((hex_pair (slice_index station 3) ++ codes ":")
    ++ ((hex_pair (slice_index station 4) ++ codes ":") ++ hex_pair (slice_index station 5)))))
station_of_six [] long = absurd (omega (arith, long))
station_of_six (a ∷ []) long = absurd (omega (arith, long))
station_of_six (a ∷ b ∷ []) long = absurd (omega (arith, long))
station_of_six (a ∷ b ∷ c ∷ []) long = absurd (omega (arith, long))
station_of_six (a ∷ b ∷ c ∷ d ∷ []) long = absurd (omega (arith, long))
station_of_six (a ∷ b ∷ c ∷ d ∷ e ∷ []) long = absurd (omega (arith, long))
station_of_six (a ∷ b ∷ c ∷ d ∷ e ∷ f ∷ []) long = refl
station_of_six (a ∷ b ∷ c ∷ d ∷ e ∷ f ∷ g ∷ more) long = absurd (omega (arith, long))
