-- Which bytes a bounded pool keeps.
use Rattle.std.proofs.Common.{◌≡◌, ℕ, ◌<◌, ◌≤◌, ◌||◌, cond, List, [], ◌∷◌, ◌++◌, append_assoc, append-nil, refl, sym, ap}
use Rattle.std.proofs.Common.{◌∙◌, inl, inr, arith}
use Rattle.std.proofs.lemmas.Bool.{cases_Bool}
use Rattle.std.proofs.lemmas.Bool.Decides.{nat_tests}
use Rattle.ep_defrag.specs.declared.bounded_limits.OverlapPolicy.TheVariants.{LastWins, FirstWins, Discard}
use Rattle.ep_defrag.specs.Ranges.{has_byte}
use Rattle.ep_defrag.specs.IpFragments.{IpFragment, fragment_start, fragment_end, covers, is_covered, byte_at}
use Rattle.ep_defrag.specs.BoundedOverlaps.{yielding, all_kept_after, first_byte_at}
use Rattle.ep_defrag.proofs.DataLemmas.{is_covered-push, own_byte, byte_at-push, byte_at-uncovered}
use Rattle.ep_defrag.proofs.BoundedOverlapLemmas.{get_or-yielding, range_of-yielding}

-- under `LastWins` a pool keeps the fragments as they came
pub all_kept-last : (earlier later : List IpFragment) → all_kept_after LastWins earlier later ≡ earlier ++ later
all_kept-last earlier [] = sym (append-nil earlier)
all_kept-last earlier (fragment ∷ later) =
    all_kept-last (earlier ++ fragment ∷ []) later ∙ append_assoc earlier (fragment ∷ []) later

-- and under `Discard`
pub all_kept-undisputed : (earlier later : List IpFragment) → all_kept_after Discard earlier later ≡ earlier ++ later
all_kept-undisputed earlier [] = sym (append-nil earlier)
all_kept-undisputed earlier (fragment ∷ later) =
    all_kept-undisputed (earlier ++ fragment ∷ []) later ∙ append_assoc earlier (fragment ∷ []) later

-- Under `FirstWins` the byte at a position is that of the first fragment that covers it.
pub all_kept-first : (earlier later : List IpFragment) (position : ℕ)
    → byte_at (all_kept_after FirstWins earlier later) position
    ≡ cond (is_covered earlier position) (byte_at earlier position) (first_byte_at later position)
all_kept-first earlier [] position = elim (cases_Bool (is_covered earlier position)) [
  | inl came ↦ rw came refl
  | inr none ↦ rw none (byte_at-uncovered earlier position none)
]
all_kept-first earlier (fragment ∷ later) position =
    let own = yielding earlier fragment in
    let here : covers position own ≡ covers position fragment =
    ap (has_byte position) (range_of-yielding earlier fragment) in
    let covered : is_covered (earlier ++ own ∷ []) position
    ≡ (is_covered earlier position || covers position fragment) =
    is_covered-push earlier own position ∙ ap (λ t. is_covered earlier position || t) here in
    let byte : byte_at (earlier ++ own ∷ []) position
    ≡ cond (covers position fragment) (own_byte own position) (byte_at earlier position) =
    byte_at-push earlier own position
    ∙ ap (λ t. cond t (own_byte own position) (byte_at earlier position)) here in
    all_kept-first (earlier ++ own ∷ []) later position
    ∙ elim (cases_Bool (covers position fragment)) [
      | inl inside ↦
          let within : (fragment_start fragment ≤ position) × (position < fragment_end fragment) =
          grind (arith, nat_tests, inside) in
          let first = get_or-yielding earlier fragment position within.0 within.1 in
          elim (cases_Bool (is_covered earlier position)) [
            | inl came ↦ rw (covered, byte, came, inside) (first ∙ rw came refl)
            | inr none ↦ rw (covered, byte, none, inside) (first ∙ rw none refl)
          ]
      | inr away ↦ elim (cases_Bool (is_covered earlier position)) [
        | inl came ↦ rw (covered, byte, came, away) refl
        | inr none ↦ rw (covered, none, away) refl
      ]
    ]
