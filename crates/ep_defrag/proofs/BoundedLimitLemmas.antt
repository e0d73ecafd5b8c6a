-- Which names a bounded pool keeps within its limits.
use Rattle.std.proofs.Common.{◌≡◌, ◌*◌, ◌/◌, ◌≤◌, true, false, List, [], ◌∷◌, ◌++◌, length, refl, sym, ◌∙◌, arith, true≢false}
use Rattle.std.specs.List.{All}
use Rattle.std.proofs.Math.Nat.{mul-div-le, mul-le-mul_right}
use Rattle.std.proofs.lemmas.List.Sums.{sum_by-le}
use Rattle.std.proofs.lemmas.Grind.{common_steps}
use Rattle.ep_defrag.specs.declared.bounded_limits.DefragLimits.{DefragLimits}
use Rattle.ep_defrag.specs.BoundedLimits.{most_names}
use Rattle.ep_defrag.specs.BoundedSteps.{Row, room_held, are_within, remaining}

module _ {C : Type 0} (limits : DefragLimits) where
  -- names that fit all stay
  pub remaining-all : (rows : List (Row C)) → are_within limits rows ≡ true → remaining limits rows ≡ rows
  remaining-all [] fits = refl
  remaining-all (row ∷ later) fits = rw fits refl

  -- if the end of a list fits, it stays
  pub remaining-end : (earlier rows : List (Row C)) → are_within limits rows ≡ true
      → (kept : List (Row C)) × (remaining limits (earlier ++ rows) ≡ kept ++ rows)
  remaining-end [] rows fits = ([], remaining-all rows fits)
  remaining-end (row ∷ earlier) rows fits =
      (elim (are_within limits (row ∷ earlier ++ rows)) as (λ b. are_within limits (row ∷ earlier ++ rows) ≡ b
      → (kept : List (Row C)) × (remaining limits (row ∷ earlier ++ rows) ≡ kept ++ rows)) [
        | true ↦ λ all. (row ∷ earlier, rw all refl)
        | false ↦ λ some. let later = remaining-end earlier rows fits in (later.0, rw some later.1)
      ]) refl

  -- fewer names fit too
  pub are_within-tail : (row : Row C) (later : List (Row C)) → are_within limits (row ∷ later) ≡ true
      → are_within limits later ≡ true
  are_within-tail row later fits = grind (arith, common_steps)

  -- one name fits if its memory does
  pub are_within-one : (row : Row C) → row.room ≤ limits.bytes → are_within limits (row ∷ []) ≡ true
  are_within-one row space = grind (arith, common_steps)

  -- if the end of a list does not fit, its first name goes, and all earlier ones
  pub remaining-beyond : (earlier : List (Row C)) (row : Row C) (later : List (Row C))
      → are_within limits (row ∷ later) ≡ false → remaining limits (earlier ++ row ∷ later) ≡ remaining limits later
  remaining-beyond [] row later unfit = rw unfit refl
  remaining-beyond (first ∷ earlier) row later unfit =
      (elim (are_within limits (first ∷ earlier ++ row ∷ later)) as (λ b.
      are_within limits (first ∷ earlier ++ row ∷ later) ≡ b
      → remaining limits (first ∷ earlier ++ row ∷ later) ≡ remaining limits later) [
        | true ↦ λ all. absurd (true≢false (sym (within-end (first ∷ earlier) (row ∷ later) all) ∙ unfit))
        | false ↦ λ some. rw some (remaining-beyond earlier row later unfit)
      ]) refl
    where
      within-end : (earlier rows : List (Row C)) → are_within limits (earlier ++ rows) ≡ true
          → are_within limits rows ≡ true
      within-end [] rows all = all
      within-end (first ∷ earlier) rows all = within-end earlier rows (are_within-tail first (earlier ++ rows) all)

  -- names fit if they are not too many, and each stream uses at most its share of the memory
  pub are_within-shares : (rows : List (Row C)) → All (λ row. row.room ≤ limits.bytes / most_names limits) rows
      → length rows ≤ most_names limits → are_within limits rows ≡ true
  are_within-shares rows shares few =
      let share = limits.bytes / most_names limits in
      let sum : room_held rows ≤ length rows * share = sum_by-le (λ row. row.room) share rows shares in
      let shares_fit : length rows * share ≤ most_names limits * share = mul-le-mul_right share few in
      let bytes : most_names limits * share ≤ limits.bytes = mul-div-le limits.bytes (most_names limits) in
      grind (arith, common_steps)
