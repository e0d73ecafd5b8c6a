-- Order of the table of a bounded pool.
use Rattle.std.proofs.Common.{◌≡◌, ℕ, ◌+◌, ◌<◌, Bool, false, length, List, [], ◌∷◌, subst, arith}
use Rattle.std.specs.Cmp.{IsEquivalence}
use Rattle.std.specs.List.{All, AllPairs, AllByRecursion}
use Rattle.std.proofs.lemmas.List.Elements.{All-from_recursion}
use Rattle.std.proofs.lemmas.List.Kept.{AllPairs-cons}
use Rattle.ep_defrag.specs.declared.bounded_limits.DefragLimits.{DefragLimits}
use Rattle.ep_defrag.specs.Streams.{same_stream}
use Rattle.ep_defrag.specs.BoundedSteps.{Row, call_step}
use Rattle.ep_defrag.specs.BoundedRuns.{Made, rows_from}
use Rattle.ep_defrag.proofs.BoundedRowLemmas.{AreRows, IsLater}
use Rattle.ep_defrag.proofs.BoundedAloneLemmas.{call_holds}

module _ {C : Type 0} (eq : C → C → Bool) (laws : IsEquivalence eq) where
  below : (bound : ℕ) (rows : List (Row C)) → AreRows eq laws bound rows
      → AllByRecursion (λ row. row.number < bound) rows
  below bound [] are = tt
  below bound (row ∷ later) are = (are.0, below bound later are.2)

  -- Each of the pairs that the order is about is in the relation that it implies.
  in_pairs : (R : Row C → Row C → Type 0) → ((row other : Row C) → IsLater eq laws row other → R row other)
      → (bound : ℕ) (rows : List (Row C)) → AreRows eq laws bound rows → AllPairs R rows
  in_pairs R each bound [] are = λ i j d first last. absurd (omega (arith, last))
  in_pairs R each bound (row ∷ later) are =
      AllPairs-cons R row later (All-from_recursion (R row) later (all_of later are.1))
      (in_pairs R each bound later are.2)
    where
      all_of : (rows : List (Row C)) → AllByRecursion (IsLater eq laws row) rows → AllByRecursion (R row) rows
      all_of [] all = tt
      all_of (other ∷ rows) all = (each row other all.0, all_of rows all.1)

  rows_stand : (limits : DefragLimits) (rows : List (Row C)) (number : ℕ) (calls : List (Made C))
      → AreRows eq laws number rows → AreRows eq laws (number + length calls) (rows_from limits eq rows number calls)
  rows_stand limits rows number [] are =
      let bound : number ≡ number + 0 = omega arith in
      subst (λ most. AreRows eq laws most rows) bound are
  rows_stand limits rows number (made ∷ later) are =
      let left = (call_step limits eq rows made.call number made.granted).rows in
      let bound : number + 1 + length later ≡ number + length (made ∷ later) = omega arith in
      subst (λ most. AreRows eq laws most (rows_from limits eq left (number + 1) later)) bound
      (rows_stand limits left (number + 1) later
      (call_holds eq laws limits rows made.call number made.granted are).are_rows)

  pub rows_after : (limits : DefragLimits) (calls : List (Made C))
      → AreRows eq laws (length calls) (rows_from limits eq [] 0 calls)
  rows_after limits calls =
      let bound : 0 + length calls ≡ length calls = omega arith in
      subst (λ most. AreRows eq laws most (rows_from limits eq [] 0 calls)) bound (rows_stand limits [] 0 calls tt)

  pub in_order : (limits : DefragLimits) (calls : List (Made C))
      → All (λ row. row.number < length calls) (rows_from limits eq [] 0 calls)
      × AllPairs (λ row later. row.number < later.number) (rows_from limits eq [] 0 calls)
      × AllPairs (λ row later. same_stream eq row.id later.id ≡ false) (rows_from limits eq [] 0 calls)
  in_order limits calls =
      let rows = rows_from limits eq [] 0 calls in
      let are = rows_after limits calls in (
        All-from_recursion (λ row. row.number < length calls) rows (below (length calls) rows are),
        in_pairs (λ row later. row.number < later.number) (λ row other later. later.0) (length calls) rows are,
        in_pairs (λ row later. same_stream eq row.id later.id ≡ false) (λ row other later. later.1) (length calls) rows
            are,
      )
