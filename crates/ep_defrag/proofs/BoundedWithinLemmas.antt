-- A bounded pool keeps to its limits.
use Rattle.std.proofs.Common.{◌≡◌, ℕ, ◌+◌, ◌≤◌, Bool, true, false, not, cond, nat_lt, List, [], ◌∷◌, ◌++◌, length}
use Rattle.std.proofs.Common.{Option, Some, None, inl, inr, arith}
use Rattle.std.specs.List.{filter}
use Rattle.std.proofs.lemmas.Bool.{cases_Bool, and_parts, and_from, le-leb, leb-true}
use Rattle.std.proofs.lemmas.List.Sums.{sum_by-cons}
use Rattle.ep_defrag.specs.declared.ip_frag_id.IpFragId.{IpFragId}
use Rattle.ep_defrag.specs.declared.bounded_limits.DefragLimits.{DefragLimits}
use Rattle.ep_defrag.specs.IpFragments.{IpFragment, is_complete}
use Rattle.ep_defrag.specs.Streams.{same_stream}
use Rattle.ep_defrag.specs.BoundedLimits.{most_names}
use Rattle.ep_defrag.specs.BoundedSteps.{Row, row_named, other_rows, room_held, are_within, remaining, is_due, expires_for}
use Rattle.ep_defrag.specs.BoundedSteps.{Step, Fate, is_rejected, discards, is_accepted, fate_at, accepted_before, row_with}
use Rattle.ep_defrag.specs.BoundedSteps.{discarded_row, rows_discarding, fated_step, BoundedCall, gives_fragment}
use Rattle.ep_defrag.specs.BoundedSteps.{expires_names, removes_name, clears_names, call_step}
use Rattle.ep_defrag.specs.BoundedRuns.{Made, rows_from}

module _ {C : Type 0} (limits : DefragLimits) where
  -- Holds if the number of the names and the memory of their streams are within the limits.
  pub record IsWithin (rows : List (Row C)) : Type 0 where
    pub few : length rows ≤ most_names limits
    pub room : room_held rows ≤ limits.bytes

  within_from : (rows : List (Row C)) → are_within limits rows ≡ true → IsWithin rows
  within_from rows within =
      let parts = and_parts _ _ within in
      record { few = leb-true _ _ parts.0; room = leb-true _ _ parts.1 }

  pub are_within-from : (rows : List (Row C)) → IsWithin rows → are_within limits rows ≡ true
  are_within-from rows within = and_from _ _ (le-leb _ _ within.few) (le-leb _ _ within.room)

  memory-cons : (row : Row C) (rows : List (Row C)) → room_held (row ∷ rows) ≡ row.room + room_held rows
  memory-cons row rows = sum_by-cons (λ (one : Row C). one.room) row rows

  memory-filter : (p : Row C → Bool) (rows : List (Row C))
      → (length (filter p rows) ≤ length rows) × (room_held (filter p rows) ≤ room_held rows)
  memory-filter p [] = (omega arith, omega arith)
  memory-filter p (row ∷ rows) =
      let rest = memory-filter p rows in
      elim (cases_Bool (p row)) [
        | inl passes ↦ rw passes
            (omega (arith, rest.0), omega (arith, rest.1, memory-cons row rows, memory-cons row (filter p rows)))
        | inr fails ↦ rw fails (omega (arith, rest.0), omega (arith, rest.1, memory-cons row rows))
      ]

  within-filter : (p : Row C → Bool) (rows : List (Row C)) → IsWithin rows → IsWithin (filter p rows)
  within-filter p rows within =
      let less = memory-filter p rows in
      record { few = omega (arith, less.0, within.few); room = omega (arith, less.1, within.room) }

  memory-discarding : (eq : C → C → Bool) (name : IpFragId C) (rows : List (Row C))
      → (length (rows_discarding eq name rows) ≤ length rows)
      × (room_held (rows_discarding eq name rows) ≤ room_held rows)
  memory-discarding eq name [] = (omega arith, omega arith)
  memory-discarding eq name (row ∷ rows) =
      let rest = memory-discarding eq name rows in
      elim (cases_Bool (same_stream eq row.id name)) [
        | inl own ↦ rw own (
          omega (arith, rest.0),
          omega (
            arith,
            rest.1,
            memory-cons row rows,
            memory-cons (discarded_row row) (rows_discarding eq name rows),
          ),
        )
        | inr away ↦ rw away (
          omega (arith, rest.0),
          omega (arith, rest.1, memory-cons row rows, memory-cons row (rows_discarding eq name rows)),
        )
      ]

  remaining_within : (rows : List (Row C)) → are_within limits (remaining limits rows) ≡ true
  remaining_within [] = are_within-from [] (record { few = omega arith; room = omega arith })
  remaining_within (row ∷ later) = elim (cases_Bool (are_within limits (row ∷ later))) [
    | inl all ↦ rw all all
    | inr some ↦ rw some (remaining_within later)
  ]

  -- Holds if a step keeps to the limits.
  record LeavesWithin (step : Step C) : Type 0 where
    within : IsWithin step.rows

  fated_within : (eq : C → C → Bool) (rows : List (Row C)) (name : IpFragId C) (fragment : IpFragment)
      (now number : ℕ) (granted : Option ℕ) (fate : Fate) → IsWithin rows
      → LeavesWithin (fated_step limits eq rows name fragment now number granted fate)
  fated_within eq rows name fragment now number granted (is_rejected error) within = record { within = within }
  fated_within eq rows name fragment now number granted discards within =
      let less = memory-discarding eq name rows in
      record { within = record { few = omega (arith, less.0, within.few); room = omega (arith, less.1, within.room) } }
  fated_within eq rows name fragment now number None is_accepted within = record { within = within }
  fated_within eq rows name fragment now number (Some space) is_accepted within =
      let old = row_named eq name rows in
      let own = row_with old name fragment now number space in
      let others = within-filter (λ row. not (same_stream eq row.id name)) rows within in
      choose (is_complete (accepted_before old ++ fragment ∷ [])) (nat_lt limits.bytes own.room)
      (record { within = others })
      (record { within = others })
      (record { within = within_from _ (remaining_within (other_rows eq name rows ++ own ∷ [])) })
    where
      choose : {x y z : Step C} (a b : Bool) → LeavesWithin x → LeavesWithin y → LeavesWithin z
          → LeavesWithin (cond a x (cond b y z))
      choose true b first second third = first
      choose false true first second third = second
      choose false false first second third = third

  call_within : (eq : C → C → Bool) (rows : List (Row C)) (call : BoundedCall C) (number : ℕ) (granted : Option ℕ)
      → IsWithin rows → IsWithin (call_step limits eq rows call number granted).rows
  call_within eq rows (gives_fragment None now) number granted within = within
  call_within eq rows (gives_fragment (Some passed) now) number granted within =
      let left = filter (λ row. not (expires_for limits eq now passed.0 row)) rows in
      (fated_within eq left passed.0 passed.1 now number granted
      (fate_at limits (row_named eq passed.0 left) passed.1)
      (within-filter (λ row. not (expires_for limits eq now passed.0 row)) rows within)).within
  call_within eq rows (expires_names now idle) number granted within =
      within-filter (λ row. not (is_due limits now idle row)) rows within
  call_within eq rows (removes_name name) number granted within =
      within-filter (λ row. not (same_stream eq row.id name)) rows within
  call_within eq rows clears_names number granted within = record { few = omega arith; room = omega arith }

  pub calls_within : (eq : C → C → Bool) (rows : List (Row C)) (number : ℕ) (calls : List (Made C)) → IsWithin rows
      → IsWithin (rows_from limits eq rows number calls)
  calls_within eq rows number [] within = within
  calls_within eq rows number (made ∷ later) within =
      calls_within eq (call_step limits eq rows made.call number made.granted).rows (number + 1) later
      (call_within eq rows made.call number made.granted within)
