-- Which names of a bounded pool a fragment leaves as they were.
use Rattle.std.proofs.Common.{◌≡◌, ℕ, Bool, true, false, not, cond, nat_lt, List, [], ◌∷◌, ◌++◌, Option, Some, None}
use Rattle.std.proofs.Common.{refl, ap, ◌∙◌, inl, inr}
use Rattle.std.specs.Cmp.{IsEquivalence}
use Rattle.std.specs.List.{filter}
use Rattle.std.proofs.lemmas.Bool.{cases_Bool}
use Rattle.ep_defrag.specs.declared.ip_defrag_error.IpDefragError.{IpDefragError}
use Rattle.ep_defrag.specs.declared.ip_frag_id.IpFragId.{IpFragId}
use Rattle.ep_defrag.specs.declared.bounded_limits.DefragLimits.{DefragLimits}
use Rattle.ep_defrag.specs.declared.bounded_defrag_error.BoundedDefragError.TheVariants.{Rejected}
use Rattle.ep_defrag.specs.IpFragments.{IpFragment, is_complete}
use Rattle.ep_defrag.specs.Streams.{same_stream}
use Rattle.ep_defrag.specs.BoundedSteps.{Row, row_named, other_rows, expires_for, is_expired, fragment_rejected}
use Rattle.ep_defrag.specs.BoundedSteps.{nothing_complete, Step, Fate, is_rejected, discards, is_accepted, fate_at}
use Rattle.ep_defrag.specs.BoundedSteps.{accepted_before, row_with, fated_step}
use Rattle.ep_defrag.specs.BoundedSteps.{fragment_step}
use Rattle.ep_defrag.proofs.BoundedRowLemmas.{named_alike, others_named}
use Rattle.ep_defrag.proofs.BoundedGivenLemmas.{discarded_other}

-- Holds if the step changes no row, unless it accepts or discards.
record KeepsRejected {C : Type 0} (rows : List (Row C)) (step : Step C) : Type 0 where
  kept : (error : IpDefragError) → step.answer ≡ fragment_rejected (Rejected error) → step.rows ≡ rows

fated_kept : {C : Type 0} (limits : DefragLimits) (eq : C → C → Bool) (rows : List (Row C)) (name : IpFragId C)
    (fragment : IpFragment) (now number : ℕ) (granted : Option ℕ) (fate : Fate)
    → KeepsRejected rows (fated_step limits eq rows name fragment now number granted fate)
fated_kept limits eq rows name fragment now number granted (is_rejected error) = record { kept = λ own answer. refl }
fated_kept limits eq rows name fragment now number granted discards = record { kept = λ own answer. absurd (cc) }
fated_kept limits eq rows name fragment now number None is_accepted = record { kept = λ own answer. refl }
fated_kept {C} limits eq rows name fragment now number (Some space) is_accepted =
    let old = row_named eq name rows in
    choose (is_complete (accepted_before old ++ fragment ∷ []))
    (nat_lt limits.bytes (row_with old name fragment now number space).room)
    (record { kept = λ own answer. absurd (cc) })
    (record { kept = λ own answer. absurd (cc) })
    (record { kept = λ own answer. absurd (cc) })
  where
    choose : {x y z : Step C} (a b : Bool) → KeepsRejected rows x → KeepsRejected rows y → KeepsRejected rows z
        → KeepsRejected rows (cond a x (cond b y z))
    choose true b first second third = first
    choose false true first second third = second
    choose false false first second third = third

-- A fragment that is rejected changes nothing, unless the stream of its name expired.
pub rejected_stays : {C : Type 0} (limits : DefragLimits) (eq : C → C → Bool) (rows : List (Row C)) (name : IpFragId C)
    (fragment : IpFragment) (now number : ℕ) (granted : Option ℕ) (error : IpDefragError)
    → (fragment_step limits eq rows name fragment now number granted).answer ≡ fragment_rejected (Rejected error)
    → (fragment_step limits eq rows name fragment now number granted).rows
    ≡ filter (λ row. not (expires_for limits eq now name row)) rows
rejected_stays limits eq rows name fragment now number granted error answer =
    let left = filter (λ row. not (expires_for limits eq now name row)) rows in
    (fated_kept limits eq left name fragment now number granted (fate_at limits (row_named eq name left) fragment)).kept
    error answer

module _ {C : Type 0} (eq : C → C → Bool) (laws : IsEquivalence eq) where
  -- The fragment of one name does not let another expire.
  unexpired_named : (limits : DefragLimits) (now : ℕ) (name other : IpFragId C) → same_stream eq name other ≡ false
      → (rows : List (Row C)) → row_named eq other (filter (λ row. not (expires_for limits eq now name row)) rows)
      ≡ row_named eq other rows
  unexpired_named limits now name other differs [] = refl
  unexpired_named limits now name other differs (row ∷ rows) =
      let rest = unexpired_named limits now name other differs rows in
      elim (cases_Bool (same_stream eq row.id name)) [
        | inl own ↦
            let away : same_stream eq row.id other ≡ false =
            (named_alike eq laws).congr row.id name other own ∙ differs in
            elim (cases_Bool (is_expired limits now row)) [
              | inl old ↦ rw (own, old, away) rest
              | inr young ↦ rw (own, young, away) rest
            ]
        | inr not_own ↦ rw not_own (ap (cond (same_stream eq row.id other) (Some row)) rest)
      ]

  -- Holds if the step leaves the row of another name, unless it accepts a fragment and returns no payload.
  record KeepsOther (rows : List (Row C)) (other : IpFragId C) (step : Step C) : Type 0 where
    kept : (step.answer ≡ nothing_complete → ⊥) → row_named eq other step.rows ≡ row_named eq other rows

  fated_other : (limits : DefragLimits) (rows : List (Row C)) (name : IpFragId C) (fragment : IpFragment)
      (now number : ℕ) (granted : Option ℕ) (fate : Fate) (other : IpFragId C) → same_stream eq name other ≡ false
      → KeepsOther rows other (fated_step limits eq rows name fragment now number granted fate)
  fated_other limits rows name fragment now number granted (is_rejected error) other differs =
      record { kept = λ answer. refl }
  fated_other limits rows name fragment now number granted discards other differs =
      record { kept = λ answer. discarded_other eq laws rows name other differs }
  fated_other limits rows name fragment now number None is_accepted other differs = record { kept = λ answer. refl }
  fated_other limits rows name fragment now number (Some space) is_accepted other differs =
      let old = row_named eq name rows in
      let same : row_named eq other (other_rows eq name rows) ≡ row_named eq other rows =
      others_named eq laws rows name other ∙ rw differs refl in
      choose (is_complete (accepted_before old ++ fragment ∷ []))
      (nat_lt limits.bytes (row_with old name fragment now number space).room)
      (record { kept = λ answer. same })
      (record { kept = λ answer. same })
      (record { kept = λ answer. absurd (answer refl) })
    where
      choose : {x y z : Step C} (a b : Bool) → KeepsOther rows other x → KeepsOther rows other y
          → KeepsOther rows other z → KeepsOther rows other (cond a x (cond b y z))
      choose true b first second third = first
      choose false true first second third = second
      choose false false first second third = third

  pub others_stay : (limits : DefragLimits) (rows : List (Row C)) (name other : IpFragId C) (fragment : IpFragment)
      (now number : ℕ) (granted : Option ℕ) → same_stream eq name other ≡ false
      → ((fragment_step limits eq rows name fragment now number granted).answer ≡ nothing_complete → ⊥)
      → row_named eq other (fragment_step limits eq rows name fragment now number granted).rows
      ≡ row_named eq other rows
  others_stay limits rows name other fragment now number granted differs answer =
      let left = filter (λ row. not (expires_for limits eq now name row)) rows in
      (fated_other limits left name fragment now number granted (fate_at limits (row_named eq name left) fragment)
      other differs).kept answer
      ∙ unexpired_named limits now name other differs rows
