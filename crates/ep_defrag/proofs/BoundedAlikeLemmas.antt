-- Two bounded pools with equal streams answer alike.
use Rattle.std.proofs.Common.{◌≡◌, ℕ, Bool, true, false, not, nat_lt, List, [], ◌∷◌, ◌++◌, Option, Some, None, Result, Ok, Err}
use Rattle.std.proofs.Common.{refl, sym, ap, subst, ◌∙◌, inl, inr, arith}
use Rattle.std.specs.Cmp.{IsEquivalence}
use Rattle.std.specs.List.{AllZip, filter}
use Rattle.std.proofs.lemmas.Bool.{cases_Bool, false≢true}
use Rattle.ep_defrag.specs.declared.ip_frag_id.IpFragId.{IpFragId}
use Rattle.ep_defrag.specs.declared.ip_defrag_payload_vec.IpDefragPayloadVec.{IpDefragPayloadVec}
use Rattle.ep_defrag.specs.declared.bounded_limits.DefragLimits.{DefragLimits}
use Rattle.ep_defrag.specs.declared.bounded_defrag_error.BoundedDefragError.{BoundedDefragError}
use Rattle.ep_defrag.specs.declared.bounded_defrag_error.BoundedDefragError.TheVariants.{Rejected, Discarded, OverBudget}
use Rattle.ep_defrag.specs.declared.evicted_stream.EvictedStream.{EvictedStream}
use Rattle.ep_defrag.specs.declared.bounded_defrag_pool.BoundedDefragPool.{BoundedDefragPool}
use Rattle.ep_defrag.specs.IpFragments.{IpFragment, is_complete}
use Rattle.ep_defrag.specs.FragmentRefusals.{is_allocation_failure}
use Rattle.ep_defrag.specs.BoundedNames.{Reports}
use Rattle.ep_defrag.specs.BoundedAnswers.{plain_bounded, is_memory_error}
use Rattle.ep_defrag.specs.BoundedSteps.{Row, Gone, Step, row_named, expires_for, BoundedAnswer, fragment_rejected, nothing_complete}
use Rattle.ep_defrag.specs.BoundedSteps.{payload_complete, Fate, is_rejected, discards, is_accepted, fate_at, accepted_before}
use Rattle.ep_defrag.specs.BoundedSteps.{fated_step, BoundedCall, gives_fragment, call_step}
use Rattle.ep_defrag.specs.BoundedCounts.{statistics_with}
use Rattle.ep_defrag.specs.BoundedPools.{limits_in, statistics_in, evicted_in, HoldsRows, AreAlike, ReportAlike, DoesStep, TakesBounded}
use Rattle.ep_defrag.proofs.BoundedRowLemmas.{named_alike}

-- ---- answers

-- whether the reason of an answer is memory
abbrev is_for_memory : BoundedAnswer → Bool
is_for_memory (fragment_rejected (Rejected error)) = is_allocation_failure error
is_for_memory (fragment_rejected Discarded) = false
is_for_memory (fragment_rejected OverBudget) = true
is_for_memory (payload_complete payload) = false
is_for_memory nothing_complete = false

plain_memory : (result : Result (Option IpDefragPayloadVec) BoundedDefragError)
    → is_for_memory (plain_bounded result) ≡ is_memory_error result
plain_memory (Ok None) = refl
plain_memory (Ok (Some payload)) = refl
plain_memory (Err (Rejected error)) = refl
plain_memory (Err Discarded) = refl
plain_memory (Err OverBudget) = refl

-- A fragment is answered alike, whatever memory is granted, unless the reason of an answer is memory.
fated_alike : {C : Type 0} (limits : DefragLimits) (eq : C → C → Bool) (rows : List (Row C)) (name : IpFragId C)
    (fragment : IpFragment) (now number : ℕ) (a b : Option ℕ) (fate : Fate)
    → is_for_memory (fated_step limits eq rows name fragment now number a fate).answer ≡ false
    → is_for_memory (fated_step limits eq rows name fragment now number b fate).answer ≡ false
    → (fated_step limits eq rows name fragment now number b fate).answer
    ≡ (fated_step limits eq rows name fragment now number a fate).answer
fated_alike limits eq rows name fragment now number a b (is_rejected error) fine_a fine_b = refl
fated_alike limits eq rows name fragment now number a b discards fine_a fine_b = refl
fated_alike limits eq rows name fragment now number None b is_accepted fine_a fine_b = absurd (false≢true (sym fine_a))
fated_alike limits eq rows name fragment now number (Some a) None is_accepted fine_a fine_b =
    absurd (false≢true (sym fine_b))
fated_alike limits eq rows name fragment now number (Some a) (Some b) is_accepted fine_a fine_b =
    let accepted = accepted_before (row_named eq name rows) ++ fragment ∷ [] in
    elim (cases_Bool (is_complete accepted)) [
      | inl complete ↦ rw complete refl
      | inr partial ↦ elim (cases_Bool (nat_lt limits.bytes a)) [
        | inl over ↦ absurd (grind (arith, partial, over, fine_a))
        | inr within ↦ elim (cases_Bool (nat_lt limits.bytes b)) [
          | inl beyond ↦ absurd (grind (arith, partial, beyond, fine_b))
          | inr inside ↦ rw (partial, within, inside) refl
        ]
      ]
    ]

pub answers_alike : {C : Type 0} (eq : C → C → Bool) (old_a new_a old_b new_b : BoundedDefragPool C)
    (rows : List (Row C))
    → AreAlike eq old_a old_b rows → (name : IpFragId C) (fragment : IpFragment) (now : ℕ)
    (a b : Result (Option IpDefragPayloadVec) BoundedDefragError) → TakesBounded eq old_a new_a name fragment now a
    → TakesBounded eq old_b new_b name fragment now b → is_memory_error a ≡ false → is_memory_error b ≡ false
    → plain_bounded b ≡ plain_bounded a
answers_alike eq old_a new_a old_b new_b rows alike name fragment now a b takes_a takes_b fine_a fine_b =
    let limits = limits_in old_a in
    let left = filter (λ row. not (expires_for limits eq now name row)) rows in
    let step_a = takes_a.step rows 0 alike.first in
    let step_b = takes_b.step rows 0 alike.second in
    let answer_b : plain_bounded b
    ≡ (call_step limits eq rows (gives_fragment (Some (name, fragment)) now) 0 step_b.0).answer =
    step_b.2 ∙ ap (λ own. (call_step own eq rows (gives_fragment (Some (name, fragment)) now) 0 step_b.0).answer)
    alike.limits
    in
    answer_b
    ∙ fated_alike limits eq left name fragment now 0 step_a.0 step_b.0
    (fate_at limits (row_named eq name left) fragment)
    (ap is_for_memory (sym step_a.2) ∙ plain_memory a ∙ fine_a)
    (ap is_for_memory (sym answer_b) ∙ plain_memory b ∙ fine_b)
    ∙ sym step_a.2

-- ---- steps

module _ {C : Type 0} (eq : C → C → Bool) (laws : IsEquivalence eq) where
  -- Two reports of the same names are alike.
  reports_alike : (a b : List (EvictedStream C)) (gone : List (Gone C)) → AllZip (Reports eq) a gone
      → AllZip (Reports eq) b gone → AllZip (ReportAlike eq) a b
  reports_alike [] [] [] first second = tt
  reports_alike [] (y ∷ b) [] first second = second
  reports_alike (x ∷ a) b [] first second = absurd first
  reports_alike [] b (gone ∷ later) first second = absurd first
  reports_alike (x ∷ a) [] (gone ∷ later) first second = second
  reports_alike (x ∷ a) (y ∷ b) (gone ∷ later) first second = (
    record {
      id = sym ((named_alike eq laws).congr gone.row.id x.id y.id first.0.id) ∙ second.0.id;
      cause = second.0.cause ∙ sym first.0.cause;
      first = second.0.first ∙ sym first.0.first;
    },
    reports_alike a b later first.1 second.1,
  )

  pub steps_alike : (old_a new_a old_b new_b : BoundedDefragPool C) (rows : List (Row C)) → AreAlike eq old_a old_b rows
      → (call : BoundedCall C) (number : ℕ) (granted : Option ℕ) → DoesStep eq old_a new_a call number granted rows
      → DoesStep eq old_b new_b call number granted rows
      → AreAlike eq new_a new_b (call_step (limits_in old_a) eq rows call number granted).rows
      × AllZip (ReportAlike eq) (evicted_in new_a) (evicted_in new_b)
  steps_alike old_a new_a old_b new_b rows alike call number granted first second =
      let step : DefragLimits → Step C = λ limits. call_step limits eq rows call number granted in (
        record {
          first = first.holds;
          second = subst (λ limits. HoldsRows eq new_b (step limits).rows) alike.limits second.holds;
          limits = second.limits ∙ alike.limits ∙ sym first.limits;
          statistics =
              second.statistics
              ∙ ap (λ limits. statistics_with (statistics_in old_b) call (step limits)) alike.limits
              ∙ ap (λ counters. statistics_with counters call (step (limits_in old_a))) alike.statistics
              ∙ sym first.statistics;
        },
        reports_alike (evicted_in new_a) (evicted_in new_b) (step (limits_in old_a)).gone first.evicted
            (subst (λ limits. AllZip (Reports eq) (evicted_in new_b) (step limits).gone) alike.limits second.evicted),
      )
