-- The holdings of a bounded pool after a fragment are those of the fragment's step.
use Rattle.std.proofs.Common.{◌≡◌, ◌⊎◌, ℕ, ◌<◌, ◌^◌, Bool, true, false, not, cond, is_some, List, [], ◌∷◌, ◌++◌, Option, Some, None, Ok, nat_lt}
use Rattle.std.proofs.Common.{refl, sym, ap, ◌∙◌, inl, arith}
use Rattle.std.specs.Option.{option_map, unwrap_or}
use Rattle.ep_defrag.specs.declared.ip_defrag_buf.IpDefragBuf.{IpDefragBuf}
use Rattle.ep_defrag.specs.declared.ip_defrag_error.IpDefragError.{IpDefragError}
use Rattle.ep_defrag.specs.declared.ip_defrag_error.IpDefragError.TheVariants.{AllocationFailure}
use Rattle.ep_defrag.specs.declared.ip_defrag_payload_vec.IpDefragPayloadVec.{IpDefragPayloadVec}
use Rattle.ep_defrag.specs.declared.ip_frag_id.IpFragId.{IpFragId}
use Rattle.ep_defrag.specs.declared.bounded_limits.DefragLimits.{DefragLimits}
use Rattle.ep_defrag.specs.declared.bounded_defrag_error.BoundedDefragError.{BoundedDefragError}
use Rattle.ep_defrag.specs.declared.bounded_defrag_error.BoundedDefragError.TheVariants.{Rejected, Discarded, OverBudget}
use Rattle.ep_defrag.specs.declared.defrag_statistics.DefragStatistics.{DefragStatistics}
use Rattle.ep_defrag.specs.declared.evicted_stream.EvictionCause.TheVariants.{Overlap, Bytes}
use Rattle.ep_defrag.specs.IpFragments.{IpFragment, fragment_end, is_complete, reach_of, end_of}
use Rattle.ep_defrag.specs.FragmentRefusals.{MayNeedMemoryWithin, refusal_within}
use Rattle.ep_defrag.specs.Pools.{plain_payload}
use Rattle.ep_defrag.specs.Calls.{Payload}
use Rattle.ep_defrag.specs.BoundedOverlaps.{contradicts, all_kept, discards_stream}
use Rattle.ep_defrag.specs.BoundedSteps.{Row, row_named, other_rows, is_open, Gone, gone_for, Step, quiet_step, rejecting_step}
use Rattle.ep_defrag.specs.BoundedSteps.{is_rejected, discards, is_accepted, fate_in, fate_at, fate_unless, accepted_before}
use Rattle.ep_defrag.specs.BoundedSteps.{row_with, discarding_step, payload_by, payload_complete, remaining, evicted_for_limits}
use Rattle.ep_defrag.specs.BoundedCounts.{FitCounters, counted, with_gone, count_gone}
use Rattle.ep_defrag.specs.BoundedSteps.{is_overlap, is_for_bytes}
use Rattle.ep_defrag.specs.BoundedNames.{HoldsState}
use Rattle.ep_defrag.specs.BoundedAnswers.{plain_bounded, is_starvation, ReturnsPayload, payload_held}
use Rattle.ep_defrag.specs.BoundedAdding.{RejectsOrStarves}
use Rattle.ep_defrag.specs.BoundedHoldings.{with_all_gone, step_within, statistics_within}
use Rattle.ep_defrag.proofs.BoundedRowLemmas.{FateCase, by_test, by_error, by_none, fate_case, not_starved}

-- ---- reasons
-- A fragment is rejected, or fits while an allocation for it fails.
pub reason : (limits : DefragLimits) (accepted : Option (List IpFragment)) (fragment : IpFragment)
    (error : BoundedDefragError) → RejectsOrStarves limits accepted fragment error
    → (fate_in limits accepted fragment ≡ is_rejected error)
    ⊎ ((fate_in limits accepted fragment ≡ is_accepted)
    × MayNeedMemoryWithin limits.payload (unwrap_or accepted []) fragment
    × (error ≡ Rejected (AllocationFailure (fragment_end fragment))))
reason limits None fragment error why = inl why
reason limits (Some accepted) fragment error why = why

fed_error : (limit : ℕ) (accepted : List IpFragment) (fragment : IpFragment) (test : Bool)
    (refused : Option IpDefragError)
    → refused ≡ refusal_within limit accepted fragment → FateCase test refused → (error : BoundedDefragError)
    → fate_unless test refused ≡ is_rejected error → is_starvation error ≡ false
fed_error limit accepted fragment test refused is (by_test met fate) error rejected =
    absurd (let no : discards ≡ is_rejected error = sym fate ∙ rejected in cc)
fed_error limit accepted fragment test refused is (by_error own unmet some fate) error rejected =
    let same : is_rejected (Rejected own) ≡ is_rejected error = sym fate ∙ rejected in
    let errors : Rejected own ≡ error = cc in
    ap is_starvation (sym errors)
    ∙ not_starved limit (end_of accepted) (reach_of accepted) fragment own (sym is ∙ some)
fed_error limit accepted fragment test refused is (by_none unmet none fate) error rejected =
    absurd (let no : is_accepted ≡ is_rejected error = sym fate ∙ rejected in cc)

-- The error of a rejected fragment is no failed allocation.
pub fed : (limits : DefragLimits) (accepted : Option (List IpFragment)) (fragment : IpFragment)
    (error : BoundedDefragError)
    → fate_in limits accepted fragment ≡ is_rejected error → is_starvation error ≡ false
fed limits None fragment error rejected =
    let same : Discarded ≡ error = cc in
    ap is_starvation (sym same)
fed limits (Some accepted) fragment error rejected =
    let refused = refusal_within limits.payload accepted fragment in
    let test = discards_stream limits.overlap refused (contradicts (all_kept limits.overlap accepted) fragment) in
    fed_error limits.payload accepted fragment test refused refl (fate_case test refused) error rejected

-- memory granted for a fragment, which is rejected or for which an allocation fails
pub granted_unless : Bool → Option ℕ
granted_unless true = None
granted_unless false = Some 0

pub granted_is : (starved : Bool) → is_some (granted_unless starved) ≡ not starved
unfolding granted_unless
granted_is true = refl
granted_is false = refl

-- ---- counters
uncounted : (n : ℕ) → n < 2 ^ 64 → n ≡ counted n 0
uncounted n fits = omega (arith, fits)

-- counters after a stream began, or not
abbrev pub with_begun : DefragStatistics → Bool → DefragStatistics
with_begun old begins = record old { begun = counted old.begun (cond begins 1 0) }

pub not_begun : (old : DefragStatistics) → FitCounters old → old ≡ with_begun old false
not_begun old fits = λ i. record old { begun = uncounted old.begun fits.begun i }

module _ {C : Type 0} (old : DefragStatistics) (fits : FitCounters old) where
  pub none_counted : (rows : List (Row C)) (error : BoundedDefragError)
      → old ≡ statistics_within old (rejecting_step rows error)
  none_counted rows error = λ i. record old {
    begun = uncounted old.begun fits.begun i;
    completed = uncounted old.completed fits.completed i;
    discarded = uncounted old.discarded fits.discarded i;
    expired = uncounted old.expired fits.expired i;
    evicted_for_streams = uncounted old.evicted_for_streams fits.evicted_for_streams i;
    evicted_for_bytes = uncounted old.evicted_for_bytes fits.evicted_for_bytes i;
  }

  pub discard_counted : (rows : List (Row C)) (gone : Row C) → is_open gone ≡ true → (step : Step C)
      → step ≡ record (rejecting_step rows Discarded) { gone = gone_for Overlap gone ∷ [] }
      → with_gone old Overlap ≡ statistics_within old step
  discard_counted rows gone opens step is =
      let one : counted old.discarded 1 ≡ counted old.discarded (count_gone is_overlap (gone_for Overlap gone ∷ [])) =
      rw opens refl in
      (λ i. record old {
        begun = uncounted old.begun fits.begun i;
        completed = uncounted old.completed fits.completed i;
        discarded = one i;
        expired = uncounted old.expired fits.expired i;
        evicted_for_streams = uncounted old.evicted_for_streams fits.evicted_for_streams i;
        evicted_for_bytes = uncounted old.evicted_for_bytes fits.evicted_for_bytes i;
      })
      ∙ ap (statistics_within old) (sym is)

  pub completion_counted : (rows : List (Row C)) (begins : Bool) (payload : Payload) (accepted : List IpFragment)
      → record (with_begun old begins) { completed = counted old.completed 1 }
      ≡ statistics_within old (record (quiet_step rows) {
        begun = begins;
        answer = payload_complete payload;
        completed = accepted;
      })
  completion_counted rows begins payload accepted = λ i. record (with_begun old begins) {
    completed = counted old.completed 1;
    discarded = uncounted old.discarded fits.discarded i;
    expired = uncounted old.expired fits.expired i;
    evicted_for_streams = uncounted old.evicted_for_streams fits.evicted_for_streams i;
    evicted_for_bytes = uncounted old.evicted_for_bytes fits.evicted_for_bytes i;
  }

  pub over_budget_counted : (rows : List (Row C)) (begins : Bool) (gone : Row C) → is_open gone ≡ true
      → with_gone (with_begun old begins) Bytes
      ≡ statistics_within old (record (rejecting_step rows OverBudget) {
        gone = gone_for Bytes gone ∷ [];
        begun = begins;
      })
  over_budget_counted rows begins gone opens =
      let one : counted old.evicted_for_bytes 1
      ≡ counted old.evicted_for_bytes (count_gone is_for_bytes (gone_for Bytes gone ∷ [])) = rw opens refl in
      λ i. record (with_begun old begins) {
        completed = uncounted old.completed fits.completed i;
        discarded = uncounted old.discarded fits.discarded i;
        expired = uncounted old.expired fits.expired i;
        evicted_for_streams = uncounted old.evicted_for_streams fits.evicted_for_streams i;
        evicted_for_bytes = one i;
      }

  pub evictions_counted : (rows : List (Row C)) (begins : Bool) (gone : List (Gone C))
      → with_all_gone (with_begun old begins) gone
      ≡ statistics_within old (record (quiet_step rows) { gone = gone; begun = begins })
  evictions_counted rows begins gone = λ i. record (with_all_gone (with_begun old begins) gone) {
    completed = uncounted old.completed fits.completed i;
  }

-- ---- the payload
plain_of : (result : Option IpDefragPayloadVec) (payload : Payload) → option_map plain_payload result ≡ Some payload
    → plain_bounded (Ok result) ≡ payload_complete payload
plain_of None payload is = absurd (cc)
plain_of (Some vec) payload is =
    let same : plain_payload vec ≡ payload = cc in
    ap payload_complete same

pub payload_returned : {C : Type 0} (limits : DefragLimits) (id own : IpFragId C) (buffer : Option IpDefragBuf)
    (accepted : List IpFragment) (result : Option IpDefragPayloadVec) → HoldsState limits buffer (Some accepted)
    → id ≡ own → ReturnsPayload id buffer result
    → plain_bounded (Ok result) ≡ payload_complete (payload_by limits own accepted)
payload_returned limits id own None accepted result holds same returned = absurd holds
payload_returned limits id own (Some buffer) accepted result holds same returned =
    plain_of result (payload_held id buffer) returned
    ∙ (λ i. payload_complete (record (payload_held (same i) buffer) { bytes = holds.contents.contents i }))

-- ---- steps
module _ {C : Type 0} (eq : C → C → Bool) (limits : DefragLimits) (rows : List (Row C)) (name : IpFragId C)
    (fragment : IpFragment) (now number : ℕ) (found : Option (Row C)) (named : row_named eq name rows ≡ found) where
  abbrev step_of : Option ℕ → Step C
  step_of granted = step_within limits eq rows name fragment now number granted

  pub rejected_step : (granted : Option ℕ) (error : BoundedDefragError)
      → fate_at limits found fragment ≡ is_rejected error
      → rejecting_step rows error ≡ step_of granted
  rejected_step granted error fate = rw (named, fate) refl

  pub starved_step : fate_at limits found fragment ≡ is_accepted
      → rejecting_step rows (Rejected (AllocationFailure (fragment_end fragment))) ≡ step_of None
  starved_step fate = rw (named, fate) refl

  pub discards_step : (granted : Option ℕ) → fate_at limits found fragment ≡ discards
      → discarding_step eq name rows ≡ step_of granted
  discards_step granted fate = rw (named, fate) refl

  module _ (fate : fate_at limits found fragment ≡ is_accepted) (others : List (Row C))
      (apart : other_rows eq name rows ≡ others) (space : ℕ) where
    -- row of the name with the fragment
    abbrev pub own : Row C
    own = row_with found name fragment now number space

    -- accepted fragments of the name with the fragment
    abbrev pub more : List IpFragment
    more = accepted_before found ++ fragment ∷ []

    pub complete_step : is_complete more ≡ true
        → record (quiet_step others) {
          begun = not (is_some found);
          answer = payload_complete (payload_by limits own.id more);
          completed = more;
        }
        ≡ step_of (Some space)
    complete_step complete = rw (named, fate, named, apart, complete) refl

    pub over_budget_step : is_complete more ≡ false → nat_lt limits.bytes space ≡ true
        → record (rejecting_step others OverBudget) {
          gone = gone_for Bytes (unwrap_or found own) ∷ [];
          begun = not (is_some found);
        }
        ≡ step_of (Some space)
    over_budget_step part over = rw (named, fate, named, apart, part, over) refl

    pub settled_step : is_complete more ≡ false → nat_lt limits.bytes space ≡ false
        → record (quiet_step (remaining limits (others ++ own ∷ []))) {
          gone = evicted_for_limits limits (others ++ own ∷ []);
          begun = not (is_some found);
        }
        ≡ step_of (Some space)
    settled_step part within = rw (named, fate, named, apart, part, within) refl
