-- Counters of a bounded pool after a fragment.
use Rattle.std.proofs.Common.{◌≡◌, ℕ, ◌+◌, ◌^◌, ◌<◌, ◌&&◌, Bool, cond, List, ◌++◌, Option, Some, None, is_some, Result, Ok, Err}
use Rattle.std.proofs.Common.{refl, sym, ap, ◌∙◌, arith}
use Rattle.std.proofs.lemmas.List.Sums.{sum_by-append}
use Rattle.ep_defrag.specs.declared.ip_defrag_buf.IpDefragBuf.{IpDefragBuf}
use Rattle.ep_defrag.specs.declared.ip_defrag_error.IpDefragError.TheVariants.{UnalignedFragmentPayloadLen, SegmentTooBig, ConflictingEnd, AllocationFailure}
use Rattle.ep_defrag.specs.declared.ip_defrag_payload_vec.IpDefragPayloadVec.{IpDefragPayloadVec}
use Rattle.ep_defrag.specs.declared.bounded_defrag_error.BoundedDefragError.{BoundedDefragError}
use Rattle.ep_defrag.specs.declared.bounded_defrag_error.BoundedDefragError.TheVariants.{Rejected, Discarded, OverBudget}
use Rattle.ep_defrag.specs.declared.defrag_statistics.DefragStatistics.{DefragStatistics}
use Rattle.ep_defrag.specs.declared.evicted_stream.EvictionCause.{EvictionCause}
use Rattle.ep_defrag.specs.declared.evicted_stream.EvictionCause.TheVariants.{Expired}
use Rattle.ep_defrag.specs.declared.departure.Departure.TheVariants.{Evicted}
use Rattle.ep_defrag.specs.BoundedSteps.{Gone, is_open, is_expiry, is_overlap, is_for_streams, is_for_bytes}
use Rattle.ep_defrag.specs.BoundedCounts.{AddUp, counted, count_gone, FitCounters, AnswerCounts, no_answers, one_answer, with_answer}
use Rattle.ep_defrag.specs.BoundedHoldings.{after_departure, with_all_gone}
use Rattle.ep_defrag.specs.BoundedAnswers.{plain_bounded}
use Rattle.ep_defrag.proofs.CounterLemmas.{counted_none}

-- ---- the answer
-- counters with these events of streams
abbrev events : DefragStatistics → (begun completed discarded expired streams bytes : ℕ) → DefragStatistics
events old begun completed discarded expired streams bytes = record old {
  begun = begun;
  completed = completed;
  discarded = discarded;
  expired = expired;
  evicted_for_streams = streams;
  evicted_for_bytes = bytes;
}

-- counters with these events, and with the answers that were counted
abbrev pub answered : DefragStatistics → (begun completed discarded expired streams bytes : ℕ) → AnswerCounts
    → DefragStatistics
answered old begun completed discarded expired streams bytes answers =
    record (events old begun completed discarded expired streams bytes) {
      removed = counted old.removed 0;
      accepted = counted old.accepted answers.accepted;
      rejected_unaligned = counted old.rejected_unaligned answers.unaligned;
      rejected_too_big = counted old.rejected_too_big answers.too_big;
      rejected_conflicting_end = counted old.rejected_conflicting_end answers.conflicting_end;
      rejected_out_of_memory = counted old.rejected_out_of_memory answers.out_of_memory;
      rejected_discarded = counted old.rejected_discarded answers.discarded;
      rejected_over_budget = counted old.rejected_over_budget answers.over_budget;
    }

module _ (old : DefragStatistics) (fit : FitCounters old) (begun completed discarded expired streams bytes : ℕ) where
  none_answered : events old begun completed discarded expired streams bytes
      ≡ answered old begun completed discarded expired streams bytes no_answers
  none_answered =
      let same : (count : ℕ) → count < 2 ^ 64 → count ≡ counted count 0 = λ count fits. sym (counted_none count fits) in
      λ i. record (events old begun completed discarded expired streams bytes) {
        removed = same old.removed fit.removed i;
        accepted = same old.accepted fit.accepted i;
        rejected_unaligned = same old.rejected_unaligned fit.rejected_unaligned i;
        rejected_too_big = same old.rejected_too_big fit.rejected_too_big i;
        rejected_conflicting_end = same old.rejected_conflicting_end fit.rejected_conflicting_end i;
        rejected_out_of_memory = same old.rejected_out_of_memory fit.rejected_out_of_memory i;
        rejected_discarded = same old.rejected_discarded fit.rejected_discarded i;
        rejected_over_budget = same old.rejected_over_budget fit.rejected_over_budget i;
      }

  -- One counter counts the answer.
  pub answer_counted : (result : Result (Option IpDefragPayloadVec) BoundedDefragError)
      → with_answer (events old begun completed discarded expired streams bytes) result
      ≡ answered old begun completed discarded expired streams bytes (one_answer (plain_bounded result))
  answer_counted (Ok None) = λ i. record (none_answered i) { accepted = counted old.accepted 1 }
  answer_counted (Ok (Some payload)) = λ i. record (none_answered i) { accepted = counted old.accepted 1 }
  answer_counted (Err (Rejected (UnalignedFragmentPayloadLen offset payload_len))) =
      λ i. record (none_answered i) { rejected_unaligned = counted old.rejected_unaligned 1 }
  answer_counted (Err (Rejected (SegmentTooBig offset payload_len max))) =
      λ i. record (none_answered i) { rejected_too_big = counted old.rejected_too_big 1 }
  answer_counted (Err (Rejected (ConflictingEnd previous_end conflicting_end))) =
      λ i. record (none_answered i) { rejected_conflicting_end = counted old.rejected_conflicting_end 1 }
  answer_counted (Err (Rejected (AllocationFailure len))) =
      λ i. record (none_answered i) { rejected_out_of_memory = counted old.rejected_out_of_memory 1 }
  answer_counted (Err Discarded) =
      λ i. record (none_answered i) { rejected_discarded = counted old.rejected_discarded 1 }
  answer_counted (Err OverBudget) =
      λ i. record (none_answered i) { rejected_over_budget = counted old.rejected_over_budget 1 }

-- The counters after a step that neither begins a stream nor answers a fragment.
pub counters_of : (old : DefragStatistics) → FitCounters old → (discarded expired streams bytes removed : ℕ)
    → discarded ≡ 0 → streams ≡ 0 → bytes ≡ 0
    → record old { expired = counted old.expired expired; removed = counted old.removed removed }
    ≡ record
    (answered old (counted old.begun 0) (counted old.completed 0) (counted old.discarded discarded)
    (counted old.expired expired) (counted old.evicted_for_streams streams) (counted old.evicted_for_bytes bytes)
    no_answers) { removed = counted old.removed removed }
counters_of old fit discarded expired streams bytes removed none_discarded none_streams none_bytes =
    let same : (count : ℕ) → count < 2 ^ 64 → (more : ℕ) → more ≡ 0 → count ≡ counted count more =
    λ count fits more none. sym (ap {B = ℕ} (counted count) none ∙ counted_none count fits) in
    (λ i. record old {
      begun = same old.begun fit.begun 0 refl i;
      completed = same old.completed fit.completed 0 refl i;
      discarded = same old.discarded fit.discarded discarded none_discarded i;
      expired = counted old.expired expired;
      evicted_for_streams = same old.evicted_for_streams fit.evicted_for_streams streams none_streams i;
      evicted_for_bytes = same old.evicted_for_bytes fit.evicted_for_bytes bytes none_bytes i;
      removed = counted old.removed removed;
    })
    ∙ ap (λ (counters : DefragStatistics). record counters { removed = counted old.removed removed })
    (none_answered old fit (counted old.begun 0) (counted old.completed 0) (counted old.discarded discarded)
    (counted old.expired expired) (counted old.evicted_for_streams streams) (counted old.evicted_for_bytes bytes))

-- The counters of streams are as before.
pub answer_adds_up : (old : DefragStatistics) (streams : ℕ)
    (result : Result (Option IpDefragPayloadVec) BoundedDefragError)
    → AddUp old streams → AddUp (with_answer old result) streams
answer_adds_up old streams (Ok value) sum = sum
answer_adds_up old streams (Err (Rejected (UnalignedFragmentPayloadLen offset payload_len))) sum = sum
answer_adds_up old streams (Err (Rejected (SegmentTooBig offset payload_len max))) sum = sum
answer_adds_up old streams (Err (Rejected (ConflictingEnd previous_end conflicting_end))) sum = sum
answer_adds_up old streams (Err (Rejected (AllocationFailure len))) sum = sum
answer_adds_up old streams (Err Discarded) sum = sum
answer_adds_up old streams (Err OverBudget) sum = sum

-- ---- the evictions
-- An open stream that was evicted for its age is counted once.
pub expired_once : (old : DefragStatistics) → FitCounters old → (buffer : Option IpDefragBuf)
    → after_departure old buffer (Evicted Expired)
    ≡ record old { expired = counted old.expired (cond (is_some buffer) 1 0) }
expired_once old fit None = λ i. record old { expired = sym (counted_none old.expired fit.expired) i }
expired_once old fit (Some buffer) = refl

module _ {C : Type 0} (gone later : List (Gone C)) where
  both_gone : (is_cause : EvictionCause → Bool)
      → count_gone is_cause (gone ++ later) ≡ count_gone is_cause gone + count_gone is_cause later
  both_gone is_cause = sum_by-append (λ (one : Gone C). cond (is_cause one.cause && is_open one.row) 1 0) gone later

  later_only : (count : ℕ) (is_cause : EvictionCause → Bool) → count_gone is_cause gone ≡ 0
      → counted count (count_gone is_cause later) ≡ counted count (count_gone is_cause (gone ++ later))
  later_only count is_cause none = ap {B = ℕ} (counted count) (omega (arith, both_gone is_cause, none))

  counted_both : (count : ℕ)
      → counted (counted count (count_gone is_expiry gone)) (count_gone is_expiry later)
      ≡ counted count (count_gone is_expiry (gone ++ later))
  counted_both count = omega (arith, both_gone is_expiry)

  -- The counters after streams were evicted for their age, then a fragment was processed.
  pub fragment_counted : (old : DefragStatistics) → FitCounters old → count_gone is_overlap gone ≡ 0
      → count_gone is_for_streams gone ≡ 0 → count_gone is_for_bytes gone ≡ 0 → (begun completed : ℕ)
      → (result : Result (Option IpDefragPayloadVec) BoundedDefragError)
      → with_answer
      (record (with_all_gone (record old { expired = counted old.expired (count_gone is_expiry gone) }) later) {
        begun = begun;
        completed = completed;
      })
      result
      ≡ answered old begun completed (counted old.discarded (count_gone is_overlap (gone ++ later)))
      (counted old.expired (count_gone is_expiry (gone ++ later)))
      (counted old.evicted_for_streams (count_gone is_for_streams (gone ++ later)))
      (counted old.evicted_for_bytes (count_gone is_for_bytes (gone ++ later))) (one_answer (plain_bounded result))
  fragment_counted old fit no_overlap no_streams no_bytes begun completed result =
      (λ i. with_answer
      (record old {
        begun = begun;
        completed = completed;
        discarded = later_only old.discarded is_overlap no_overlap i;
        expired = counted_both old.expired i;
        evicted_for_streams = later_only old.evicted_for_streams is_for_streams no_streams i;
        evicted_for_bytes = later_only old.evicted_for_bytes is_for_bytes no_bytes i;
      })
      result)
      ∙ answer_counted old fit begun completed (counted old.discarded (count_gone is_overlap (gone ++ later)))
      (counted old.expired (count_gone is_expiry (gone ++ later)))
      (counted old.evicted_for_streams (count_gone is_for_streams (gone ++ later)))
      (counted old.evicted_for_bytes (count_gone is_for_bytes (gone ++ later))) result
