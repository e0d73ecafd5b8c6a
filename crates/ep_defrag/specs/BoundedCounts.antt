-- The counters of a bounded pool.
use Rattle.std.specs.Prelude.{◌≡◌, ℕ, ◌+◌, ◌-◌, ◌<◌, ◌^◌, Bool, true, false, ◌&&◌, if◌then◌else◌, min, Some}
use Rattle.std.specs.Prelude.{Result, Ok, Err, List, [], ◌∷◌}
use Rattle.std.specs.List.{count_by}
use Rattle.ep_defrag.specs.declared.ip_defrag_error.IpDefragError.{IpDefragError}
use Rattle.ep_defrag.specs.declared.ip_defrag_error.IpDefragError.TheVariants.{UnalignedFragmentPayloadLen}
use Rattle.ep_defrag.specs.declared.ip_defrag_error.IpDefragError.TheVariants.{SegmentTooBig, ConflictingEnd}
use Rattle.ep_defrag.specs.declared.ip_defrag_error.IpDefragError.TheVariants.{AllocationFailure}
use Rattle.ep_defrag.specs.declared.bounded_defrag_error.BoundedDefragError.{BoundedDefragError}
use Rattle.ep_defrag.specs.declared.bounded_defrag_error.BoundedDefragError.TheVariants.{Rejected, Discarded, OverBudget}
use Rattle.ep_defrag.specs.declared.evicted_stream.EvictionCause.{EvictionCause}
use Rattle.ep_defrag.specs.declared.evicted_stream.EvictionCause.TheVariants.{Expired, Overlap, Streams, Bytes}
use Rattle.ep_defrag.specs.declared.departure.Departure.{Departure}
use Rattle.ep_defrag.specs.declared.departure.Departure.TheVariants.{Completed, Removed, Evicted}
use Rattle.ep_defrag.specs.declared.defrag_statistics.DefragStatistics.{DefragStatistics}
use Rattle.ep_defrag.specs.declared.bounded_limits.DefragLimits.{DefragLimits}
use Rattle.ep_defrag.specs.BoundedSteps.{Row, call_step, Gone, Step, is_open, BoundedAnswer, fragment_rejected, payload_complete}
use Rattle.ep_defrag.specs.BoundedSteps.{nothing_complete, BoundedCall, gives_fragment, is_expiry, is_overlap}
use Rattle.ep_defrag.specs.BoundedSteps.{is_for_streams, is_for_bytes}
use Rattle.ep_defrag.specs.BoundedRuns.{Made}

-- counter after `more` further events; it stays at its greatest value
abbrev pub counted : ℕ → ℕ → ℕ
counted count more = min (count + more) (2 ^ 64 - 1)

-- counters of a new pool
abbrev pub no_statistics : DefragStatistics
no_statistics = record {
  begun = 0;
  completed = 0;
  discarded = 0;
  expired = 0;
  evicted_for_streams = 0;
  evicted_for_bytes = 0;
  removed = 0;
  accepted = 0;
  rejected_unaligned = 0;
  rejected_too_big = 0;
  rejected_conflicting_end = 0;
  rejected_out_of_memory = 0;
  rejected_discarded = 0;
  rejected_over_budget = 0;
}

-- Holds if each counter fits 64 bits.
pub record FitCounters (counters : DefragStatistics) : Type 0 where
  pub begun : counters.begun < 2 ^ 64
  pub completed : counters.completed < 2 ^ 64
  pub discarded : counters.discarded < 2 ^ 64
  pub expired : counters.expired < 2 ^ 64
  pub evicted_for_streams : counters.evicted_for_streams < 2 ^ 64
  pub evicted_for_bytes : counters.evicted_for_bytes < 2 ^ 64
  pub removed : counters.removed < 2 ^ 64
  pub accepted : counters.accepted < 2 ^ 64
  pub rejected_unaligned : counters.rejected_unaligned < 2 ^ 64
  pub rejected_too_big : counters.rejected_too_big < 2 ^ 64
  pub rejected_conflicting_end : counters.rejected_conflicting_end < 2 ^ 64
  pub rejected_out_of_memory : counters.rejected_out_of_memory < 2 ^ 64
  pub rejected_discarded : counters.rejected_discarded < 2 ^ 64
  pub rejected_over_budget : counters.rejected_over_budget < 2 ^ 64

-- Holds if the counters add up: each stream that began was completed, discarded, evicted or removed while it was open,
-- or is one of the open streams, unless the number of streams that began has its greatest value.
abbrev pub AddUp : DefragStatistics → ℕ → Type 0
AddUp counters streams =
    counters.begun < 2 ^ 64 - 1 → counters.begun
    ≡ counters.completed + counters.discarded + counters.expired + counters.evicted_for_streams
    + counters.evicted_for_bytes + counters.removed + streams

-- ---- one event

-- counters after an open stream was evicted or discarded for a cause
abbrev pub with_gone : DefragStatistics → EvictionCause → DefragStatistics
with_gone old Expired = record old { expired = counted old.expired 1 }
with_gone old Overlap = record old { discarded = counted old.discarded 1 }
with_gone old Streams = record old { evicted_for_streams = counted old.evicted_for_streams 1 }
with_gone old Bytes = record old { evicted_for_bytes = counted old.evicted_for_bytes 1 }

-- counters after an open stream left the table
abbrev pub with_departure : DefragStatistics → Departure → DefragStatistics
with_departure old Completed = record old { completed = counted old.completed 1 }
with_departure old Removed = record old { removed = counted old.removed 1 }
with_departure old (Evicted cause) = with_gone old cause

-- counters after a fragment was rejected with an error of a buffer
abbrev pub with_rejected : DefragStatistics → IpDefragError → DefragStatistics
with_rejected old (UnalignedFragmentPayloadLen offset payload_len) =
    record old { rejected_unaligned = counted old.rejected_unaligned 1 }
with_rejected old (SegmentTooBig offset payload_len max) =
    record old { rejected_too_big = counted old.rejected_too_big 1 }
with_rejected old (ConflictingEnd previous_end conflicting_end) =
    record old { rejected_conflicting_end = counted old.rejected_conflicting_end 1 }
with_rejected old (AllocationFailure len) =
    record old { rejected_out_of_memory = counted old.rejected_out_of_memory 1 }

-- counters after the answer to a fragment
abbrev pub with_answer : {X : Type 0} → DefragStatistics → Result X BoundedDefragError → DefragStatistics
with_answer old (Ok value) = record old { accepted = counted old.accepted 1 }
with_answer old (Err (Rejected error)) = with_rejected old error
with_answer old (Err Discarded) = record old { rejected_discarded = counted old.rejected_discarded 1 }
with_answer old (Err OverBudget) = record old { rejected_over_budget = counted old.rejected_over_budget 1 }

-- ---- one call

-- number of open streams that were evicted or discarded for a cause
abbrev pub count_gone : {C : Type 0} → (EvictionCause → Bool) → List (Gone C) → ℕ
count_gone is_cause gone = count_by (λ one. is_cause one.cause && is_open one.row) gone

-- numbers of the answers to fragments: accepted, and rejected with each error
pub record AnswerCounts : Type 0 where
  pub accepted : ℕ
  pub unaligned : ℕ
  pub too_big : ℕ
  pub conflicting_end : ℕ
  pub out_of_memory : ℕ
  pub discarded : ℕ
  pub over_budget : ℕ

abbrev pub no_answers : AnswerCounts
no_answers = record {
  accepted = 0;
  unaligned = 0;
  too_big = 0;
  conflicting_end = 0;
  out_of_memory = 0;
  discarded = 0;
  over_budget = 0;
}

abbrev pub one_rejected : IpDefragError → AnswerCounts
one_rejected (UnalignedFragmentPayloadLen offset payload_len) = record no_answers { unaligned = 1 }
one_rejected (SegmentTooBig offset payload_len max) = record no_answers { too_big = 1 }
one_rejected (ConflictingEnd previous_end conflicting_end) = record no_answers { conflicting_end = 1 }
one_rejected (AllocationFailure len) = record no_answers { out_of_memory = 1 }

abbrev pub one_error : BoundedDefragError → AnswerCounts
one_error (Rejected error) = one_rejected error
one_error Discarded = record no_answers { discarded = 1 }
one_error OverBudget = record no_answers { over_budget = 1 }

abbrev pub one_answer : BoundedAnswer → AnswerCounts
one_answer (fragment_rejected error) = one_error error
one_answer (payload_complete payload) = record no_answers { accepted = 1 }
one_answer nothing_complete = record no_answers { accepted = 1 }

-- answer counts of a call: none, unless it passes a fragment
abbrev pub answers_of_call : {C : Type 0} → BoundedCall C → BoundedAnswer → AnswerCounts
answers_of_call (gives_fragment (Some given) now) answer = one_answer answer
answers_of_call call answer = no_answers

-- whether a step returned a payload
abbrev pub is_payload : BoundedAnswer → Bool
is_payload (fragment_rejected error) = false
is_payload (payload_complete payload) = true
is_payload nothing_complete = false

-- counters after a call with this step
abbrev pub statistics_with : {C : Type 0} → DefragStatistics → BoundedCall C → Step C → DefragStatistics
statistics_with old call step = let answers = answers_of_call call step.answer in record {
  begun = counted old.begun (if step.begun then 1 else 0);
  completed = counted old.completed (if is_payload step.answer then 1 else 0);
  discarded = counted old.discarded (count_gone is_overlap step.gone);
  expired = counted old.expired (count_gone is_expiry step.gone);
  evicted_for_streams = counted old.evicted_for_streams (count_gone is_for_streams step.gone);
  evicted_for_bytes = counted old.evicted_for_bytes (count_gone is_for_bytes step.gone);
  removed = counted old.removed (count_by is_open step.removed);
  accepted = counted old.accepted answers.accepted;
  rejected_unaligned = counted old.rejected_unaligned answers.unaligned;
  rejected_too_big = counted old.rejected_too_big answers.too_big;
  rejected_conflicting_end = counted old.rejected_conflicting_end answers.conflicting_end;
  rejected_out_of_memory = counted old.rejected_out_of_memory answers.out_of_memory;
  rejected_discarded = counted old.rejected_discarded answers.discarded;
  rejected_over_budget = counted old.rejected_over_budget answers.over_budget;
}

-- counters after a list of calls, from this table and these counters on, with the number of the first call
abbrev pub statistics_from : {C : Type 0} → DefragLimits → (C → C → Bool) → List (Row C) → ℕ → DefragStatistics
    → List (Made C) → DefragStatistics
statistics_from limits eq rows number old [] = old
statistics_from limits eq rows number old (made ∷ later) =
    let step = call_step limits eq rows made.call number made.granted in
    statistics_from limits eq step.rows (number + 1) (statistics_with old made.call step) later
