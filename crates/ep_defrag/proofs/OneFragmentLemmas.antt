-- One fragment of a stream, in terms of the stream's entry.
use Rattle.std.proofs.Common.{◌≡◌, ℕ, true, false, List, [], ◌∷◌, ◌++◌, Option, Some, None, sym, refl, ap}
use Rattle.std.proofs.Common.{◌∙◌, ◌⊎◌, inl, inr, arith}
use Rattle.std.proofs.lemmas.Bool.{false≢true}
use Rattle.std.proofs.lemmas.List.{length_push}
use Rattle.ep_defrag.specs.declared.ip_defrag_error.IpDefragError.{IpDefragError}
use Rattle.ep_defrag.specs.declared.ip_defrag_error.IpDefragError.TheVariants.{AllocationFailure}
use Rattle.ep_defrag.specs.declared.ip_frag_id.IpFragId.{IpFragId}
use Rattle.ep_defrag.specs.IpFragments.{IpFragment, fragment_end, reach_of, end_of, is_complete}
use Rattle.ep_defrag.specs.FragmentRefusals.{refusal_within, RefusesWithin, FitsWithin, MayNeedMemoryWithin}
use Rattle.ep_defrag.specs.FragmentRefusals.{is_allocation_failure}
use Rattle.ep_defrag.specs.Buffers.{HoldsFragments, ip_number_of, data_of}
use Rattle.ep_defrag.specs.Streams.{source_of}
use Rattle.ep_defrag.specs.Calls.{Kept, accepted_in, kept_with, answer_with, Payload, payload_of, fragment_refused}
use Rattle.ep_defrag.specs.Calls.{payload_returned, no_payload}
use Rattle.ep_defrag.specs.Pools.{Stream, HoldsEntry, BufferTakes, IsWhetherComplete}
use Rattle.ep_defrag.proofs.DataLemmas.{FitAfter-push}
use Rattle.ep_defrag.proofs.RunLemmas.{no_memory}

-- ---- an error of the refusal table is no allocation failure
module _ (limit : ℕ) (accepted : List IpFragment) (fragment : IpFragment) (error : IpDefragError) where
  abbrev RefusedOrWanting : Type 0
  RefusedOrWanting =
      RefusesWithin limit accepted fragment error
      ⊎ (MayNeedMemoryWithin limit accepted fragment × (error ≡ AllocationFailure (fragment_end fragment)))

  pub refused_only : is_allocation_failure error ≡ false → RefusedOrWanting
      → refusal_within limit accepted fragment ≡ Some error
  refused_only other (inl refused) = refused
  refused_only other (inr wanting) = absurd (false≢true (sym other ∙ ap is_allocation_failure wanting.1))

  pub wanting_only : is_allocation_failure error ≡ true → RefusedOrWanting
      → MayNeedMemoryWithin limit accepted fragment × (error ≡ AllocationFailure (fragment_end fragment))
  wanting_only wants (inl refused) =
      absurd (false≢true (sym (no_memory limit (end_of accepted) (reach_of accepted) fragment error refused) ∙ wants))
  wanting_only wants (inr wanting) = wanting

-- ---- the answer, and the new entry
module _ {T : Type 0} (limit : ℕ) (kept : Option (Kept T)) (fragment : IpFragment) (timestamp : T) where
  abbrev after : List IpFragment
  after = accepted_in kept ++ fragment ∷ []

  pub kept_refused : (error : IpDefragError) → refusal_within limit (accepted_in kept) fragment ≡ Some error
      → kept_with limit kept fragment timestamp ≡ kept
  kept_refused error refuses = rw refuses refl

  pub kept_complete : FitsWithin limit (accepted_in kept) fragment → is_complete after ≡ true
      → kept_with limit kept fragment timestamp ≡ None
  kept_complete fits complete = rw (fits, complete) refl

  pub kept_more : FitsWithin limit (accepted_in kept) fragment → is_complete after ≡ false
      → kept_with limit kept fragment timestamp ≡ Some (record { accepted = after; timestamp = timestamp })
  kept_more fits partly = rw (fits, partly) refl

module _ {T C : Type 0} (limit : ℕ) (name : IpFragId C) (kept : Option (Kept T)) (fragment : IpFragment) where
  pub answer_refused : (error : IpDefragError) → refusal_within limit (accepted_in kept) fragment ≡ Some error
      → fragment_refused error ≡ answer_with limit name kept fragment
  answer_refused error refuses = rw refuses refl

  pub answer_complete : FitsWithin limit (accepted_in kept) fragment
      → is_complete (accepted_in kept ++ fragment ∷ []) ≡ true
      → payload_returned (payload_of name (accepted_in kept ++ fragment ∷ [])) ≡ answer_with limit name kept fragment
  answer_complete fits complete = rw (fits, complete) refl

  pub answer_nothing : FitsWithin limit (accepted_in kept) fragment
      → is_complete (accepted_in kept ++ fragment ∷ []) ≡ false
      → no_payload ≡ answer_with limit name kept fragment
  answer_nothing fits partly = rw (fits, partly) refl

-- ---- a stream that continues
module _ {T C : Type 0} (limit : ℕ) (stream next : Stream T C) where
  pub holds_in : (kept : Option (Kept T)) → HoldsEntry limit (Some stream) kept
      → HoldsFragments stream.buffer (accepted_in kept)
  holds_in None entry = absurd entry
  holds_in (Some kept) entry = entry.buffer

  -- An unchanged stream matches its old entry.
  pub entry_keeps : (kept : Option (Kept T)) → HoldsEntry limit (Some stream) kept
      → ((accepted : List IpFragment) → HoldsFragments stream.buffer accepted → HoldsFragments next.buffer accepted)
      → ip_number_of next.buffer ≡ ip_number_of stream.buffer → next.id ≡ stream.id
      → next.timestamp ≡ stream.timestamp → HoldsEntry limit (Some next) kept
  entry_keeps None entry keeps number id time = absurd entry
  entry_keeps (Some kept) entry keeps number id time = record {
    buffer = keeps kept.accepted entry.buffer;
    within = entry.within;
    ip_number = number ∙ entry.ip_number ∙ ap (λ (i : IpFragId C). i.payload_ip_number) (sym id);
    timestamp = time ∙ entry.timestamp;
    some = entry.some;
  }

  module _ (fragment : IpFragment) (timestamp : T) where
    -- A stream with one more fragment matches its new entry, if it is not complete.
    pub entry_more : (kept : Option (Kept T)) → HoldsEntry limit (Some stream) kept
        → BufferTakes limit stream.buffer next.buffer fragment
        → IsWhetherComplete next.buffer false
        → next.id ≡ stream.id → next.timestamp ≡ timestamp
        → HoldsEntry limit (Some next) (kept_with limit kept fragment timestamp)
    entry_more None entry takes partly id time = absurd entry
    entry_more (Some kept) entry takes partly id time =
        let now = takes.holds kept.accepted entry.buffer in
        rw (kept_more limit (Some kept) fragment timestamp (takes.fits kept.accepted entry.buffer)
        (partly (kept.accepted ++ fragment ∷ []) now)) (record {
          buffer = now;
          within = FitAfter-push limit [] kept.accepted fragment entry.within (takes.fits kept.accepted entry.buffer);
          ip_number = takes.ip_number ∙ entry.ip_number ∙ ap (λ (i : IpFragId C). i.payload_ip_number) (sym id);
          timestamp = time;
          some = omega (arith, length_push kept.accepted fragment);
        })

    -- A stream that is complete has no new entry.
    pub entry_complete : (kept : Option (Kept T)) → HoldsEntry limit (Some stream) kept
        → BufferTakes limit stream.buffer next.buffer fragment
        → IsWhetherComplete next.buffer true
        → kept_with limit kept fragment timestamp ≡ None
    entry_complete None entry takes complete = absurd entry
    entry_complete (Some kept) entry takes complete =
        kept_complete limit (Some kept) fragment timestamp (takes.fits kept.accepted entry.buffer)
        (complete (kept.accepted ++ fragment ∷ []) (takes.holds kept.accepted entry.buffer))

    -- If the fragment is rejected, the entry is unchanged.
    pub entry_refused : (kept : Option (Kept T)) (error : IpDefragError) → HoldsEntry limit (Some stream) kept
        → ((accepted : List IpFragment) → HoldsFragments stream.buffer accepted
        → refusal_within limit accepted fragment ≡ Some error)
        → ((accepted : List IpFragment) → HoldsFragments stream.buffer accepted → HoldsFragments next.buffer accepted)
        → ip_number_of next.buffer ≡ ip_number_of stream.buffer → next.id ≡ stream.id
        → next.timestamp ≡ stream.timestamp → HoldsEntry limit (Some next) (kept_with limit kept fragment timestamp)
    entry_refused None error entry refuses keeps number id time = absurd entry
    entry_refused (Some kept) error entry refuses keeps number id time =
        rw (kept_refused limit (Some kept) fragment timestamp error (refuses kept.accepted entry.buffer))
        (entry_keeps (Some kept) entry keeps number id time)

  -- The answers in these cases.
  module _ (name : IpFragId C) (fragment : IpFragment) where
    pub answered_nothing : (kept : Option (Kept T)) → HoldsEntry limit (Some stream) kept
        → BufferTakes limit stream.buffer next.buffer fragment
        → IsWhetherComplete next.buffer false
        → no_payload ≡ answer_with limit name kept fragment
    answered_nothing None entry takes partly = absurd entry
    answered_nothing (Some kept) entry takes partly =
        answer_nothing limit name (Some kept) fragment (takes.fits kept.accepted entry.buffer)
        (partly (kept.accepted ++ fragment ∷ []) (takes.holds kept.accepted entry.buffer))

    abbrev handed : List ℕ → Payload
    handed bytes = record { ip_number = name.payload_ip_number; len_source = source_of name.ip; bytes = bytes }

    pub answered_payload : (kept : Option (Kept T)) → HoldsEntry limit (Some stream) kept
        → BufferTakes limit stream.buffer next.buffer fragment
        → IsWhetherComplete next.buffer true
        → payload_returned (handed (data_of next.buffer)) ≡ answer_with limit name kept fragment
    answered_payload None entry takes complete = absurd entry
    answered_payload (Some kept) entry takes complete =
        let now = takes.holds kept.accepted entry.buffer in
        ap (λ bytes. payload_returned (handed bytes)) now.contents
        ∙ answer_complete limit name (Some kept) fragment (takes.fits kept.accepted entry.buffer)
        (complete (kept.accepted ++ fragment ∷ []) now)

    pub answered_refused : (kept : Option (Kept T)) (error : IpDefragError) → HoldsEntry limit (Some stream) kept
        → ((accepted : List IpFragment) → HoldsFragments stream.buffer accepted
        → refusal_within limit accepted fragment ≡ Some error)
        → fragment_refused error ≡ answer_with limit name kept fragment
    answered_refused None error entry refuses = absurd entry
    answered_refused (Some kept) error entry refuses =
        answer_refused limit name (Some kept) fragment error (refuses kept.accepted entry.buffer)
