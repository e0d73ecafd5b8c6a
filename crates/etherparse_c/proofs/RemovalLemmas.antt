-- Removal of a stream from a bounded pool by the identifier that C passes.
use Rattle.std.proofs.Common.{◌≡◌, ◌∙◌, refl, sym, ap, subst, inl, inr, arith, ℕ, ◌==◌, ◌<◌, ◌≤◌, ◌^◌, nat_eq}
use Rattle.std.proofs.Common.{Bool, true, false, not, if◌then◌else◌, List, [], ◌∷◌, length, take, Option, Some, None}
use Rattle.std.specs.Prelude.{is_some, slice_index}
use Rattle.std.specs.List.{All, AllZip, count_by, filter, find}
use Rattle.std.proofs.lemmas.Bool.{cases_Bool, false≢true}
use Rattle.std.proofs.lemmas.Cmp.{nat_eq_equiv, nat_list_eq_equiv}
use Rattle.std.proofs.lemmas.List.Elements.{All-cons, All-nil, All-weaker}
use Rattle.etherparse.specs.BoundedCounts.{FitCounters, counted, statistics_with}
use Rattle.etherparse.specs.BoundedPools.{DoesStep, HoldsRows, limits_in, statistics_in}
use Rattle.etherparse.specs.BoundedSteps.{Row, call_step, is_open, removes_name, row_named}
use Rattle.etherparse.specs.Streams.{same_stream, same_version}
use Rattle.etherparse.specs.Types.DefragStatistics.{DefragStatistics}
use Rattle.etherparse.specs.Types.DefragLimits.{DefragLimits}
use Rattle.etherparse.specs.Types.IpFragId.{IpFragId}
use Rattle.etherparse.specs.Types.IpFragVersionSpecId.{IpFragVersionSpecId}
use Rattle.etherparse.specs.Types.IpFragVersionSpecId.TheVariants.{Ipv4, Ipv6}
use Rattle.etherparse_c.specs.BoundedPoolAnswers.{IsStreamId, KeepsNames, stream_of_version, stream_part}
use Rattle.etherparse_c.specs.declared.bounded_state.BoundedState.{BoundedState}
use Rattle.etherparse_c.specs.declared.defrag_values.StreamId.{StreamId}

-- ---- identifiers

-- the three VLAN identifiers, and 0 for absent ones
abbrev padded : List ℕ → List ℕ
padded items = slice_index items 0 ∷ slice_index items 1 ∷ slice_index items 2 ∷ []

without_padding : (items : List ℕ) → length items ≤ 3 → take (length items) (padded items) ≡ items
without_padding [] few = refl
without_padding (a ∷ []) few = refl
without_padding (a ∷ b ∷ []) few = refl
without_padding (a ∷ b ∷ c ∷ []) few = refl
without_padding (a ∷ b ∷ c ∷ d ∷ more) few = absurd (omega (arith, few))

-- the identifier with C's numbers
abbrev id_of : StreamId → IpFragId ℕ
id_of part = record {
  vlan_ids = record { items = take part.vlan_id_count part.vlan_ids };
  ip = if part.version == 4 then Ipv4 part.ipv4_source part.ipv4_destination part.identification
      else Ipv6 part.ipv6_source part.ipv6_destination part.identification;
  payload_ip_number = record { 0 = part.ip_number };
  channel_id = part.channel;
}

id_of_version : (id : IpFragId ℕ) (ip : IpFragVersionSpecId) → length id.vlan_ids.items ≤ 3
    → id_of (stream_of_version id ip) ≡ record id { ip = ip }
id_of_version id (Ipv4 source destination number) few =
    λ i. record id {
      vlan_ids = record { items = without_padding id.vlan_ids.items few i };
      ip = Ipv4 source destination number;
    }
id_of_version id (Ipv6 source destination number) few =
    λ i. record id {
      vlan_ids = record { items = without_padding id.vlan_ids.items few i };
      ip = Ipv6 source destination number;
    }

count_of : (id : IpFragId ℕ) (ip : IpFragVersionSpecId)
    → (stream_of_version id ip).vlan_id_count ≡ length id.vlan_ids.items
count_of id (Ipv4 source destination number) = refl
count_of id (Ipv6 source destination number) = refl

-- Two identifiers with equal numbers are equal, if a stream can have one of them.
same_id : (a b : IpFragId ℕ) → IsStreamId a → stream_part a ≡ stream_part b → a ≡ b
same_id a b fits same =
    let counts = sym (count_of b b.ip) ∙ ap (λ (part : StreamId). part.vlan_id_count) (sym same) ∙ count_of a a.ip in
    let few : length b.vlan_ids.items ≤ 3 = omega (arith, counts, fits.few) in
    sym (id_of_version a a.ip fits.few) ∙ ap id_of same ∙ id_of_version b b.ip few

version_refl : (ip : IpFragVersionSpecId) → same_version ip ip ≡ true
version_refl (Ipv4 source destination number) =
    rw (nat_list_eq_equiv.refl source, nat_list_eq_equiv.refl destination, nat_eq_equiv.refl number) refl
version_refl (Ipv6 source destination number) =
    rw (nat_list_eq_equiv.refl source, nat_list_eq_equiv.refl destination, nat_eq_equiv.refl number) refl

stream_refl : (id : IpFragId ℕ) → same_stream nat_eq id id ≡ true
stream_refl id =
    rw (
      nat_list_eq_equiv.refl id.vlan_ids.items,
      version_refl id.ip,
      nat_eq_equiv.refl id.payload_ip_number.0,
      nat_eq_equiv.refl id.channel_id,
    ) refl

-- ---- a test that no element passes

module _ {X : Type 0} (test : X → Bool) where
  none_passes : (xs : List X) → find test xs ≡ None → filter test xs ≡ []
  none_passes [] none = refl
  none_passes (x ∷ xs) none = elim (cases_Bool (test x)) [
    | inl passes ↦ absurd (let some : Some x ≡ None = rw passes at none in cc)
    | inr fails ↦
        let rest : find test xs ≡ None = rw fails at none in
        rw fails (none_passes xs rest)
  ]

  all_stay : (xs : List X) → find test xs ≡ None → filter (λ x. not (test x)) xs ≡ xs
  all_stay [] none = refl
  all_stay (x ∷ xs) none = elim (cases_Bool (test x)) [
    | inl passes ↦ absurd (let some : Some x ≡ None = rw passes at none in cc)
    | inr fails ↦
        let rest : find test xs ≡ None = rw fails at none in
        rw fails (ap (λ l. x ∷ l) (all_stay xs rest))
  ]

  all_fail : (xs : List X) → find test xs ≡ None → All (λ x. test x ≡ false) xs
  all_fail [] none = All-nil (λ x. test x ≡ false)
  all_fail (x ∷ xs) none = elim (cases_Bool (test x)) [
    | inl passes ↦ absurd (let some : Some x ≡ None = rw passes at none in cc)
    | inr fails ↦
        let rest : find test xs ≡ None = rw fails at none in
        All-cons (λ x. test x ≡ false) x xs fails (all_fail xs rest)
  ]

none_zipped : {X Y : Type 0} (R : X → Y → Type 0) (xs : List X) → AllZip R xs [] → xs ≡ []
none_zipped R [] all = refl
none_zipped R (x ∷ xs) all = absurd all

is_none : {X : Type 0} (found : Option X) → is_some found ≡ false → found ≡ None
is_none None none = refl
is_none (Some x) none = absurd (false≢true (sym none))

-- ---- the counters

same_count : (count : ℕ) → count < 2 ^ 64 → counted count 0 ≡ count
same_count count fits = omega (arith, fits)

same_counters : (old : DefragStatistics) (limits : DefragLimits) (id : IpFragId ℕ) (rows : List (Row ℕ))
    → FitCounters old → filter (λ row. same_stream nat_eq row.id id) rows ≡ []
    → statistics_with old (removes_name id) (call_step limits nat_eq rows (removes_name id) 0 None) ≡ old
same_counters old limits id rows fit none =
    let removed = ap {B = ℕ} (λ (gone : List (Row ℕ)). counted old.removed (count_by is_open gone)) none
    ∙ same_count old.removed fit.removed in
    λ i. record {
      begun = same_count old.begun fit.begun i;
      completed = same_count old.completed fit.completed i;
      discarded = same_count old.discarded fit.discarded i;
      expired = same_count old.expired fit.expired i;
      evicted_for_streams = same_count old.evicted_for_streams fit.evicted_for_streams i;
      evicted_for_bytes = same_count old.evicted_for_bytes fit.evicted_for_bytes i;
      removed = removed i;
      accepted = same_count old.accepted fit.accepted i;
      rejected_unaligned = same_count old.rejected_unaligned fit.rejected_unaligned i;
      rejected_too_big = same_count old.rejected_too_big fit.rejected_too_big i;
      rejected_conflicting_end = same_count old.rejected_conflicting_end fit.rejected_conflicting_end i;
      rejected_out_of_memory = same_count old.rejected_out_of_memory fit.rejected_out_of_memory i;
      rejected_discarded = same_count old.rejected_discarded fit.rejected_discarded i;
      rejected_over_budget = same_count old.rejected_over_budget fit.rejected_over_budget i;
    }

-- ---- a removal that finds no stream

-- If the pool has no stream of the identifier, its removal keeps all names.
pub keeps_names : {given : StreamId} {old new : BoundedState} (id : IpFragId ℕ) (rows : List (Row ℕ))
    → stream_part id ≡ given → is_some (row_named nat_eq id rows) ≡ false → FitCounters (statistics_in old.pool)
    → HoldsRows nat_eq old.pool rows → DoesStep nat_eq old.pool new.pool (removes_name id) 0 None rows
    → KeepsNames given old new rows
keeps_names {given} {old} {new} id rows named absent fit kept does =
    let test = λ (row : Row ℕ). same_stream nat_eq row.id id in
    let none = is_none (row_named nat_eq id rows) absent in
    let other : (row : Row ℕ) → test row ≡ false → IsStreamId row.id → stream_part row.id ≡ given → ⊥ =
    λ row differs fits same.
    let equal = same_id row.id id fits (same ∙ sym named) in
    let found = ap (λ (it : IpFragId ℕ). same_stream nat_eq it id) equal ∙ stream_refl id in
    false≢true (sym differs ∙ found) in
    record {
      others = All-weaker (λ row. test row ≡ false) (λ row. IsStreamId row.id → stream_part row.id ≡ given → ⊥) other
          rows (all_fail test rows none);
      alike = record {
        first = kept;
        second = subst (HoldsRows nat_eq new.pool) (all_stay test rows none) does.holds;
        limits = does.limits;
        statistics = does.statistics
            ∙ same_counters (statistics_in old.pool) (limits_in old.pool) id rows fit (none_passes test rows none);
      };
      evicted = none_zipped _ _ does.evicted;
    }
