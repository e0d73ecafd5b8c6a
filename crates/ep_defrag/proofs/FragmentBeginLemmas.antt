-- A bounded pool processes a fragment of a name that is not in its table, which changes no other name.
use Rattle.std.proofs.Common.{◌≡◌, ℕ, Bool, true, false, not, List, [], ◌∷◌, ◌++◌, map, Option, Some, None, Err, Contains}
use Rattle.std.proofs.Common.{append-nil, refl, sym, ap, subst, ◌∙◌, inl, inr}
use Rattle.std.specs.Cmp.{IsEquivalence}
use Rattle.std.specs.Hash.{HashWrites}
use Rattle.std.specs.List.{AllZip}
use Rattle.std.specs.Map.{lookup_entry}
use Rattle.std.specs.declared.hash.RandomState.{RandomState}
use Rattle.std.proofs.lemmas.Bool.{cases_Bool, eq-eqb, false≢true}
use Rattle.std.proofs.lemmas.List.{map-append}
use Rattle.std.specs.declared.cmp.PartialEq
use Rattle.std.specs.declared.hash.Hash
use Rattle.lru_table.specs.declared.slot.Slot.{Slot}
use Rattle.lru_table.specs.LruTable.{same_slot, entry_at, without, with_newest}
use Rattle.ep_defrag.specs.declared.ip_defrag_error.IpDefragError.{IpDefragError}
use Rattle.ep_defrag.specs.declared.ip_defrag_error.IpDefragError.TheVariants.{AllocationFailure}
use Rattle.ep_defrag.specs.declared.ip_frag_id.IpFragId.{IpFragId}
use Rattle.ep_defrag.specs.declared.held_stream.HeldStream.{HeldStream}
use Rattle.ep_defrag.specs.declared.bounded_limits.DefragLimits.{DefragLimits}
use Rattle.ep_defrag.specs.declared.bounded_defrag_error.BoundedDefragError.{BoundedDefragError}
use Rattle.ep_defrag.specs.declared.bounded_defrag_error.BoundedDefragError.TheVariants.{Rejected, Discarded}
use Rattle.ep_defrag.specs.declared.evicted_stream.EvictionCause.TheVariants.{Overlap}
use Rattle.ep_defrag.specs.declared.holdings.Holdings.{Holdings}
use Rattle.ep_defrag.specs.IpFragments.{IpFragment, fragment_end}
use Rattle.ep_defrag.specs.FragmentRefusals.{MayNeedMemoryWithin, refusal_within}
use Rattle.ep_defrag.specs.Streams.{same_stream}
use Rattle.ep_defrag.specs.BoundedOverlaps.{contradicts, all_kept, discards_stream}
use Rattle.ep_defrag.specs.BoundedSteps.{Row, gone_for, rejecting_step, discarding_step}
use Rattle.ep_defrag.specs.BoundedSteps.{is_rejected, discards, is_accepted, fate_in, fate_unless, accepted_before}
use Rattle.ep_defrag.specs.BoundedCounts.{FitCounters}
use Rattle.ep_defrag.specs.KeyedHashes.{name_hash}
use Rattle.ep_defrag.specs.BoundedNames.{HeldName, names_of, AreHashed, HoldsState, HoldsRow, HoldsNames, Reports}
use Rattle.ep_defrag.specs.BoundedAnswers.{is_starvation}
use Rattle.ep_defrag.specs.BoundedAdding.{StreamRejects, StreamDiscards, StreamAccepts}
use Rattle.ep_defrag.specs.BoundedHoldings.{names_held, DoesFragmentStep, TakesFragmentStep}
use Rattle.ep_defrag.proofs.StreamLemmas.{same_stream_laws}
use Rattle.ep_defrag.proofs.KeyedHashLemmas.{same_hash}
use Rattle.ep_defrag.proofs.HeldNameLemmas.{StreamEntries}
use Rattle.ep_defrag.proofs.BoundedRowLemmas.{FateCase, by_test, by_error, by_none, fate_case}
use Rattle.ep_defrag.proofs.RowHoldingLemmas.{HoldOthers, LacksName, lacks_name, others_beside, others_in}
use Rattle.ep_defrag.proofs.FragmentStepLemmas.{reason, fed, granted_unless, granted_is, none_counted}
use Rattle.ep_defrag.proofs.FragmentStepLemmas.{rejected_step, starved_step, discards_step}

-- ---- a new entry
same_slot_itself : (slot : Slot) → same_slot slot slot ≡ true
same_slot_itself slot = rw (eq-eqb slot.hash slot.hash refl, eq-eqb slot.number slot.number refl) refl

module _ {C : Type 0} (slot : Slot) (held_name : HeldName C) where
  -- A table with a new entry in a free slot.
  pub record Pushed (entries : StreamEntries C) : Type 0 where
    pub found : entry_at slot (entries ++ (slot, held_name) ∷ []) ≡ Some held_name
    pub entry : lookup_entry (same_slot slot) (entries ++ (slot, held_name) ∷ []) ≡ Some (slot, held_name)
    pub removed : without slot (entries ++ (slot, held_name) ∷ []) ≡ entries

  pub pushed : (entries : StreamEntries C) → entry_at slot entries ≡ None → Pushed entries
  pushed [] free = record {
    found = rw (same_slot_itself slot) refl;
    entry = rw (same_slot_itself slot) refl;
    removed = rw (same_slot_itself slot) refl;
  }
  pushed (e ∷ es) free = elim (cases_Bool (same_slot slot e.0)) [
    | inl own ↦ absurd (let some : Some e.1 ≡ None = rw own at free in cc)
    | inr other ↦
        let rest = pushed es (rw other at free) in
        record {
          found = rw other rest.found;
          entry = rw other rest.entry;
          removed = rw other (ap (λ (more : StreamEntries C). e ∷ more) rest.removed);
        }
  ]

  pub pushed_removed : (entries : StreamEntries C) → entry_at slot entries ≡ None
      → names_of (without slot (entries ++ (slot, held_name) ∷ [])) ≡ names_of entries
  pushed_removed entries free = ap (λ (entries : StreamEntries C). names_of entries) (pushed entries free).removed

  pub pushed_touched : (entries : StreamEntries C) → entry_at slot entries ≡ None
      → names_of (with_newest slot (entries ++ (slot, held_name) ∷ [])) ≡ names_of entries ++ held_name ∷ []
  pushed_touched entries free =
      let is = pushed entries free in
      let newest : with_newest slot (entries ++ (slot, held_name) ∷ []) ≡ entries ++ (slot, held_name) ∷ [] =
      rw (is.entry) (ap (λ (more : StreamEntries C). more ++ (slot, held_name) ∷ []) is.removed) in
      ap (λ (entries : StreamEntries C). names_of entries) newest
      ∙ map-append (λ e. e.1) entries ((slot, held_name) ∷ [])

-- ---- absent names
-- A table has none of the names that are equal to that of a vacant slot.
pub absent_names : {C : Type 0} (eq : C → C → Bool) → IsEquivalence eq → (channel : C → HashWrites)
    → ((x y : C) → eq x y ≡ true → channel x ≡ channel y) → (keys : RandomState) (entries : StreamEntries C)
    → AreHashed channel keys entries → (slot : Slot) (name : IpFragId C) → slot.hash ≡ name_hash channel keys name
    → ((entry : Slot × HeldName C) → Contains entries entry → entry.0.hash ≡ slot.hash
    → same_stream eq name entry.1.0 ≡ false)
    → HoldOthers eq name (names_of entries)
absent_names eq laws channel respects keys entries hashed slot name own vacant =
    others_in eq name entries (λ entry inside. elim (cases_Bool (same_stream eq entry.1.0 name)) [
      | inl alike ↦
          let hash : entry.0.hash ≡ slot.hash =
          hashed entry inside ∙ same_hash eq channel respects keys entry.1.0 name alike ∙ sym own in
          absurd
          (false≢true
          (sym (vacant entry inside hash) ∙ (same_stream_laws eq laws).symm name entry.1.0 ∙ alike))
      | inr other ↦ other
    ])

-- A fragment that is accepted fits.
fits_fate : (test : Bool) (error : Option IpDefragError) → FateCase test error → fate_unless test error ≡ is_accepted
    → error ≡ None
fits_fate test error (by_test met fate) accepted = absurd (let no : discards ≡ is_accepted = sym fate ∙ accepted in cc)
fits_fate test error (by_error own unmet some fate) accepted =
    absurd (let no : is_rejected (Rejected own) ≡ is_accepted = sym fate ∙ accepted in cc)
fits_fate test error (by_none unmet none fate) accepted = none

-- An allocation can fail for the first fragment of a stream.
pub first_needs_memory : (limits : DefragLimits) (fragment : IpFragment)
    → fate_in limits (Some []) fragment ≡ is_accepted
    → MayNeedMemoryWithin limits.payload [] fragment
first_needs_memory limits fragment accepted =
    let refused = refusal_within limits.payload [] fragment in
    let test = discards_stream limits.overlap refused (contradicts (all_kept limits.overlap []) fragment) in (
      fits_fate test refused (fate_case test refused) accepted,
      λ in_place. absurd (false≢true in_place.touching.2),
    )

module _ {C : Type 0} {e : PartialEq.Ghosts C} {h : Hash.Ghosts C} (eq : C → C → Bool) (limits : DefragLimits)
    (old new : Holdings C e h) (name : IpFragId C) (fragment : IpFragment) (now : ℕ)
    (absent : HoldOthers eq name (names_held old)) (fresh : HeldStream)
    (empty : HoldsState limits fresh.buffer (Some []))
    (same : new.table ≡ old.table) (same_evicted : new.evicted.items ≡ old.evicted.items)
    (same_statistics : new.statistics ≡ old.statistics) (fits : FitCounters old.statistics) where
  lacks_name_in : (rows : List (Row C)) → HoldsNames eq limits (names_held old) rows → LacksName eq name rows
  lacks_name_in rows holds =
      lacks_name eq name rows (others_beside eq name limits (names_held old) rows holds.each absent)

  unchanged : (rows : List (Row C)) → HoldsNames eq limits (names_held old) rows → (error : BoundedDefragError)
      → DoesFragmentStep eq limits old new (Err error) (rejecting_step rows error)
  unchanged rows holds error = record {
    names =
        subst (λ (entries : StreamEntries C). AllZip (HoldsRow limits) (names_of entries) rows) (sym same) holds.each;
    evicted = λ earlier reports.
        subst (AllZip (Reports eq) new.evicted.items) (sym (append-nil earlier))
        (subst (λ items. AllZip (Reports eq) items earlier) (sym same_evicted) reports);
    statistics = same_statistics ∙ none_counted old.statistics fits rows error;
    answer = refl;
  }

  pub begins_rejected : (stream : HeldStream) (error : BoundedDefragError)
      → StreamRejects limits fresh stream fragment error
      → TakesFragmentStep eq limits old new name fragment now (Err error)
  begins_rejected stream error refused = record {
    step = λ rows number holds.
        let lacks = lacks_name_in rows holds in
        elim (reason limits (Some []) fragment error (refused.why (Some []) empty)) [
          | inl fate ↦ (
            granted_unless (is_starvation error),
            subst (DoesFragmentStep eq limits old new (Err error))
                (rejected_step eq limits rows name fragment now number None lacks.named
                (granted_unless (is_starvation error)) error fate)
                (unchanged rows holds error),
            granted_is (is_starvation error),
          )
          | inr starved ↦ (
            None,
            subst (DoesFragmentStep eq limits old new (Err error))
                (ap (rejecting_step rows) starved.2
                ∙ starved_step eq limits rows name fragment now number None lacks.named starved.0)
                (unchanged rows holds error),
            sym (ap (λ own. not (is_starvation own)) starved.2),
          )
        ];
    memory = λ starves rows holds.
        elim (reason limits (Some []) fragment error (refused.why (Some []) empty)) [
          | inl fate ↦ absurd (false≢true (sym (fed limits (Some []) fragment error fate) ∙ starves))
          | inr starved ↦
              subst (λ (own : Option (Row C)). MayNeedMemoryWithin limits.payload (accepted_before own) fragment)
              (sym (lacks_name_in rows holds).named) starved.1
        ];
  }

  -- An allocation for the table fails.
  pub begins_starved : (stream : HeldStream) (complete : Bool) → StreamAccepts limits fresh stream fragment now complete
      → (error : BoundedDefragError) → error ≡ Rejected (AllocationFailure (fragment_end fragment))
      → TakesFragmentStep eq limits old new name fragment now (Err error)
  begins_starved stream complete accepted error is = record {
    step = λ rows number holds.
        let lacks = lacks_name_in rows holds in (
          None,
          subst (DoesFragmentStep eq limits old new (Err error))
              (ap (rejecting_step rows) is
              ∙ starved_step eq limits rows name fragment now number None lacks.named (accepted.why [] empty))
              (unchanged rows holds error),
          sym (ap (λ own. not (is_starvation own)) is),
        );
    memory = λ starves rows holds.
        subst (λ (own : Option (Row C)). MayNeedMemoryWithin limits.payload (accepted_before own) fragment)
        (sym (lacks_name_in rows holds).named) (first_needs_memory limits fragment (accepted.why [] empty));
  }

  pub begins_discarded : (stream : HeldStream) → StreamDiscards limits fresh stream fragment
      → TakesFragmentStep eq limits old new name fragment now (Err Discarded)
  begins_discarded stream discarded = record {
    step = λ rows number holds.
        let lacks = lacks_name_in rows holds in
        let step : rejecting_step rows Discarded ≡ discarding_step eq name rows =
        sym (λ i. record (rejecting_step (lacks.discarding i) Discarded)
        { gone = map (gone_for Overlap) (lacks.own i) }) in (
          Some 0,
          subst (DoesFragmentStep eq limits old new (Err Discarded))
              (step ∙ discards_step eq limits rows name fragment now number None lacks.named (Some 0)
              (discarded.why (Some []) empty))
              (unchanged rows holds Discarded),
          refl,
        );
    memory = λ starves rows holds. absurd (false≢true starves);
  }
