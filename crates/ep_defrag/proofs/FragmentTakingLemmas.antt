-- A bounded pool processes a fragment as its step defines: the name of its stream is in the table, or is absent.
use Rattle.std.proofs.Common.{◌≡◌, ℕ, ◌<◌, ◌≤◌, Bool, true, false, not, is_some, List, [], ◌∷◌, ◌++◌, Option, Some, None, Result, Ok, Err}
use Rattle.std.proofs.Common.{refl, sym, ap, subst, ◌∙◌, inl, inr}
use Rattle.std.specs.Cmp.{IsEquivalence}
use Rattle.std.specs.Option.{unwrap_or}
use Rattle.std.proofs.lemmas.Bool.{cases_lt, false≢true}
use Rattle.std.proofs.lemmas.List.{map-append}
use Rattle.std.specs.declared.cmp.PartialEq
use Rattle.std.specs.declared.hash.Hash
use Rattle.lru_table.specs.declared.slot.Slot.{Slot}
use Rattle.lru_table.specs.LruTable.{without, with_newest, with_value}
use Rattle.ep_defrag.specs.declared.ip_defrag_buf.IpDefragBuf.{IpDefragBuf}
use Rattle.ep_defrag.specs.declared.ip_defrag_payload_vec.IpDefragPayloadVec.{IpDefragPayloadVec}
use Rattle.ep_defrag.specs.declared.ip_frag_id.IpFragId.{IpFragId}
use Rattle.ep_defrag.specs.declared.held_stream.HeldStream.{HeldStream}
use Rattle.ep_defrag.specs.declared.bounded_limits.DefragLimits.{DefragLimits}
use Rattle.ep_defrag.specs.declared.bounded_defrag_error.BoundedDefragError.{BoundedDefragError}
use Rattle.ep_defrag.specs.declared.bounded_defrag_error.BoundedDefragError.TheVariants.{OverBudget}
use Rattle.ep_defrag.specs.declared.defrag_statistics.DefragStatistics.{DefragStatistics}
use Rattle.ep_defrag.specs.declared.departure.Departure.{Departure}
use Rattle.ep_defrag.specs.declared.departure.Departure.TheVariants.{Evicted}
use Rattle.ep_defrag.specs.declared.evicted_stream.EvictionCause.TheVariants.{Bytes}
use Rattle.ep_defrag.specs.declared.holdings.Holdings.{Holdings}
use Rattle.ep_defrag.specs.IpFragments.{IpFragment, is_complete}
use Rattle.ep_defrag.specs.Streams.{same_stream}
use Rattle.ep_defrag.specs.BoundedSteps.{Row, other_rows, accepted_before, fate_in}
use Rattle.ep_defrag.specs.BoundedCounts.{FitCounters, counted, with_departure}
use Rattle.ep_defrag.specs.BoundedNames.{HeldName, names_of, held_room, HoldsState, HoldsRow, HoldsNames}
use Rattle.ep_defrag.specs.BoundedAnswers.{ReturnsPayload}
use Rattle.ep_defrag.specs.BoundedAdding.{StreamAccepts}
use Rattle.ep_defrag.specs.BoundedHoldings.{names_held, after_departure, EvictsName, EvictsForLimits, TakesFragmentStep}
use Rattle.ep_defrag.proofs.StreamLemmas.{same_stream_laws}
use Rattle.ep_defrag.proofs.HeldNameLemmas.{StreamEntries, Placed}
use Rattle.ep_defrag.proofs.RowHoldingLemmas.{zip_append, has_name, HoldOthers, LacksName, lacks_name, others_beside}
use Rattle.ep_defrag.proofs.FragmentStepLemmas.{with_begun}
use Rattle.ep_defrag.proofs.FragmentHoldingLemmas.{open_with, finds, named_row, Accepts, completes, goes_over, goes_on}

-- counters after an open stream left
pub open_departure : (old : DefragStatistics) (buffer : Option IpDefragBuf) (departure : Departure)
    → is_some buffer ≡ true → after_departure old buffer departure ≡ with_departure old departure
open_departure old None departure opens = absurd (false≢true opens)
open_departure old (Some buffer) departure opens = refl

module _ {C : Type 0} {e : PartialEq.Ghosts C} {h : Hash.Ghosts C} (eq : C → C → Bool) (laws : IsEquivalence eq)
    (limits : DefragLimits) (old : Holdings C e h) (name : IpFragId C) (fragment : IpFragment) (now : ℕ) where
  -- A table with these rows accepts the fragment, which completes the payload or not, and begins the stream or not.
  pub record AcceptsIn (names : List (HeldName C)) (held_name : HeldName C) (entire begins : Bool) (rows : List (Row C))
      (number : ℕ) : Type 0 where
    pub found : Option (Row C)
    pub others : List (Row C)
    pub accepts : Accepts eq laws limits old name fragment now rows number found others names held_name
    pub complete : is_complete (accepted_before found ++ fragment ∷ []) ≡ entire
    pub begun : not (is_some found) ≡ begins

  module _ (names : List (HeldName C)) (held_name : HeldName C) (begins : Bool) (fits : FitCounters old.statistics)
      (new : Holdings C e h) where
    pub takes_complete : ((rows : List (Row C)) (number : ℕ) → HoldsNames eq limits (names_held old) rows
        → AcceptsIn names held_name true begins rows number)
        → names_held new ≡ names → new.evicted.items ≡ old.evicted.items
        → new.statistics ≡ record (with_begun old.statistics begins) { completed = counted old.statistics.completed 1 }
        → (result : Option IpDefragPayloadVec) → ReturnsPayload held_name.0 held_name.1.buffer result
        → TakesFragmentStep eq limits old new name fragment now (Ok result)
    takes_complete accept left same counts result returned = record {
      step = λ rows number holds.
          let accepts = accept rows number holds in
          completes eq laws limits old name fragment now rows number accepts.found accepts.others names held_name
          accepts.accepts fits new accepts.complete left same
          (counts ∙ ap (λ b. record (with_begun old.statistics b) { completed = counted old.statistics.completed 1 })
          (sym accepts.begun))
          result returned;
      memory = λ starves rows holds. absurd (false≢true starves);
    }

    pub takes_rest : ((rows : List (Row C)) (number : ℕ) → HoldsNames eq limits (names_held old) rows
        → AcceptsIn names held_name false begins rows number)
        → (mid : Holdings C e h) → mid.evicted.items ≡ old.evicted.items
        → mid.statistics ≡ with_begun old.statistics begins → (slot : Slot)
        → names_of (without slot mid.table) ≡ names
        → names_of (with_newest slot mid.table) ≡ names ++ held_name ∷ []
        → is_some held_name.1.buffer ≡ true
        → (result : Result (Option IpDefragPayloadVec) BoundedDefragError)
        → (limits.bytes < held_room held_name.1 → (result ≡ Err OverBudget) × EvictsName mid new slot Bytes held_name)
        → (held_room held_name.1 ≤ limits.bytes
        → (result ≡ Ok None) × EvictsForLimits eq limits (names_of (with_newest slot mid.table)) mid new)
        → TakesFragmentStep eq limits old new name fragment now result
    takes_rest accept mid same counts slot removed touched opens result over settled =
        elim (cases_lt limits.bytes (held_room held_name.1)) [
          | inl above ↦
              let evicts = (over above).1 in
              subst (TakesFragmentStep eq limits old new name fragment now) (sym (over above).0) (record {
                step = λ rows number holds.
                    let accepts = accept rows number holds in
                    goes_over eq laws limits old name fragment now rows number accepts.found accepts.others
                    names held_name
                    accepts.accepts fits new accepts.complete mid same
                    (counts ∙ ap (with_begun old.statistics) (sym accepts.begun)) above
                    (ap (λ (entries : StreamEntries C). names_of entries) evicts.table ∙ removed)
                    (evicts.statistics ∙ open_departure mid.statistics held_name.1.buffer (Evicted Bytes) opens)
                    evicts.evicted;
                memory = λ starves rows holds. absurd (false≢true starves);
              })
          | inr below ↦
              subst (TakesFragmentStep eq limits old new name fragment now) (sym (settled below).0) (record {
                step = λ rows number holds.
                    let accepts = accept rows number holds in
                    goes_on eq laws limits old name fragment now rows number accepts.found accepts.others
                    names held_name
                    accepts.accepts fits new accepts.complete mid same
                    (counts ∙ ap (with_begun old.statistics) (sym accepts.begun)) below
                    (subst (λ (names : List (HeldName C)). EvictsForLimits eq limits names mid new) touched
                    (settled below).1);
                memory = λ starves rows holds. absurd (false≢true starves);
              })
        ]

  -- ---- a name that is in the table
  module _ (slot : Slot) (held_name : HeldName C) (placed : Placed old.table slot held_name)
      (alike : same_stream eq name held_name.0 ≡ true) (stream : HeldStream) where
    -- names beside its own
    abbrev pub names_beside : List (HeldName C)
    names_beside = names_of placed.0 ++ names_of placed.1

    removed_names : names_of (without slot (with_value slot stream old.table)) ≡ names_beside
    removed_names =
        ap (λ (entries : StreamEntries C). names_of entries) (placed.3 stream).removed
        ∙ map-append (λ e. e.1) placed.0 placed.1

    touched_names : names_of (with_newest slot (with_value slot stream old.table))
        ≡ names_beside ++ (held_name.0, stream) ∷ []
    touched_names =
        ap (λ (entries : StreamEntries C). names_of entries) (placed.3 stream).touched
        ∙ map-append (λ e. e.1) (placed.0 ++ placed.1) ((slot, (held_name.0, stream)) ∷ [])
        ∙ ap (λ (names : List (HeldName C)). names ++ (held_name.0, stream) ∷ [])
        (map-append (λ e. e.1) placed.0 placed.1)

    accepts_present : (entire : Bool) → StreamAccepts limits held_name.1 stream fragment now entire
        → (rows : List (Row C))
        (number : ℕ) → HoldsNames eq limits (names_held old) rows
        → AcceptsIn names_beside (held_name.0, stream) entire false rows number
    accepts_present entire accepted rows number holds =
        let found = finds eq laws limits old name fragment now slot held_name placed alike rows holds in
        let at = found.at in
        let row = at.own in
        let opens = open_with limits held_name.1.buffer row.accepted at.middle.state accepted.was_open in
        record {
          found = Some row;
          others = at.before ++ at.after;
          accepts = record {
            named = named_row eq laws limits old name fragment now slot held_name placed alike rows found;
            apart = ap (other_rows eq name) at.whole
                ∙ (has_name eq name at.before row at.after found.earlier found.alike found.later).others;
            fate = ap (λ kept. fate_in limits kept fragment) opens.is ∙ accepted.why opens.fragments opens.holds;
            beside = zip_append (HoldsRow limits) (names_of placed.0) (names_of placed.1) at.before at.after at.first
                at.later;
            own = record {
              id = at.middle.id;
              state = subst (λ kept. HoldsState limits stream.buffer (Some (unwrap_or kept [] ++ fragment ∷ [])))
                  (sym opens.is) (accepted.holds opens.fragments opens.holds);
              room = refl;
              first = accepted.first ∙ at.middle.first;
              last = accepted.last;
            };
            opens = accepted.is_open;
            alike = subst (λ (id : IpFragId C). same_stream eq id held_name.0 ≡ true) at.middle.id
                ((same_stream_laws eq laws).refl held_name.0);
            was_open = ap is_some opens.is;
            first = accepted.first ∙ at.middle.first;
          };
          complete = ap (λ kept. is_complete (unwrap_or kept [] ++ fragment ∷ [])) opens.is
              ∙ accepted.complete opens.fragments opens.holds;
          begun = refl;
        }

    -- The names after the stream was written, and the acceptance of the fragment.
    pub record AcceptsPresent (entire : Bool) : Type 0 where
      pub removed : names_of (without slot (with_value slot stream old.table)) ≡ names_beside
      pub touched : names_of (with_newest slot (with_value slot stream old.table))
          ≡ names_beside ++ (held_name.0, stream) ∷ []
      pub accepts : (rows : List (Row C)) (number : ℕ) → HoldsNames eq limits (names_held old) rows
          → AcceptsIn names_beside (held_name.0, stream) entire false rows number

    pub accepted_present : (entire : Bool) → StreamAccepts limits held_name.1 stream fragment now entire
        → AcceptsPresent entire
    accepted_present entire accepted = record {
      removed = removed_names;
      touched = touched_names;
      accepts = accepts_present entire accepted;
    }

  -- ---- a name that is not in the table
  module _ (absent : HoldOthers eq name (names_held old)) (fresh : HeldStream) (stream : HeldStream)
      (first : fresh.first ≡ now) (empty : HoldsState limits fresh.buffer (Some [])) where
    pub lacks : (rows : List (Row C)) → HoldsNames eq limits (names_held old) rows → LacksName eq name rows
    lacks rows holds = lacks_name eq name rows (others_beside eq name limits (names_held old) rows holds.each absent)

    pub accepts_absent : (entire : Bool) → StreamAccepts limits fresh stream fragment now entire → (rows : List (Row C))
        (number : ℕ) → HoldsNames eq limits (names_held old) rows
        → AcceptsIn (names_held old) (name, stream) entire true rows number
    accepts_absent entire accepted rows number holds =
        let without = lacks rows holds in
        record {
          found = None;
          others = rows;
          accepts = record {
            named = without.named;
            apart = without.others;
            fate = accepted.why [] empty;
            beside = holds.each;
            own = record {
              id = refl;
              state = accepted.holds [] empty;
              room = refl;
              first = accepted.first ∙ first;
              last = accepted.last;
            };
            opens = accepted.is_open;
            alike = (same_stream_laws eq laws).refl name;
            was_open = refl;
            first = accepted.first ∙ first;
          };
          complete = accepted.complete [] empty;
          begun = refl;
        }
