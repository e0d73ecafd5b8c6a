-- The rows of a bounded pool's table: their names, and the streams that drops leave.
use Rattle.std.proofs.Common.{◌≡◌, ℕ, ◌+◌, ◌<◌, Bool, true, false, not, cond, List, [], ◌∷◌, ◌++◌, map}
use Rattle.std.proofs.Common.{Option, Some, None, is_some, sym, refl, ap, ◌∙◌, ◌⊎◌, inl}
use Rattle.std.proofs.Common.{inr, arith, nat_lt, length}
use Rattle.std.specs.Cmp.{IsEquivalence}
use Rattle.std.specs.List.{AllByRecursion, filter}
use Rattle.std.specs.Option.{unwrap_or, option_map_or}
use Rattle.std.proofs.lemmas.Bool.{cases_Bool, eq-eqb, ne_eqb}
use Rattle.ep_defrag.specs.declared.ip_defrag_error.IpDefragError.{IpDefragError}
use Rattle.ep_defrag.specs.declared.ip_defrag_error.IpDefragError.TheVariants.{UnalignedFragmentPayloadLen, SegmentTooBig}
use Rattle.ep_defrag.specs.declared.ip_frag_id.IpFragId.{IpFragId}
use Rattle.ep_defrag.specs.declared.bounded_limits.DefragLimits.{DefragLimits}
use Rattle.ep_defrag.specs.declared.bounded_defrag_error.BoundedDefragError.TheVariants.{Rejected, Discarded}
use Rattle.ep_defrag.specs.declared.evicted_stream.EvictionCause.TheVariants.{Streams, Bytes}
use Rattle.ep_defrag.specs.IpFragments.{IpFragment, fragment_end}
use Rattle.ep_defrag.specs.FragmentRefusals.{is_unaligned, end_row, refusal_at_within, is_allocation_failure}
use Rattle.ep_defrag.specs.Streams.{same_stream}
use Rattle.ep_defrag.specs.Calls.{Kept, accepted_in, kept_by}
use Rattle.ep_defrag.specs.BoundedSteps.{Row, row_named, other_rows, are_within, is_expiry}
use Rattle.ep_defrag.specs.BoundedSteps.{remaining, evicted_for_limits}
use Rattle.ep_defrag.specs.BoundedSteps.{is_rejected, discards, is_accepted, fate_unless, fate_after}
use Rattle.ep_defrag.specs.BoundedSteps.{fate_in, fate_at, accepted_before, row_with, rows_discarding}
use Rattle.ep_defrag.specs.BoundedLimits.{most_names}
use Rattle.ep_defrag.specs.BoundedSteps.{row_with}
use Rattle.ep_defrag.specs.BoundedRuns.{Lone, lone_open, lone_discarded}
use Rattle.ep_defrag.specs.BoundedRuns.{drops_number}
use Rattle.ep_defrag.proofs.StreamLemmas.{same_stream_laws}

-- ---- lists
pub all_filtered : {X : Type 0} (P : X → Type 0) (p : X → Bool) (xs : List X) → AllByRecursion P xs
    → AllByRecursion P (filter p xs)
all_filtered P p [] all = tt
all_filtered P p (x ∷ xs) all = elim (cases_Bool (p x)) [
  | inl passes ↦ rw passes (all.0, all_filtered P p xs all.1)
  | inr fails ↦ rw fails (all_filtered P p xs all.1)
]

pub filtered_pass : {X : Type 0} (p : X → Bool) (xs : List X) → AllByRecursion (λ x. p x ≡ true) (filter p xs)
filtered_pass p [] = tt
filtered_pass p (x ∷ xs) = elim (cases_Bool (p x)) [
  | inl passes ↦ rw passes (passes, filtered_pass p xs)
  | inr fails ↦ rw fails (filtered_pass p xs)
]

-- ---- the refusal table has no failed allocation
pub not_starved_end : (known : Option ℕ) (reach : ℕ) (fragment : IpFragment)
    → is_allocation_failure (end_row known reach fragment).1 ≡ false
not_starved_end None reach fragment = refl
not_starved_end (Some end) reach fragment = refl

pub not_starved_first : (test : Bool) (own error : IpDefragError) (rest : Option IpDefragError)
    → is_allocation_failure own ≡ false → (rest ≡ Some error → is_allocation_failure error ≡ false)
    → cond test (Some own) rest ≡ Some error → is_allocation_failure error ≡ false
not_starved_first true own error rest fine later first =
    let same : own ≡ error = cc in
    ap is_allocation_failure (sym same) ∙ fine
not_starved_first false own error rest fine later first = later first

pub not_starved : (limit : ℕ) (known : Option ℕ) (reach : ℕ) (fragment : IpFragment) (error : IpDefragError)
    → refusal_at_within limit known reach fragment ≡ Some error → is_allocation_failure error ≡ false
not_starved limit known reach fragment error refused =
    let row = end_row known reach fragment in
    let last = cond row.0 (Some row.1) None in
    let unaligned = UnalignedFragmentPayloadLen fragment.offset (length fragment.bytes) in
    let none_left : None ≡ Some error → is_allocation_failure error ≡ false = λ none. absurd (cc) in
    not_starved_first (nat_lt limit (fragment_end fragment))
    (SegmentTooBig fragment.offset (length fragment.bytes) limit) error
    (cond (is_unaligned fragment) (Some unaligned) last) refl
    (λ second. not_starved_first (is_unaligned fragment) unaligned error last refl
    (λ third. not_starved_first row.0 row.1 error None (not_starved_end known reach fragment) none_left third)
    second)
    refused

-- ---- the state of a name
abbrev pub state_in : Option (List IpFragment) → Lone
state_in None = lone_discarded
state_in (Some accepted) = lone_open accepted

abbrev pub state_of : {C : Type 0} → Option (Row C) → Lone
state_of None = lone_open []
state_of (Some row) = state_in row.accepted

-- A name is discarded, and rejects all fragments, or is open or absent.
pub data NameCase {C : Type 0} (limits : DefragLimits) (row : Option (Row C)) (fragment : IpFragment) : Type 0 where
  is_discarded : state_of row ≡ lone_discarded → fate_at limits row fragment ≡ is_rejected Discarded
      → NameCase limits row fragment
  is_usable : state_of row ≡ lone_open (accepted_before row)
      → fate_at limits row fragment ≡ fate_after limits (accepted_before row) fragment → NameCase limits row fragment

pub state_cases : (limits : DefragLimits) (accepted : Option (List IpFragment)) (fragment : IpFragment)
    → ((state_in accepted ≡ lone_discarded) × (fate_in limits accepted fragment ≡ is_rejected Discarded))
    ⊎ ((state_in accepted ≡ lone_open (unwrap_or accepted []))
    × (fate_in limits accepted fragment ≡ fate_after limits (unwrap_or accepted []) fragment))
state_cases limits None fragment = inl (refl, refl)
state_cases limits (Some accepted) fragment = inr (refl, refl)

pub name_cases : {C : Type 0} (limits : DefragLimits) (row : Option (Row C)) (fragment : IpFragment)
    → NameCase limits row fragment
name_cases limits None fragment = is_usable refl refl
name_cases limits (Some row) fragment = elim (state_cases limits row.accepted fragment) [
  | inl discarded ↦ is_discarded discarded.0 discarded.1
  | inr usable ↦ is_usable usable.0 usable.1
]

-- ---- the fate of a fragment
pub data FateCase (test : Bool) (error : Option IpDefragError) : Type 0 where
  by_test : test ≡ true → fate_unless test error ≡ discards → FateCase test error
  by_error : (own : IpDefragError) → test ≡ false → error ≡ Some own
      → fate_unless test error ≡ is_rejected (Rejected own) → FateCase test error
  by_none : test ≡ false → error ≡ None → fate_unless test error ≡ is_accepted → FateCase test error

pub fate_case : (test : Bool) (error : Option IpDefragError) → FateCase test error
fate_case true error = by_test refl refl
fate_case false (Some own) = by_error own refl refl refl
fate_case false None = by_none refl refl refl

-- ---- the streams of a table
-- stream of a name with these accepted fragments, none if it is discarded
abbrev pub kept_in : Option (List IpFragment) → ℕ → Option (Kept ℕ)
kept_in None number = None
kept_in (Some accepted) number = Some (record { accepted = accepted; timestamp = number })

abbrev pub kept_at : {C : Type 0} → Option (Row C) → Option (Kept ℕ)
kept_at None = None
kept_at (Some row) = kept_in row.accepted row.number

-- streams of an unbounded pool that correspond to the names of a table
abbrev pub table_of : {C : Type 0} → (C → C → Bool) → List (Row C) → IpFragId C → Option (Kept ℕ)
table_of eq rows name = kept_at (row_named eq name rows)

pub accepted_kept : (accepted : Option (List IpFragment)) (number : ℕ)
    → accepted_in (kept_in accepted number) ≡ unwrap_or accepted []
accepted_kept None number = refl
accepted_kept (Some accepted) number = refl

pub accepted_at_row : {C : Type 0} (row : Option (Row C)) → accepted_in (kept_at row) ≡ accepted_before row
accepted_at_row None = refl
accepted_at_row (Some row) = accepted_kept row.accepted row.number

-- ---- drops of one number
pub drops_own : (accepted : Option (List IpFragment)) (number : ℕ)
    → kept_by (drops_number number) (kept_in accepted number) ≡ None
drops_own None number = refl
drops_own (Some accepted) number = let same = eq-eqb number number refl in rw same refl

pub keeps_other : (accepted : Option (List IpFragment)) (value number : ℕ) → value < number
    → kept_by (drops_number value) (kept_in accepted number) ≡ kept_in accepted number
keeps_other None value number less = refl
keeps_other (Some accepted) value number less = let other = ne_eqb value number (omega arith) in rw other refl

pub keeps_above : (accepted : Option (List IpFragment)) (value number : ℕ) → number < value
    → kept_by (drops_number value) (kept_in accepted number) ≡ kept_in accepted number
keeps_above None value number more = refl
keeps_above (Some accepted) value number more = let other = ne_eqb value number (omega arith) in rw other refl

-- a stream after drops of these names' numbers
abbrev pub drops_all : {C : Type 0} → List (Row C) → Option (Kept ℕ) → Option (Kept ℕ)
drops_all [] kept = kept
drops_all (row ∷ rows) kept = drops_all rows (kept_by (drops_number row.number) kept)

module _ {C : Type 0} (eq : C → C → Bool) (laws : IsEquivalence eq) where
  pub named_alike : IsEquivalence (same_stream eq)
  named_alike = same_stream_laws eq laws

  -- Holds if the other name is another, and its last accepted fragment came later.
  abbrev pub IsLater : Row C → Row C → Type 0
  IsLater row other = (row.number < other.number) × (same_stream eq row.id other.id ≡ false)

  -- Holds if no two names are equal, and the last accepted fragments came in the order of the names, before a call.
  abbrev pub AreRows : ℕ → List (Row C) → Type 0
  AreRows bound [] = Unit {0}
  AreRows bound (row ∷ later) = (row.number < bound) × AllByRecursion (IsLater row) later × AreRows bound later

  pub AreRows-filter : (bound : ℕ) (p : Row C → Bool) (rows : List (Row C)) → AreRows bound rows
      → AreRows bound (filter p rows)
  AreRows-filter bound p [] are = tt
  AreRows-filter bound p (row ∷ later) are = elim (cases_Bool (p row)) [
    | inl passes ↦ rw passes
        (are.0, all_filtered (IsLater row) p later are.1, AreRows-filter bound p later are.2)
    | inr fails ↦ rw fails (AreRows-filter bound p later are.2)
  ]

  pub AreRows-more : (bound more : ℕ) (rows : List (Row C)) → bound < more → AreRows bound rows → AreRows more rows
  AreRows-more bound more [] less are = tt
  AreRows-more bound more (row ∷ later) less are =
      (omega (arith, are.0), are.1, AreRows-more bound more later less are.2)

  -- A name is at one row at most.
  pub none_later : (row : Row C) (later : List (Row C)) (name : IpFragId C) → AllByRecursion (IsLater row) later
      → same_stream eq row.id name ≡ true → row_named eq name later ≡ None
  none_later row [] name all alike = refl
  none_later row (other ∷ later) name all alike =
      let differs : same_stream eq other.id name ≡ false =
      (named_alike).symm other.id name ∙ sym ((named_alike).congr row.id name other.id alike) ∙ all.0.1 in
      rw differs (none_later row later name all.1 alike)

  -- Names that are equal have the same row.
  pub same_named : (rows : List (Row C)) (name other : IpFragId C) → same_stream eq name other ≡ true
      → row_named eq other rows ≡ row_named eq name rows
  same_named [] name other alike = refl
  same_named (row ∷ rows) name other alike =
      let same : same_stream eq row.id other ≡ same_stream eq row.id name =
      (named_alike).symm row.id other ∙ sym ((named_alike).congr name other row.id alike)
      ∙ (named_alike).symm name row.id in
      rw same (ap (cond (same_stream eq row.id name) (Some row)) (same_named rows name other alike))

  -- ---- drops
  pub keeps_later : (value : ℕ) (row : Row C) (rows : List (Row C)) (name : IpFragId C) → value ≡ row.number
      → AllByRecursion (IsLater row) rows → kept_by (drops_number value) (table_of eq rows name) ≡ table_of eq rows name
  keeps_later value row [] name is all = refl
  keeps_later value row (other ∷ rows) name is all = elim (cases_Bool (same_stream eq other.id name)) [
    | inl alike ↦ rw alike (keeps_other other.accepted value other.number (omega (arith, is, all.0.0)))
    | inr differs ↦ rw differs (keeps_later value row rows name is all.1)
  ]

  -- The drop of the first name leaves the others.
  pub drop_first : (bound : ℕ) (row : Row C) (later : List (Row C)) (name : IpFragId C) → AreRows bound (row ∷ later)
      → kept_by (drops_number row.number) (table_of eq (row ∷ later) name) ≡ table_of eq later name
  drop_first bound row later name are = elim (cases_Bool (same_stream eq row.id name)) [
    | inl alike ↦ rw (alike, none_later row later name are.1 alike) (drops_own row.accepted row.number)
    | inr differs ↦ rw differs (keeps_later row.number row later name refl are.1)
  ]

  pub keeps_earlier : (p : Row C → Bool) (row : Row C) (later : List (Row C)) → AllByRecursion (IsLater row) later
      → drops_all (filter p later) (kept_in row.accepted row.number) ≡ kept_in row.accepted row.number
  keeps_earlier p row [] all = refl
  keeps_earlier p row (other ∷ later) all = elim (cases_Bool (p other)) [
    | inl passes ↦ rw passes
        (ap (drops_all (filter p later)) (keeps_above row.accepted other.number row.number all.0.0)
        ∙ keeps_earlier p row later all.1)
    | inr fails ↦ rw fails (keeps_earlier p row later all.1)
  ]

  -- The drops of the names that pass a test leave the others.
  pub drops_filtered : (p : Row C → Bool) (bound : ℕ) (rows : List (Row C)) (name : IpFragId C) → AreRows bound rows
      → drops_all (filter p rows) (table_of eq rows name) ≡ table_of eq (filter (λ row. not (p row)) rows) name
  drops_filtered p bound [] name are = refl
  drops_filtered p bound (row ∷ later) name are = elim (cases_Bool (p row)) [
    | inl passes ↦ rw passes
        (ap (drops_all (filter p later)) (drop_first bound row later name are)
        ∙ drops_filtered p bound later name are.2)
    | inr fails ↦ rw fails
        (elim (cases_Bool (same_stream eq row.id name)) [
          | inl alike ↦ rw alike (keeps_earlier p row later are.1)
          | inr differs ↦ rw differs (drops_filtered p bound later name are.2)
        ])
  ]

  pub drops_every : (bound : ℕ) (rows : List (Row C)) (name : IpFragId C) → AreRows bound rows
      → drops_all rows (table_of eq rows name) ≡ None
  drops_every bound [] name are = refl
  drops_every bound (row ∷ later) name are =
      ap (drops_all later) (drop_first bound row later name are) ∙ drops_every bound later name are.2

  -- The drops of the names that are evicted for the limits leave those that remain.
  pub drops_for_limits : (limits : DefragLimits) (bound : ℕ) (rows : List (Row C)) (name : IpFragId C)
      → AreRows bound rows
      → drops_all (map (λ gone. gone.row) (evicted_for_limits limits rows)) (table_of eq rows name)
      ≡ table_of eq (remaining limits rows) name
  drops_for_limits limits bound [] name are = refl
  drops_for_limits limits bound (row ∷ later) name are = elim (cases_Bool (are_within limits (row ∷ later))) [
    | inl all ↦ rw all refl
    | inr some ↦ rw some
        (ap (drops_all (map (λ gone. gone.row) (evicted_for_limits limits later))) (drop_first bound row later name are)
        ∙ drops_for_limits limits bound later name are.2)
  ]

  pub AreRows-remaining : (limits : DefragLimits) (bound : ℕ) (rows : List (Row C)) → AreRows bound rows
      → AreRows bound (remaining limits rows)
  AreRows-remaining limits bound [] are = tt
  AreRows-remaining limits bound (row ∷ later) are = elim (cases_Bool (are_within limits (row ∷ later))) [
    | inl all ↦ rw all are
    | inr some ↦ rw some (AreRows-remaining limits bound later are.2)
  ]

  -- ---- the table after an accepted or discarding fragment
  pub others_named : (rows : List (Row C)) (name other : IpFragId C)
      → row_named eq other (other_rows eq name rows)
      ≡ cond (same_stream eq name other) None (row_named eq other rows)
  others_named [] name other = elim (cases_Bool (same_stream eq name other)) [
    | inl alike ↦ rw alike refl
    | inr differs ↦ rw differs refl
  ]
  others_named (row ∷ rows) name other = elim (cases_Bool (same_stream eq row.id name)) [
    | inl own ↦
        let alike : same_stream eq row.id other ≡ same_stream eq name other =
        (named_alike).congr row.id name other own in
        rw own (others_named rows name other ∙ elim (cases_Bool (same_stream eq name other)) [
          | inl same ↦ rw same refl
          | inr differs ↦ rw (differs, alike ∙ differs) refl
        ])
    | inr away ↦ rw away (elim (cases_Bool (same_stream eq row.id other)) [
      | inl here ↦
          let differs : same_stream eq name other ≡ false =
          (named_alike).symm name other ∙ sym ((named_alike).congr row.id other name here) ∙ away in
          rw (here, differs) refl
      | inr elsewhere ↦ rw elsewhere (others_named rows name other)
    ])
  ]

  -- Discarded names have no stream.
  pub discarded_named : (rows : List (Row C)) (name other : IpFragId C)
      → table_of eq (rows_discarding eq name rows) other
      ≡ cond (same_stream eq name other) None (table_of eq rows other)
  discarded_named [] name other = elim (cases_Bool (same_stream eq name other)) [
    | inl alike ↦ rw alike refl
    | inr differs ↦ rw differs refl
  ]
  discarded_named (row ∷ rows) name other = elim (cases_Bool (same_stream eq row.id name)) [
    | inl own ↦
        let alike : same_stream eq row.id other ≡ same_stream eq name other =
        (named_alike).congr row.id name other own in
        rw own (elim (cases_Bool (same_stream eq name other)) [
          | inl same ↦ rw (alike ∙ same, same) refl
          | inr differs ↦ rw (alike ∙ differs) (discarded_named rows name other)
        ])
    | inr away ↦ rw away (elim (cases_Bool (same_stream eq row.id other)) [
      | inl here ↦
          let differs : same_stream eq name other ≡ false =
          (named_alike).symm name other ∙ sym ((named_alike).congr row.id other name here) ∙ away in
          rw (here, differs) refl
      | inr elsewhere ↦ rw elsewhere (discarded_named rows name other)
    ])
  ]

  pub AreRows-discarding : (bound : ℕ) (name : IpFragId C) (rows : List (Row C)) → AreRows bound rows
      → AreRows bound (rows_discarding eq name rows)
  AreRows-discarding bound name [] are = tt
  AreRows-discarding bound name (row ∷ later) are = elim (cases_Bool (same_stream eq row.id name)) [
    | inl own ↦ rw own (are.0, later_discarding row later are.1, AreRows-discarding bound name later are.2)
    | inr away ↦ rw away (are.0, later_discarding row later are.1, AreRows-discarding bound name later are.2)
  ]
    where
      later_discarding : (row : Row C) (later : List (Row C)) → AllByRecursion (IsLater row) later
          → AllByRecursion (IsLater row) (rows_discarding eq name later)
      later_discarding row [] all = tt
      later_discarding row (other ∷ later) all = elim (cases_Bool (same_stream eq other.id name)) [
        | inl own ↦ rw own (all.0, later_discarding row later all.1)
        | inr away ↦ rw away (all.0, later_discarding row later all.1)
      ]

  -- A name that is added last comes after all others.
  pub appended_named : (rows : List (Row C)) (own : Row C) (name : IpFragId C)
      → row_named eq name (rows ++ own ∷ [])
      ≡ cond (is_some (row_named eq name rows)) (row_named eq name rows)
      (cond (same_stream eq own.id name) (Some own) None)
  appended_named [] own name = refl
  appended_named (row ∷ rows) own name = elim (cases_Bool (same_stream eq row.id name)) [
    | inl here ↦ rw here refl
    | inr away ↦ rw away (appended_named rows own name)
  ]

  pub AreRows-append : (bound : ℕ) (rows : List (Row C)) (own : Row C) → AreRows bound rows → own.number ≡ bound
      → row_named eq own.id rows ≡ None → AreRows (bound + 1) (rows ++ own ∷ [])
  AreRows-append bound [] own are number none = (omega (arith, number), tt, tt)
  AreRows-append bound (row ∷ later) own are number none = elim (cases_Bool (same_stream eq row.id own.id)) [
    | inl here ↦ absurd (let some : Some row ≡ None = rw here at none in cc)
    | inr away ↦
        let rest : row_named eq own.id later ≡ None = rw away at none in (
          omega (arith, are.0),
          later_append row later (omega (arith, are.0, number)) away are.1,
          AreRows-append bound later own are.2 number rest,
        )
  ]
    where
      later_append : (row : Row C) (later : List (Row C)) → row.number < own.number
          → same_stream eq row.id own.id ≡ false → AllByRecursion (IsLater row) later
          → AllByRecursion (IsLater row) (later ++ own ∷ [])
      later_append row [] less differs all = ((less, differs), tt)
      later_append row (other ∷ later) less differs all = (all.0, later_append row later less differs all.1)

  -- the number of a call is that of no earlier one
  pub keeps_below : (bound : ℕ) (rows : List (Row C)) (name : IpFragId C) → AreRows bound rows → {value : ℕ}
      → value ≡ bound → kept_by (drops_number value) (table_of eq rows name) ≡ table_of eq rows name
  keeps_below bound [] name are is = refl
  keeps_below bound (row ∷ later) name are is = elim (cases_Bool (same_stream eq row.id name)) [
    | inl alike ↦ rw alike (keeps_above row.accepted _ row.number (omega (arith, are.0, is)))
    | inr differs ↦ rw differs (keeps_below bound later name are.2 is)
  ]

  pub none_filtered : (row : Row C) (later : List (Row C)) (name : IpFragId C) → AllByRecursion (IsLater row) later
      → same_stream eq row.id name ≡ true → filter (λ other. same_stream eq other.id name) later ≡ []
  none_filtered row [] name all alike = refl
  none_filtered row (other ∷ later) name all alike =
      let differs : same_stream eq other.id name ≡ false =
      (named_alike).symm other.id name ∙ sym ((named_alike).congr row.id name other.id alike) ∙ all.0.1 in
      rw differs (none_filtered row later name all.1 alike)

  pub only_own : (bound : ℕ) (name : IpFragId C) (rows : List (Row C)) (row : Row C) → AreRows bound rows
      → row_named eq name rows ≡ Some row → filter (λ other. same_stream eq other.id name) rows ≡ row ∷ []
  only_own bound name [] row are found = absurd (cc)
  only_own bound name (first ∷ later) row are found = elim (cases_Bool (same_stream eq first.id name)) [
    | inl alike ↦
        let some : Some first ≡ Some row = rw alike at found in
        let same : first ≡ row = cc in
        rw (alike, none_filtered first later name are.1 alike) (ap (λ own. own ∷ []) same)
    | inr differs ↦ rw differs (only_own bound name later row are.2 (rw differs at found))
  ]

  pub found_alike : (name : IpFragId C) (rows : List (Row C)) (row : Row C) → row_named eq name rows ≡ Some row
      → same_stream eq row.id name ≡ true
  found_alike name [] row found = absurd (cc)
  found_alike name (first ∷ later) row found = elim (cases_Bool (same_stream eq first.id name)) [
    | inl alike ↦
        let some : Some first ≡ Some row = rw alike at found in
        let same : first ≡ row = cc in
        ap (λ own. same_stream eq own.id name) (sym same) ∙ alike
    | inr differs ↦ found_alike name later row (rw differs at found)
  ]

  pub limit_kinds : (limits : DefragLimits) (rows : List (Row C))
      → AllByRecursion (λ one. is_expiry one.cause ≡ false) (evicted_for_limits limits rows)
  limit_kinds limits [] = tt
  limit_kinds limits (row ∷ later) = elim (cases_Bool (are_within limits (row ∷ later))) [
    | inl all ↦ rw all tt
    | inr some ↦ rw some (kind_of (nat_lt (most_names limits) (length (row ∷ later))), limit_kinds limits later)
  ]
    where
      kind_of : (test : Bool) → is_expiry (cond test Streams Bytes) ≡ false
      kind_of true = refl
      kind_of false = refl

  -- ---- the rows after an accepted fragment
  module _ (rows : List (Row C)) (name : IpFragId C) (fragment : IpFragment) (number : ℕ) (are : AreRows number rows)
    where
      -- rows of other names
      abbrev others : List (Row C)
      others = other_rows eq name rows

      pub others_other : (other : IpFragId C) → same_stream eq name other ≡ false
          → row_named eq other (others) ≡ row_named eq other rows
      others_other other differs = others_named rows name other ∙ rw differs refl

      pub others_own : row_named eq name (others) ≡ None
      others_own = others_named rows name name ∙ rw ((named_alike).refl name) refl

      module _ (now space : ℕ) where
        -- row of the fragment's name
        abbrev pub accepted_row : Row C
        accepted_row = row_with (row_named eq name rows) name fragment now number space

        -- rows with it
        abbrev pub appended_rows : List (Row C)
        appended_rows = (others) ++ (accepted_row) ∷ []

        accepted_name : same_stream eq (accepted_row).id name ≡ true
        accepted_name = named_of (row_named eq name rows) refl
          where
            named_of : (found : Option (Row C)) → row_named eq name rows ≡ found
                → same_stream eq (option_map_or (λ row. row.id) found name) name ≡ true
            named_of None is = (named_alike).refl name
            named_of (Some row) is = found_alike name rows row is

        pub appended_own : row_named eq name (appended_rows) ≡ Some (accepted_row)
        appended_own = appended_named (others) (accepted_row) name ∙ rw (others_own, accepted_name) refl

        pub appended_other : (other : IpFragId C) → same_stream eq name other ≡ false
            → row_named eq other (appended_rows) ≡ row_named eq other rows
        appended_other other differs =
            let away : same_stream eq (accepted_row).id other ≡ false =
            (named_alike).congr (accepted_row).id name other (accepted_name) ∙ differs in
            appended_named (others) (accepted_row) other
            ∙ rw (others_other other differs, away) (itself (row_named eq other rows))
          where
            itself : (row : Option (Row C)) → cond (is_some row) row None ≡ row
            itself None = refl
            itself (Some row) = refl

        pub appended_are : AreRows (number + 1) (appended_rows)
        appended_are =
            let none : row_named eq (accepted_row).id (others) ≡ None =
            others_named rows name (accepted_row).id
            ∙ rw ((named_alike).symm name (accepted_row).id ∙ accepted_name) refl in
            AreRows-append number (others) (accepted_row)
            (AreRows-filter number (λ row. not (same_stream eq row.id name)) rows are) refl none
