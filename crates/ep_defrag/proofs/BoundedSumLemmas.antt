-- The counters of a bounded pool add up.
use Rattle.std.proofs.Common.{◌≡◌, ℕ, ◌+◌, ◌-◌, ◌^◌, ◌<◌, min, Bool, true, false, not, ◌&&◌, cond, List, [], ◌∷◌, ◌++◌, map, Option}
use Rattle.std.proofs.Common.{Some, None, is_some, nat_lt, refl, ap, ◌∙◌, inl, inr, arith}
use Rattle.std.specs.Cmp.{IsEquivalence}
use Rattle.std.specs.List.{filter, count_by}
use Rattle.std.specs.Option.{unwrap_or}
use Rattle.std.proofs.lemmas.Bool.{cases_Bool}
use Rattle.std.proofs.lemmas.List.{map-append}
use Rattle.std.proofs.lemmas.List.Sums.{sum_by-cons, sum_by-append}
use Rattle.ep_defrag.specs.declared.ip_frag_id.IpFragId.{IpFragId}
use Rattle.ep_defrag.specs.declared.bounded_limits.DefragLimits.{DefragLimits}
use Rattle.ep_defrag.specs.declared.evicted_stream.EvictionCause.{EvictionCause}
use Rattle.ep_defrag.specs.declared.evicted_stream.EvictionCause.TheVariants.{Expired, Overlap, Streams, Bytes}
use Rattle.ep_defrag.specs.declared.defrag_statistics.DefragStatistics.{DefragStatistics}
use Rattle.ep_defrag.specs.IpFragments.{IpFragment, is_complete}
use Rattle.ep_defrag.specs.Streams.{same_stream}
use Rattle.ep_defrag.specs.BoundedSteps.{Row, is_open, row_named, other_rows, are_within, Gone, gone_for, is_expiry}
use Rattle.ep_defrag.specs.BoundedSteps.{is_overlap, is_for_streams, is_for_bytes, remaining}
use Rattle.ep_defrag.specs.BoundedSteps.{evicted_for_limits, is_due, expires_for, Step}
use Rattle.ep_defrag.specs.BoundedSteps.{Fate, is_rejected, discards, is_accepted, fate_in, fate_at}
use Rattle.ep_defrag.specs.BoundedSteps.{accepted_before, row_with, discarded_row, rows_discarding}
use Rattle.ep_defrag.specs.BoundedSteps.{accepting_step, fated_step, fragment_step, BoundedCall, gives_fragment}
use Rattle.ep_defrag.specs.BoundedSteps.{expires_names, removes_name, clears_names, call_step}
use Rattle.ep_defrag.specs.BoundedRuns.{Made, rows_from}
use Rattle.ep_defrag.specs.BoundedCounts.{AddUp, count_gone, is_payload, statistics_with, statistics_from}
use Rattle.ep_defrag.proofs.BoundedRowLemmas.{AreRows, AreRows-filter, only_own}
use Rattle.ep_defrag.proofs.BoundedAloneLemmas.{call_holds}

-- ---- numbers
small : (n most : ℕ) → n < most → min n most ≡ n
small n most less = omega arith

-- Counters that stay at their greatest value add up, as long as the first one is below it.
counters_after : (most begun completed discarded expired streams bytes removed left b c d e s y r after : ℕ)
    → (begun < most → begun ≡ completed + discarded + expired + streams + bytes + removed + left)
    → b + left ≡ c + d + e + s + y + r + after → min (begun + b) most < most
    → min (begun + b) most
    ≡ min (completed + c) most + min (discarded + d) most + min (expired + e) most + min (streams + s) most
    + min (bytes + y) most + min (removed + r) most + after
counters_after most begun completed discarded expired streams bytes removed left b c d e s y r after sum step below =
    let less : begun + b < most = omega (arith, below) in
    let before : begun ≡ completed + discarded + expired + streams + bytes + removed + left = sum (omega arith) in
    rw (
      small (begun + b) most less,
      small (completed + c) most (omega (arith, before, step, less)),
      small (discarded + d) most (omega (arith, before, step, less)),
      small (expired + e) most (omega (arith, before, step, less)),
      small (streams + s) most (omega (arith, before, step, less)),
      small (bytes + y) most (omega (arith, before, step, less)),
      small (removed + r) most (omega (arith, before, step, less)),
    )
    (omega (arith, before, step))

-- Each name that is evicted or discarded has one cause.
one_cause : (cause : EvictionCause) (test : Bool)
    → cond (is_overlap cause && test) 1 0 + cond (is_expiry cause && test) 1 0
    + cond (is_for_streams cause && test) 1 0 + cond (is_for_bytes cause && test) 1 0 ≡ cond test 1 0
one_cause Expired true = refl
one_cause Expired false = refl
one_cause Overlap true = refl
one_cause Overlap false = refl
one_cause Streams true = refl
one_cause Streams false = refl
one_cause Bytes true = refl
one_cause Bytes false = refl

module _ {C : Type 0} where
  -- number of open streams
  abbrev opened : List (Row C) → ℕ
  opened rows = count_by is_open rows

  opened-cons : (row : Row C) (rows : List (Row C)) → opened (row ∷ rows) ≡ cond (is_open row) 1 0 + opened rows
  opened-cons row rows = sum_by-cons (λ (one : Row C). cond (is_open one) 1 0) row rows

  opened-append : (first second : List (Row C)) → opened (first ++ second) ≡ opened first + opened second
  opened-append first second = sum_by-append (λ (one : Row C). cond (is_open one) 1 0) first second

  opened-parts : (p : Row C → Bool) (rows : List (Row C))
      → opened (filter p rows) + opened (filter (λ row. not (p row)) rows) ≡ opened rows
  opened-parts p [] = refl
  opened-parts p (row ∷ rows) =
      let rest = opened-parts p rows in
      elim (cases_Bool (p row)) [
        | inl passes ↦ rw passes (omega (
          arith,
          rest,
          opened-cons row rows,
          opened-cons row (filter p rows),
        ))
        | inr fails ↦ rw fails (omega (
          arith,
          rest,
          opened-cons row rows,
          opened-cons row (filter (λ one. not (p one)) rows),
        ))
      ]

  abbrev rows_of : List (Gone C) → List (Row C)
  rows_of gone = map (λ one. one.row) gone

  rows_of-for : (cause : EvictionCause) (rows : List (Row C)) → rows_of (map (gone_for cause) rows) ≡ rows
  rows_of-for cause [] = refl
  rows_of-for cause (row ∷ rows) = ap (λ others. row ∷ others) (rows_of-for cause rows)

  counted_gone : (is_cause : EvictionCause → Bool) (one : Gone C) (gone : List (Gone C))
      → count_gone is_cause (one ∷ gone) ≡ cond (is_cause one.cause && is_open one.row) 1 0 + count_gone is_cause gone
  counted_gone is_cause one gone =
      sum_by-cons (λ (each : Gone C). cond (is_cause each.cause && is_open each.row) 1 0) one gone

  causes_of : (gone : List (Gone C))
      → count_gone is_overlap gone + count_gone is_expiry gone + count_gone is_for_streams gone
      + count_gone is_for_bytes gone ≡ opened (rows_of gone)
  causes_of [] = refl
  causes_of (one ∷ gone) =
      omega (
        arith,
        causes_of gone,
        one_cause one.cause (is_open one.row),
        counted_gone is_overlap one gone,
        counted_gone is_expiry one gone,
        counted_gone is_for_streams one gone,
        counted_gone is_for_bytes one gone,
        opened-cons one.row (rows_of gone),
      )

  -- Holds if the streams that a step begins, and those that were open, are those that it ends, and those that are open.
  record StepSums (rows : List (Row C)) (step : Step C) : Type 0 where
    sum : cond step.begun 1 0 + opened rows
        ≡ cond (is_payload step.answer) 1 0 + opened (rows_of step.gone) + opened step.removed + opened step.rows

module _ {C : Type 0} (eq : C → C → Bool) (laws : IsEquivalence eq) (limits : DefragLimits) where
  opened-limits : (rows : List (Row C))
      → opened (rows_of (evicted_for_limits limits rows)) + opened (remaining limits rows) ≡ opened rows
  opened-limits [] = refl
  opened-limits (row ∷ later) = elim (cases_Bool (are_within limits (row ∷ later))) [
    | inl all ↦ rw all (omega arith)
    | inr some ↦ rw some
        (omega (
          arith,
          opened-limits later,
          opened-cons row later,
          opened-cons row (rows_of (evicted_for_limits limits later)),
        ))
  ]

  opened-discarding : (name : IpFragId C) (rows : List (Row C))
      → opened (rows_discarding eq name rows) ≡ opened (other_rows eq name rows)
  opened-discarding name [] = refl
  opened-discarding name (row ∷ rows) = elim (cases_Bool (same_stream eq row.id name)) [
    | inl own ↦ rw own
        (omega (
          arith,
          opened-discarding name rows,
          opened-cons (discarded_row row) (rows_discarding eq name rows),
        ))
    | inr away ↦ rw away
        (omega (
          arith,
          opened-discarding name rows,
          opened-cons row (rows_discarding eq name rows),
          opened-cons row (other_rows eq name rows),
        ))
  ]

  -- the row of a name as a list
  abbrev listed : Option (Row C) → List (Row C)
  listed None = []
  listed (Some row) = row ∷ []

  none_of_name : (name : IpFragId C) (rows : List (Row C)) → row_named eq name rows ≡ None
      → filter (λ row. same_stream eq row.id name) rows ≡ []
  none_of_name name [] none = refl
  none_of_name name (row ∷ rows) none = elim (cases_Bool (same_stream eq row.id name)) [
    | inl own ↦ absurd (let some : Some row ≡ None = rw own at none in cc)
    | inr away ↦ rw away (none_of_name name rows (rw away at none))
  ]

  own_listed : (number : ℕ) (name : IpFragId C) (rows : List (Row C)) → AreRows eq laws number rows
      → (found : Option (Row C)) → row_named eq name rows ≡ found
      → filter (λ row. same_stream eq row.id name) rows ≡ listed found
  own_listed number name rows are None none = none_of_name name rows none
  own_listed number name rows are (Some row) some = only_own eq laws number name rows row are some

  open_in : (accepted : Option (List IpFragment)) (fragment : IpFragment)
      → fate_in limits accepted fragment ≡ is_accepted → is_some accepted ≡ true
  open_in None fragment fate = absurd (cc)
  open_in (Some accepted) fragment fate = refl

  -- A name at which a fragment is accepted is open or absent.
  open_or_absent : (found : Option (Row C)) (fragment : IpFragment) → fate_at limits found fragment ≡ is_accepted
      → cond (not (is_some found)) 1 0 + opened (listed found) ≡ 1
  open_or_absent None fragment fate = refl
  open_or_absent (Some row) fragment fate =
      let count : Bool → ℕ = λ test. cond test 1 0 in
      omega (arith, opened-cons row [], ap count (open_in row.accepted fragment fate))

  module _ (rows : List (Row C)) (name : IpFragId C) (fragment : IpFragment) (now number : ℕ)
      (are : AreRows eq laws number rows) where
    abbrev old : Option (Row C)
    old = row_named eq name rows

    abbrev others : List (Row C)
    others = other_rows eq name rows

    begun_and_open : fate_at limits (old) fragment ≡ is_accepted
        → cond (not (is_some (old))) 1 0 + opened rows ≡ 1 + opened (others)
    begun_and_open fate =
        omega (
          arith,
          open_or_absent (old) fragment fate,
          ap opened (own_listed number name rows are (old) refl),
          opened-parts (λ row. same_stream eq row.id name) rows,
        )

    former_open : (found : Option (Row C)) (own : Row C) → fate_at limits found fragment ≡ is_accepted
        → is_open own ≡ true → is_open (unwrap_or found own) ≡ true
    former_open None own fate is = is
    former_open (Some row) own fate is = open_in row.accepted fragment fate

    accepting_sums : (space : ℕ) → fate_at limits (old) fragment ≡ is_accepted
        → StepSums rows
        (accepting_step limits (old) (others) (row_with (old) name fragment now number space)
        (accepted_before (old) ++ fragment ∷ []))
    accepting_sums space fate =
        let own = row_with (old) name fragment now number space in
        let sum = begun_and_open fate in
        choose (is_complete (accepted_before (old) ++ fragment ∷ [])) (nat_lt limits.bytes own.room)
        (record { sum = omega (arith, sum) })
        (record {
          sum = rw (opened-cons (unwrap_or (old) own) [], former_open (old) own fate refl) (omega (arith, sum));
        })
        (record {
          sum = omega (
            arith,
            sum,
            opened-limits ((others) ++ own ∷ []),
            opened-append (others) (own ∷ []),
            opened-cons own [],
          );
        })
      where
        choose : {x y z : Step C} (a b : Bool) → StepSums rows x → StepSums rows y → StepSums rows z
            → StepSums rows (cond a x (cond b y z))
        choose true b first second third = first
        choose false true first second third = second
        choose false false first second third = third

    fated_sums : (granted : Option ℕ) (fate : Fate) → fate_at limits (old) fragment ≡ fate
        → StepSums rows (fated_step limits eq rows name fragment now number granted fate)
    fated_sums granted (is_rejected error) is = record { sum = omega arith }
    fated_sums granted discards is = record {
      sum = omega (
        arith,
        opened-discarding name rows,
        ap opened (rows_of-for Overlap (filter (λ row. same_stream eq row.id name) rows)),
        opened-parts (λ row. same_stream eq row.id name) rows,
      );
    }
    fated_sums None is_accepted is = record { sum = omega arith }
    fated_sums (Some space) is_accepted is = accepting_sums space is

  fragment_sums : (rows : List (Row C)) (name : IpFragId C) (fragment : IpFragment) (now number : ℕ)
      (granted : Option ℕ) → AreRows eq laws number rows
      → StepSums rows (fragment_step limits eq rows name fragment now number granted)
  fragment_sums rows name fragment now number granted are =
      let left = filter (λ row. not (expires_for limits eq now name row)) rows in
      let expired = filter (λ row. expires_for limits eq now name row) rows in
      let left_are = AreRows-filter eq laws number (λ row. not (expires_for limits eq now name row)) rows are in
      let fate = fate_at limits (row_named eq name left) fragment in
      let inner = fated_step limits eq left name fragment now number granted fate in
      let sums = fated_sums left name fragment now number left_are granted fate refl in
      let gone : opened (rows_of (map (gone_for Expired) expired ++ inner.gone))
      ≡ opened expired + opened (rows_of inner.gone) =
      ap opened
      (map-append (λ (one : Gone C). one.row) (map (gone_for Expired) expired) inner.gone
      ∙ ap (λ prefix. prefix ++ rows_of inner.gone) (rows_of-for Expired expired))
      ∙ opened-append expired (rows_of inner.gone) in
      record {
        sum = omega (arith, sums.sum, gone, opened-parts (λ row. expires_for limits eq now name row) rows);
      }

  call_sums : (rows : List (Row C)) (call : BoundedCall C) (number : ℕ) (granted : Option ℕ)
      → AreRows eq laws number rows → StepSums rows (call_step limits eq rows call number granted)
  call_sums rows (gives_fragment None now) number granted are = record { sum = omega arith }
  call_sums rows (gives_fragment (Some passed) now) number granted are =
      fragment_sums rows passed.0 passed.1 now number granted are
  call_sums rows (expires_names now idle) number granted are = record {
    sum = omega (
      arith,
      ap opened (rows_of-for Expired (filter (is_due limits now idle) rows)),
      opened-parts (is_due limits now idle) rows,
    );
  }
  call_sums rows (removes_name name) number granted are = record {
    sum = omega (arith, opened-parts (λ row. same_stream eq row.id name) rows);
  }
  call_sums rows clears_names number granted are = record { sum = omega arith }

  add_up_after : (counters : DefragStatistics) (call : BoundedCall C) (rows : List (Row C)) (step : Step C)
      → AddUp counters (opened rows) → StepSums rows step
      → AddUp (statistics_with counters call step) (opened step.rows)
  add_up_after counters call rows step sum sums =
      counters_after (2 ^ 64 - 1) counters.begun counters.completed counters.discarded counters.expired
      counters.evicted_for_streams counters.evicted_for_bytes counters.removed (opened rows) (cond step.begun 1 0)
      (cond (is_payload step.answer) 1 0)
      (count_gone is_overlap step.gone) (count_gone is_expiry step.gone) (count_gone is_for_streams step.gone)
      (count_gone is_for_bytes step.gone) (opened step.removed) (opened step.rows) sum
      (omega (arith, sums.sum, causes_of step.gone))

  pub add_up_from : (rows : List (Row C)) (number : ℕ) (counters : DefragStatistics) (calls : List (Made C))
      → AreRows eq laws number rows → AddUp counters (opened rows)
      → AddUp (statistics_from limits eq rows number counters calls) (opened (rows_from limits eq rows number calls))
  add_up_from rows number counters [] are sum = sum
  add_up_from rows number counters (made ∷ later) are sum =
      let step = call_step limits eq rows made.call number made.granted in
      add_up_from step.rows (number + 1) (statistics_with counters made.call step) later
      (call_holds eq laws limits rows made.call number made.granted are).are_rows
      (add_up_after counters made.call rows step sum (call_sums rows made.call number made.granted are))
