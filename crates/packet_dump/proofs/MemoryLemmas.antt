-- Without an eviction for memory, the memory of streams has no influence.
use Rattle.std.proofs.Common.{◌≡◌, ℕ, Bool, true, false, cond, not, ◌&&◌, ◌||◌, nat_eq, nat_le, nat_lt, arith, if◌then◌else◌}
use Rattle.std.proofs.Common.{List, [], ◌∷◌, ◌++◌, length, map, Option, Some, None, is_some, refl, sym, ap, ◌∙◌, ◌+◌, unwrap_or}
use Rattle.std.specs.Prelude.{IsFalse}
use Rattle.std.specs.List.{filter, list_any}
use Rattle.std.specs.Option.{option_map}
use Rattle.std.proofs.lemmas.Bool.{false≢true}
use Rattle.std.proofs.lemmas.Bool.Decides.{nat_tests}
use Rattle.std.proofs.lemmas.List.{length-map, map-append}
use Rattle.std.proofs.lemmas.List.Sums.{sum_by-cons}
use Rattle.etherparse.specs.Types.DefragLimits.{DefragLimits}
use Rattle.etherparse.specs.Types.EvictionCause.{EvictionCause}
use Rattle.etherparse.specs.Types.EvictionCause.TheVariants.{Bytes, Expired, Overlap, Streams}
use Rattle.etherparse.specs.Types.IpFragId.{IpFragId}
use Rattle.etherparse.specs.BoundedLimits.{most_names}
use Rattle.etherparse.specs.BoundedSteps.{Fate, Gone, Row, Step, accepted_before, accepting_step, are_within, discarded_row}
use Rattle.etherparse.specs.BoundedSteps.{evicted_for_limits, expires_for, fate_at, fated_step, fragment_step, gone_for}
use Rattle.etherparse.specs.BoundedSteps.{is_accepted, is_for_bytes, is_rejected, discards, limit_cause, other_rows, remaining}
use Rattle.etherparse.specs.BoundedSteps.{nothing_complete, payload_by, payload_complete, quiet_step, rejecting_step}
use Rattle.etherparse.specs.BoundedSteps.{room_held, row_named, row_with, rows_discarding}
use Rattle.etherparse.specs.BoundedSteps.{BoundedCall, clears_names, expires_names, gives_fragment, is_due, removes_name}
use Rattle.etherparse.specs.Types.BoundedDefragError.TheVariants.{Discarded, OverBudget}
use Rattle.etherparse.specs.IpFragments.{IpFragment, is_complete}
use Rattle.etherparse.specs.Streams.{same_stream}
use Rattle.packet_dump.specs.StreamMemory.{EvictsNoneForMemory, gone_without_memory, granted_step, step_without_memory}
use Rattle.packet_dump.specs.StreamMemory.{without_memory}

-- ---- lists

abbrev forget : List (Row ℕ) → List (Row ℕ)
forget rows = map without_memory rows

abbrev forget_gone : List (Gone ℕ) → List (Gone ℕ)
forget_gone gone = map gone_without_memory gone

kept_or_not : (b : Bool) (row : Row ℕ) (rows others : List (Row ℕ)) → forget rows ≡ others
    → forget (cond b (row ∷ rows) rows) ≡ cond b (without_memory row ∷ others) others
kept_or_not true row rows others same = ap (λ l. without_memory row ∷ l) same
kept_or_not false row rows others same = same

-- A test that does not look at memory keeps the same names.
forget-filter : (test : Row ℕ → Bool) → ((row : Row ℕ) → test (without_memory row) ≡ test row)
    → (rows : List (Row ℕ)) → forget (filter test rows) ≡ filter test (forget rows)
forget-filter test blind [] = refl
forget-filter test blind (row ∷ rows) =
    kept_or_not (test row) row (filter test rows) (filter test (forget rows)) (forget-filter test blind rows)
    ∙ ap (λ b. cond b (without_memory row ∷ filter test (forget rows)) (filter test (forget rows))) (sym (blind row))

found_or_later : (b : Bool) (row : Row ℕ) (later other : Option (Row ℕ)) → option_map without_memory later ≡ other
    → option_map without_memory (cond b (Some row) later) ≡ cond b (Some (without_memory row)) other
found_or_later true row later other same = refl
found_or_later false row later other same = same

forget-find : (name : IpFragId ℕ) (rows : List (Row ℕ))
    → option_map without_memory (row_named nat_eq name rows) ≡ row_named nat_eq name (forget rows)
forget-find name [] = refl
forget-find name (row ∷ rows) =
    found_or_later (same_stream nat_eq row.id name) row (row_named nat_eq name rows)
    (row_named nat_eq name (forget rows)) (forget-find name rows)

forget-gone_for : (cause : EvictionCause) (rows : List (Row ℕ))
    → forget_gone (map (gone_for cause) rows) ≡ map (gone_for cause) (forget rows)
forget-gone_for cause [] = refl
forget-gone_for cause (row ∷ rows) = ap (λ l. gone_for cause (without_memory row) ∷ l) (forget-gone_for cause rows)

no_space : (rows : List (Row ℕ)) → room_held (forget rows) ≡ 0
no_space [] = refl
no_space (row ∷ rows) =
    sum_by-cons (λ (r : Row ℕ). r.room) (without_memory row) (forget rows) ∙ ap (λ n. 0 + n) (no_space rows)

discarded_or_not : (b : Bool) (row : Row ℕ)
    → without_memory (cond b (discarded_row row) row) ≡ cond b (discarded_row (without_memory row)) (without_memory row)
discarded_or_not true row = refl
discarded_or_not false row = refl

forget-discarding : (name : IpFragId ℕ) (rows : List (Row ℕ))
    → forget (rows_discarding nat_eq name rows) ≡ rows_discarding nat_eq name (forget rows)
forget-discarding name [] = refl
forget-discarding name (row ∷ rows) =
    ap (λ r. r ∷ forget (rows_discarding nat_eq name rows)) (discarded_or_not (same_stream nat_eq row.id name) row)
    ∙ ap (λ l. cond (same_stream nat_eq row.id name) (discarded_row (without_memory row)) (without_memory row) ∷ l)
    (forget-discarding name rows)

-- ---- limits

always : (a b : Bool) → b ≡ true → (a && b) ≡ a
always true b holds = holds
always false b holds = refl

-- Without memory, only the number of names is within limits or not.
within_without : (limits : DefragLimits) (rows : List (Row ℕ))
    → are_within limits (forget rows) ≡ nat_le (length rows) (most_names limits)
within_without limits rows =
    ap (λ n. nat_le n (most_names limits) && nat_le (room_held (forget rows)) limits.bytes)
    (length-map rows without_memory)
    ∙ ap (λ n. nat_le (length rows) (most_names limits) && nat_le n limits.bytes) (no_space rows)
    ∙ always (nat_le (length rows) (most_names limits)) (nat_le 0 limits.bytes) (grind (arith, nat_tests))

abbrev is_memory : List (Gone ℕ) → Bool
is_memory gone = list_any (λ one. is_for_bytes one.cause) gone

no_or : (a b : Bool) → (a || b) ≡ false → (a ≡ false) × (b ≡ false)
no_or true b is = absurd (false≢true (sym is))
no_or false b is = (refl, is)

first_of_two : (a b : Bool) → (a && b) ≡ true → a ≡ true
first_of_two true b is = refl
first_of_two false b is = is

-- If a name is not evicted for memory, there are too many.
too_many_by : (b : Bool) → is_for_bytes (cond b Streams Bytes) ≡ false → b ≡ true
too_many_by true none = refl
too_many_by false none = sym none

not_few : (number most : ℕ) → nat_lt most number ≡ true → nat_le number most ≡ false
not_few number most many = grind (arith, nat_tests)

-- The names that stay, and those that are evicted, are the same without memory.
abbrev Limited : DefragLimits → List (Row ℕ) → List (Row ℕ) → List (Gone ℕ) → Type 0
Limited limits rows stay leave =
    (forget stay ≡ remaining limits (forget rows)) × (forget_gone leave ≡ evicted_for_limits limits (forget rows))

limited_cons : (limits : DefragLimits) (row : Row ℕ) (later : List (Row ℕ)) (b : Bool)
    → are_within limits (row ∷ later) ≡ b
    → IsFalse (is_memory (cond b []
    (gone_for (limit_cause limits (row ∷ later)) row ∷ evicted_for_limits limits later)))
    → (IsFalse (is_memory (evicted_for_limits limits later))
    → Limited limits later (remaining limits later) (evicted_for_limits limits later))
    → Limited limits (row ∷ later) (cond b (row ∷ later) (remaining limits later))
    (cond b [] (gone_for (limit_cause limits (row ∷ later)) row ∷ evicted_for_limits limits later))
limited_cons limits row later true within none others =
    let few : are_within limits (forget (row ∷ later)) ≡ true =
    within_without limits (row ∷ later)
    ∙ first_of_two (nat_le (length (row ∷ later)) (most_names limits)) (nat_le (room_held (row ∷ later)) limits.bytes)
    within in
    let left = without_memory row in (
      sym (ap (λ (c : Bool). cond c (left ∷ forget later) (remaining limits (forget later))) few),
      sym (ap
          (λ (c : Bool). cond c []
          (gone_for (limit_cause limits (left ∷ forget later)) left ∷ evicted_for_limits limits (forget later))) few),
    )
limited_cons limits row later false within none others =
    let split = no_or (is_for_bytes (limit_cause limits (row ∷ later))) (is_memory (evicted_for_limits limits later))
    none in
    let many : nat_lt (most_names limits) (length (row ∷ later)) ≡ true =
    too_many_by (nat_lt (most_names limits) (length (row ∷ later))) split.0 in
    let few : are_within limits (forget (row ∷ later)) ≡ false =
    within_without limits (row ∷ later) ∙ not_few (length (row ∷ later)) (most_names limits) many in
    let left = without_memory row in
    let rest = others split.1 in
    let cause : limit_cause limits (row ∷ later) ≡ limit_cause limits (left ∷ forget later) =
    ap (λ (n : ℕ). cond (nat_lt (most_names limits) n) Streams Bytes)
    (sym (length-map (row ∷ later) without_memory)) in (
      rest.0 ∙ sym (ap (λ (c : Bool). cond c (left ∷ forget later) (remaining limits (forget later))) few),
      ap (λ (c : EvictionCause). gone_for c left ∷ forget_gone (evicted_for_limits limits later)) cause
          ∙ ap (λ (l : List (Gone ℕ)). gone_for (limit_cause limits (left ∷ forget later)) left ∷ l) rest.1
          ∙ sym (ap
          (λ (c : Bool). cond c []
          (gone_for (limit_cause limits (left ∷ forget later)) left ∷ evicted_for_limits limits (forget later))) few),
    )

limited : (limits : DefragLimits) (rows : List (Row ℕ)) → IsFalse (is_memory (evicted_for_limits limits rows))
    → Limited limits rows (remaining limits rows) (evicted_for_limits limits rows)
limited limits [] none = (refl, refl)
limited limits (row ∷ later) none =
    limited_cons limits row later (are_within limits (row ∷ later)) refl none (limited limits later)

-- ---- fragments

fate_without : (limits : DefragLimits) (old : Option (Row ℕ)) (fragment : IpFragment)
    → fate_at limits (option_map without_memory old) fragment ≡ fate_at limits old fragment
fate_without limits None fragment = refl
fate_without limits (Some row) fragment = refl

row_without : (old : Option (Row ℕ)) (name : IpFragId ℕ) (fragment : IpFragment) (now number space : ℕ)
    → without_memory (row_with old name fragment now number space)
    ≡ row_with (option_map without_memory old) name fragment now number 0
row_without None name fragment now number space = refl
row_without (Some row) name fragment now number space = refl

accepted_without : (old : Option (Row ℕ)) → accepted_before (option_map without_memory old) ≡ accepted_before old
accepted_without None = refl
accepted_without (Some row) = refl

some_without : (old : Option (Row ℕ)) → is_some (option_map without_memory old) ≡ is_some old
some_without None = refl
some_without (Some row) = refl

-- The step of an accepted fragment that completes nothing, given whether its stream alone uses too much memory.
abbrev unfinished : DefragLimits → Option (Row ℕ) → List (Row ℕ) → Row ℕ → Bool → Step ℕ
unfinished limits old others own over =
    if over then record (rejecting_step others OverBudget) {
      gone = gone_for Bytes (unwrap_or old own) ∷ [];
      begun = not (is_some old);
    } else record (quiet_step (remaining limits (others ++ own ∷ []))) {
      gone = evicted_for_limits limits (others ++ own ∷ []);
      begun = not (is_some old);
    }

unfinished_without : (limits : DefragLimits) (old : Option (Row ℕ)) (others : List (Row ℕ)) (own : Row ℕ) (over : Bool)
    → EvictsNoneForMemory (unfinished limits old others own over)
    → step_without_memory (unfinished limits old others own over)
    ≡ unfinished limits (option_map without_memory old) (forget others) (without_memory own) false
unfinished_without limits old others own true none = absurd (false≢true (sym none))
unfinished_without limits old others own false none =
    let done = limited limits (others ++ own ∷ []) none in
    let pushed = map-append without_memory others (own ∷ []) in
    λ i. record {
      rows = (done.0 ∙ ap (remaining limits) pushed) i;
      gone = (done.1 ∙ ap (evicted_for_limits limits) pushed) i;
      removed = [];
      begun = not (sym (some_without old) i);
      answer = nothing_complete;
      completed = [];
    }

-- The step of an accepted fragment, given whether its payload is complete, and whether its stream alone uses too much
-- memory.
abbrev finished : DefragLimits → Option (Row ℕ) → List (Row ℕ) → Row ℕ → List IpFragment → Bool → Bool → Step ℕ
finished limits old others own accepted complete over =
    if complete then record (quiet_step others) {
      begun = not (is_some old);
      answer = payload_complete (payload_by limits own.id accepted);
      completed = accepted;
    } else unfinished limits old others own over

accepting_without_by : (limits : DefragLimits) (old : Option (Row ℕ)) (others : List (Row ℕ)) (own : Row ℕ)
    (accepted : List IpFragment) (complete over : Bool)
    → EvictsNoneForMemory (finished limits old others own accepted complete over)
    → step_without_memory (finished limits old others own accepted complete over)
    ≡ finished limits (option_map without_memory old) (forget others) (without_memory own) accepted complete false
accepting_without_by limits old others own accepted true over none =
    ap (λ (b : Bool). record (quiet_step (forget others)) {
      begun = not b;
      answer = payload_complete (payload_by limits own.id accepted);
      completed = accepted;
    }) (sym (some_without old))
accepting_without_by limits old others own accepted false over none =
    unfinished_without limits old others own over none

no_more : (bytes : ℕ) → nat_lt bytes 0 ≡ false
no_more bytes = grind (arith, nat_tests)

accepting_without : (limits : DefragLimits) (old : Option (Row ℕ)) (others : List (Row ℕ)) (own : Row ℕ)
    (accepted : List IpFragment) → EvictsNoneForMemory (accepting_step limits old others own accepted)
    → step_without_memory (accepting_step limits old others own accepted)
    ≡ accepting_step limits (option_map without_memory old) (forget others) (without_memory own) accepted
accepting_without limits old others own accepted none =
    accepting_without_by limits old others own accepted (is_complete accepted) (nat_lt limits.bytes own.room) none
    ∙ ap (finished limits (option_map without_memory old) (forget others) (without_memory own) accepted
    (is_complete accepted)) (sym (no_more limits.bytes))

fated_without : (limits : DefragLimits) (rows : List (Row ℕ)) (name : IpFragId ℕ) (fragment : IpFragment)
    (now number space : ℕ) (fate : Fate)
    → EvictsNoneForMemory (fated_step limits nat_eq rows name fragment now number (Some space) fate)
    → step_without_memory (fated_step limits nat_eq rows name fragment now number (Some space) fate)
    ≡ fated_step limits nat_eq (forget rows) name fragment now number (Some 0) fate
fated_without limits rows name fragment now number space (is_rejected error) none = refl
fated_without limits rows name fragment now number space discards none =
    let own : Row ℕ → Bool = λ row. same_stream nat_eq row.id name in
    λ i. record (rejecting_step (forget-discarding name rows i) Discarded) {
      gone = (forget-gone_for Overlap (filter own rows)
          ∙ ap (map (gone_for Overlap)) (forget-filter own (λ row. refl) rows)) i;
    }
fated_without limits rows name fragment now number space is_accepted none =
    let old = row_named nat_eq name rows in
    let found = forget-find name rows in
    let accepted : accepted_before old ++ fragment ∷ []
    ≡ accepted_before (row_named nat_eq name (forget rows)) ++ fragment ∷ [] =
    ap (λ (l : List IpFragment). l ++ fragment ∷ [])
    (sym (accepted_without old) ∙ ap (λ (o : Option (Row ℕ)). accepted_before o) found) in
    let own = row_without old name fragment now number space
    ∙ ap (λ (o : Option (Row ℕ)). row_with o name fragment now number 0) found in
    let others = forget-filter (λ row. not (same_stream nat_eq row.id name)) (λ row. refl) rows in
    accepting_without limits old (other_rows nat_eq name rows) (row_with old name fragment now number space)
    (accepted_before old ++ fragment ∷ []) none
    ∙ (λ i. accepting_step limits (found i) (others i) (own i) (accepted i))

skip_expired : (rows : List (Row ℕ)) (gone : List (Gone ℕ))
    → is_memory (map (gone_for Expired) rows ++ gone) ≡ is_memory gone
skip_expired [] gone = refl
skip_expired (row ∷ rows) gone = skip_expired rows gone

fragment_without : (limits : DefragLimits) (rows : List (Row ℕ)) (name : IpFragId ℕ) (fragment : IpFragment)
    (now number space : ℕ)
    → EvictsNoneForMemory (fragment_step limits nat_eq rows name fragment now number (Some space))
    → step_without_memory (fragment_step limits nat_eq rows name fragment now number (Some space))
    ≡ fragment_step limits nat_eq (forget rows) name fragment now number (Some 0)
fragment_without limits rows name fragment now number space none =
    let expires : Row ℕ → Bool = expires_for limits nat_eq now name in
    let stays : Row ℕ → Bool = λ row. not (expires row) in
    let left = filter stays rows in
    let fate = fate_at limits (row_named nat_eq name left) fragment in
    let step = fated_step limits nat_eq left name fragment now number (Some space) fate in
    let same = forget-filter stays (λ row. refl) rows in
    let fates : fate ≡ fate_at limits (row_named nat_eq name (forget left)) fragment =
    sym (fate_without limits (row_named nat_eq name left) fragment)
    ∙ ap (λ (o : Option (Row ℕ)). fate_at limits o fragment) (forget-find name left) in
    let steps = fated_without limits left name fragment now number space fate
    (sym (skip_expired (filter expires rows) step.gone) ∙ none)
    ∙ ap (λ f. fated_step limits nat_eq (forget left) name fragment now number (Some 0) f) fates
    ∙ ap
    (λ (l : List (Row ℕ)).
    fated_step limits nat_eq l name fragment now number (Some 0) (fate_at limits (row_named nat_eq name l) fragment))
    same in
    let expired = forget-gone_for Expired (filter expires rows)
    ∙ ap (map (gone_for Expired)) (forget-filter expires (λ row. refl) rows) in
    let gone = map-append gone_without_memory (map (gone_for Expired) (filter expires rows)) step.gone
    ∙ (λ i. expired i ++ (steps i).gone) in
    λ i. record (steps i) { gone = gone i }

-- ---- calls

call_without : (limits : DefragLimits) (rows : List (Row ℕ)) (call : BoundedCall ℕ) (number space : ℕ)
    → EvictsNoneForMemory (granted_step limits rows call number space)
    → step_without_memory (granted_step limits rows call number space) ≡ granted_step limits (forget rows) call number 0
call_without limits rows (gives_fragment None now) number space none = refl
call_without limits rows (gives_fragment (Some given) now) number space none =
    fragment_without limits rows given.0 given.1 now number space none
call_without limits rows (expires_names now idle) number space none =
    let leaves : Row ℕ → Bool = is_due limits now idle in
    let stay = forget-filter (λ row. not (leaves row)) (λ row. refl) rows in
    let leave = forget-gone_for Expired (filter leaves rows)
    ∙ ap (map (gone_for Expired)) (forget-filter leaves (λ row. refl) rows) in
    λ i. record (quiet_step (stay i)) { gone = leave i }
call_without limits rows (removes_name name) number space none =
    let own : Row ℕ → Bool = λ row. same_stream nat_eq row.id name in
    let stay = forget-filter (λ row. not (own row)) (λ row. refl) rows in
    let leave = forget-filter own (λ row. refl) rows in
    λ i. record (quiet_step (stay i)) { removed = leave i }
call_without limits rows clears_names number space none = refl

-- If no stream is evicted for its memory, neither the memory of the streams nor that of a fragment has an influence.
pub memory_changes_nothing : (limits : DefragLimits) (rows other_rows : List (Row ℕ)) (call : BoundedCall ℕ)
    (number space other_space : ℕ) → map without_memory rows ≡ map without_memory other_rows
    → EvictsNoneForMemory (granted_step limits rows call number space)
    → EvictsNoneForMemory (granted_step limits other_rows call number other_space)
    → step_without_memory (granted_step limits rows call number space)
    ≡ step_without_memory (granted_step limits other_rows call number other_space)
memory_changes_nothing limits rows other_rows call number space other_space same none other_none =
    call_without limits rows call number space none
    ∙ ap (λ (l : List (Row ℕ)). granted_step limits l call number 0) same
    ∙ sym (call_without limits other_rows call number other_space other_none)
