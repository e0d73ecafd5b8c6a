-- The program's pool after the calls for the packets of a capture.
use Rattle.std.proofs.Common.{◌≡◌, ◌≢◌, ℕ, ◌+◌, Bool, true, false, cond, nat_eq, nat_lt, not, List, [], ◌∷◌, ◌++◌}
use Rattle.std.proofs.Common.{Option, Some, None, Result, is_some, refl, sym, ap, arith, ◌∙◌, subst, append_assoc, ◌||◌}
use Rattle.std.specs.Prelude.{IsFalse}
use Rattle.std.specs.Bool.{Decides}
use Rattle.std.specs.Cmp.{unsigned_Decides}
use Rattle.std.specs.List.{AllZip, count_by, list_any}
use Rattle.std.proofs.lemmas.Bool.{false≢true}
use Rattle.std.proofs.lemmas.Bool.Decides.{Decides-and}
use Rattle.std.proofs.lemmas.List.{append-nil}
use Rattle.std.proofs.lemmas.List.Sums.{sum_by-cons}
use Rattle.std.proofs.lemmas.Slice.Eq.{slice_eq-Decides}
use Rattle.etherparse.specs.Types.BoundedDefragError.{BoundedDefragError}
use Rattle.etherparse.specs.Types.DefragLimits.{DefragLimits}
use Rattle.etherparse.specs.Types.EvictedStream.{EvictedStream}
use Rattle.etherparse.specs.Types.IpDefragBuf.{IpDefragBuf}
use Rattle.etherparse.specs.Types.IpDefragPayloadVec.{IpDefragPayloadVec}
use Rattle.etherparse.specs.Types.IpFragId.{IpFragId}
use Rattle.etherparse.specs.Types.IpFragVersionSpecId.{IpFragVersionSpecId}
use Rattle.etherparse.specs.Types.IpFragVersionSpecId.TheVariants.{Ipv4, Ipv6}
use Rattle.etherparse.specs.BoundedAnswers.{is_starved, plain_bounded}
use Rattle.etherparse.specs.BoundedCounts.{no_statistics, statistics_with}
use Rattle.etherparse.specs.BoundedNames.{HeldName, HoldsNames, HoldsRow, HoldsState, Reports, open_names}
use Rattle.etherparse.specs.BoundedPools.{DoesStep, HoldsRows, TakesBounded, evicted_in, limits_in, names_in}
use Rattle.etherparse.specs.BoundedPools.{statistics_in}
use Rattle.etherparse.specs.BoundedSteps.{BoundedAnswer, BoundedCall, Gone, Row, call_step, is_for_bytes, is_open}
use Rattle.etherparse.specs.IpFragments.{IpFragment}
use Rattle.etherparse.specs.Streams.{same_numbers, same_stream, same_version}
use Rattle.packet_dump.specs.Decoding.{filtered_in, layers_of, packet_of, start_of}
use Rattle.packet_dump.specs.EvictionLines.{KeepsMemoryOf, evicted_lines, eviction_line, gone_lines, moment_of, cleared_text}
use Rattle.packet_dump.specs.PacketCalls.{KeepsMemory, PoolHistory, expiry, fragment_call, fragment_in_frame, step_of}
use Rattle.packet_dump.specs.PacketCalls.{limits_of, new_pool, with_eviction, with_step}
use Rattle.packet_dump.specs.PoolLines.{IsAnswerText, PassesIfFragment, expired_text, second_of, swept_at}
use Rattle.packet_dump.specs.Sessions.{HoldsPooling, ProcessesFrame}
use Rattle.packet_dump.specs.declared.decoded.Decoded.{Decoded}
use Rattle.packet_dump.specs.declared.dump_options.DumpOptions.{DumpOptions}
use Rattle.packet_dump.specs.declared.pooling.Pooling.{Pooling}

-- ---- names

numbers_decide : (a b : List ℕ) → Decides (same_numbers a b) (a ≡ b)
numbers_decide a b = slice_eq-Decides unsigned_Decides a b (same_numbers a b) refl

version_decides : (a b : IpFragVersionSpecId) → Decides (same_version a b) (a ≡ b)
version_decides (Ipv4 source destination number) (Ipv4 other_source other_destination other) =
    let parts =
    Decides-and _ _ (Decides-and _ _ (numbers_decide source other_source)
    (numbers_decide destination other_destination)) (unsigned_Decides number other) in
    (λ same. let is = parts.0 same in cc, λ is. parts.1 ((cc, cc), cc))
version_decides (Ipv6 source destination number) (Ipv6 other_source other_destination other) =
    let parts =
    Decides-and _ _ (Decides-and _ _ (numbers_decide source other_source)
    (numbers_decide destination other_destination)) (unsigned_Decides number other) in
    (λ same. let is = parts.0 same in cc, λ is. parts.1 ((cc, cc), cc))
version_decides a b = (λ same. cc, λ is. cc)

-- The test for the same stream decides whether two names are equal.
name_decides : (a b : IpFragId ℕ) → Decides (same_stream nat_eq a b) (a ≡ b)
name_decides a b =
    let parts =
    Decides-and _ _ (Decides-and _ _ (Decides-and _ _ (numbers_decide a.vlan_ids.items b.vlan_ids.items)
    (version_decides a.ip b.ip)) (unsigned_Decides a.payload_ip_number.0 b.payload_ip_number.0))
    (unsigned_Decides a.channel_id b.channel_id) in (
      λ same.
          let is = parts.0 same in
          λ i. record {
            vlan_ids = record { items = is.0.0.0 i };
            ip = is.0.0.1 i;
            payload_ip_number = record { 0 = is.0.1 i };
            channel_id = is.1 i;
          },
      λ is. parts.1 (((cc, cc), cc), cc),
    )

-- ---- evictions

-- The lines of the reported streams are those of the streams that left the table.
pub reported_lines : (options : DumpOptions) (moment : List ℕ) (evicted : List (EvictedStream ℕ)) (gone : List (Gone ℕ))
    → AllZip (Reports nat_eq) evicted gone → evicted_lines options moment evicted ≡ gone_lines options moment gone
reported_lines options moment [] [] reports = refl
reported_lines options moment [] (left ∷ gone) reports = absurd reports
reported_lines options moment (one ∷ evicted) [] reports = absurd reports
reported_lines options moment (one ∷ evicted) (left ∷ gone) reports =
    let first = reports.0 in
    let name = (name_decides left.row.id one.id).0 first.id in
    ap (λ (n : IpFragId ℕ). eviction_line options moment n one.cause ++ evicted_lines options moment evicted) (sym name)
    ∙ ap (λ c. eviction_line options moment left.row.id c ++ evicted_lines options moment evicted) first.cause
    ∙ ap (λ (t : List ℕ). eviction_line options moment left.row.id left.cause ++ t)
    (reported_lines options moment evicted gone reports.1)

reported_causes : (evicted : List (EvictedStream ℕ)) (gone : List (Gone ℕ)) → AllZip (Reports nat_eq) evicted gone
    → list_any (λ one. is_for_bytes one.cause) evicted ≡ list_any (λ one. is_for_bytes one.cause) gone
reported_causes [] [] reports = refl
reported_causes [] (left ∷ gone) reports = absurd reports
reported_causes (one ∷ evicted) [] reports = absurd reports
reported_causes (one ∷ evicted) (left ∷ gone) reports =
    ap (λ c. is_for_bytes c || list_any (λ one. is_for_bytes one.cause) evicted) reports.0.cause
    ∙ ap (λ b. is_for_bytes left.cause || b) (reported_causes evicted gone reports.1)

reported_memory : (options : DumpOptions) (evicted : List (EvictedStream ℕ)) (gone : List (Gone ℕ))
    → AllZip (Reports nat_eq) evicted gone → KeepsMemoryOf options evicted → KeepsMemory options gone
reported_memory options evicted gone reports keeps none = sym (reported_causes evicted gone reports) ∙ keeps none

-- ---- calls

-- A new pool has the history of no packet.
pub holds_new : (options : DumpOptions) (pooling : Pooling) → limits_in pooling.pool ≡ limits_of options
    → pooling.swept ≡ 0 → names_in pooling.pool ≡ [] → statistics_in pooling.pool ≡ no_statistics
    → HoldsPooling (new_pool options) pooling
holds_new options pooling limits swept none statistics = record {
  limits = limits;
  swept = swept;
  rows = subst (λ (names : List (HeldName ℕ)). HoldsNames nat_eq (limits_in pooling.pool) names []) (sym none)
      (record { differ = λ name. omega arith; each = tt });
  statistics = statistics;
}

-- A pool that does a call has the history after it.
pub holds_step : (old new : Pooling) (before : PoolHistory) (call : BoundedCall ℕ) (number swept : ℕ)
    (granted : Option ℕ) → HoldsPooling before old
    → DoesStep nat_eq old.pool new.pool call number granted before.rows → new.swept ≡ swept
    → HoldsPooling (with_step (record before { swept = swept }) call (step_of before call number granted)) new
holds_step old new before call number swept granted kept does same = record {
  limits = does.limits ∙ kept.limits;
  swept = same;
  rows = subst
      (λ (l : DefragLimits). HoldsRows nat_eq new.pool (call_step l nat_eq before.rows call number granted).rows)
      kept.limits does.holds;
  statistics = does.statistics
      ∙ (λ i. statistics_with (kept.statistics i) call
      (call_step (kept.limits i) nat_eq before.rows call number granted));
}

-- It reports the streams that left the table.
reports_step : (old new : Pooling) (before : PoolHistory) (call : BoundedCall ℕ) (number : ℕ) (granted : Option ℕ)
    → HoldsPooling before old → DoesStep nat_eq old.pool new.pool call number granted before.rows
    → AllZip (Reports nat_eq) (evicted_in new.pool) (step_of before call number granted).gone
reports_step old new before call number granted kept does =
    subst
    (λ (l : DefragLimits).
    AllZip (Reports nat_eq) (evicted_in new.pool) (call_step l nat_eq before.rows call number granted).gone)
    kept.limits does.evicted

-- ---- expiry

-- In a later second, old streams expire and their lines are appended.
pub expires : (options : DumpOptions) (packet : Decoded) (old new : Pooling) (items last : List ℕ)
    → nat_lt old.swept (second_of (packet_of packet)) ≡ true → new.swept ≡ second_of (packet_of packet)
    → ((rows : List (Row ℕ)) (number : ℕ) → HoldsRows nat_eq old.pool rows
    → DoesStep nat_eq old.pool new.pool (expiry options packet.captured.latest) number None rows)
    → last ≡ items ++ evicted_lines options (moment_of options (packet_of packet)) (evicted_in new.pool)
    → (before : PoolHistory) → HoldsPooling before old
    → HoldsPooling (swept_at options before (packet_of packet)) new
    × (last ≡ items ++ expired_text options before (packet_of packet))
expires options packet old new items last later swept does lines before kept =
    let one = packet_of packet in
    let call = expiry options one.latest in
    let done = does before.rows one.number kept.rows in
    let reports = reports_step old new before call one.number None kept done in
    let is_later = rw kept.swept at later in
    rw is_later (
      holds_step old new before call one.number (second_of one) None kept done swept,
      lines ∙ ap (λ (t : List ℕ). items ++ t)
          (reported_lines options (moment_of options one) (evicted_in new.pool)
          (step_of before call one.number None).gone reports),
    )

-- In the same second nothing changes.
pub expires_none : (options : DumpOptions) (packet : Decoded) (old : Pooling) (items : List ℕ)
    → nat_lt old.swept (second_of (packet_of packet)) ≡ false → (before : PoolHistory) → HoldsPooling before old
    → HoldsPooling (swept_at options before (packet_of packet)) old
    × (items ≡ items ++ expired_text options before (packet_of packet))
expires_none options packet old items same before kept =
    let not_later = rw kept.swept at same in rw not_later (kept, sym (append-nil items))

-- ---- fragments

-- Effect of a fragment on the pool, for which the allocator granted this memory.
record Taken (old new : Pooling) (before : PoolHistory) (given : IpFragId ℕ × IpFragment) (now number space : ℕ)
    (answer : Result (Option IpDefragPayloadVec) BoundedDefragError) : Type 0 where
  is : plain_bounded answer ≡ (step_of before (fragment_call given now) number (Some space)).answer
  reports : AllZip (Reports nat_eq) (evicted_in new.pool)
      (step_of before (fragment_call given now) number (Some space)).gone
  holds : HoldsPooling
      (with_step before (fragment_call given now) (step_of before (fragment_call given now) number (Some space))) new

taken_by : (old new : Pooling) (before : PoolHistory) (given : IpFragId ℕ × IpFragment) (now number : ℕ)
    (answer : Result (Option IpDefragPayloadVec) BoundedDefragError) (granted : Option ℕ) → HoldsPooling before old
    → new.swept ≡ old.swept
    → DoesStep nat_eq old.pool new.pool (fragment_call given now) number granted before.rows
    → plain_bounded answer
    ≡ (call_step before.limits nat_eq before.rows (fragment_call given now) number granted).answer
    → is_some granted ≡ true → (space : ℕ) × Taken old new before given now number space answer
taken_by old new before given now number answer None kept same does is some = absurd (false≢true some)
taken_by old new before given now number answer (Some space) kept same does is some = (
  space,
  record {
    is = is;
    reports = reports_step old new before (fragment_call given now) number (Some space) kept does;
    holds = holds_step old new before (fragment_call given now) number before.swept (Some space) kept does
        (same ∙ kept.swept);
  },
)

-- A fragment for which no allocation failed is taken as a step.
taken : (old new : Pooling) (before : PoolHistory) (given : IpFragId ℕ × IpFragment) (now number : ℕ)
    (answer : Result (Option IpDefragPayloadVec) BoundedDefragError) → HoldsPooling before old
    → new.swept ≡ old.swept → TakesBounded nat_eq old.pool new.pool given.0 given.1 now answer
    → IsFalse (is_starved answer) → (space : ℕ) × Taken old new before given now number space answer
taken old new before given now number answer kept same takes enough =
    let step = takes.step before.rows number kept.rows in
    taken_by old new before given now number answer step.0 kept same step.1
    (subst
    (λ (l : DefragLimits). plain_bounded answer
    ≡ (call_step l nat_eq before.rows (fragment_call given now) number step.0).answer) kept.limits step.2)
    (step.3 ∙ ap not enough)

joined : (a b c d : List ℕ) → ((a ++ b) ++ c) ++ d ≡ a ++ (b ++ c ++ d)
joined a b c d = simp append_assoc

-- A fragment was passed to the pool, and the lines of what the pool did were appended.
pub processes_fragment : (options : DumpOptions) (packet : Decoded) (old between new : Pooling) (name : IpFragId ℕ)
    (fragment : IpFragment) (answer : Result (Option IpDefragPayloadVec) BoundedDefragError)
    (items evictions answered last : List ℕ)
    → ◌≡◌ {A = Option (IpFragId ℕ × IpFragment)} (Some (name, fragment)) (fragment_in_frame (layers_of packet))
    → TakesBounded nat_eq old.pool between.pool name fragment packet.captured.latest answer
    → IsFalse (is_starved answer) → between.swept ≡ old.swept → KeepsMemoryOf options (evicted_in between.pool)
    → evictions ≡ items ++ evicted_lines options (moment_of options (packet_of packet)) (evicted_in between.pool)
    → ((text : List ℕ)
    × IsAnswerText options (start_of options packet) (layers_of packet) (filtered_in packet) (plain_bounded answer)
    text
    × (answered ≡ evictions ++ text))
    → ((history : PoolHistory) → HoldsPooling history between
    → HoldsPooling (with_eviction options history packet.captured.number) new)
    → last ≡ answered ++ cleared_text options (moment_of options (packet_of packet)) name (plain_bounded answer)
    → (before : PoolHistory) → HoldsPooling before old → ProcessesFrame options packet before new items last
processes_fragment options packet old between new name fragment answer items evictions answered last given takes enough
    same keeps evicts appended ends cleared before kept =
    let one = packet_of packet in
    let layers = layers_of packet in
    let moment = moment_of options one in
    let call = fragment_call (name, fragment) one.latest in
    let done = taken old between before (name, fragment) one.latest one.number answer kept same takes enough in
    let step = step_of before call one.number (Some done.0) in
    let after = with_eviction options (with_step before call step) one.number in
    let gone = gone_lines options moment step.gone in
    let text = appended.0 in
    let rest = cleared_text options moment name step.answer in
    let all : last ≡ items ++ (gone ++ text ++ rest) =
    cleared
    ∙ ap (λ (a : BoundedAnswer). answered ++ cleared_text options moment name a) done.1.is
    ∙ ap (λ (t : List ℕ). t ++ rest) (appended.2 ∙ ap (λ (t : List ℕ). t ++ text) (evicts
    ∙ ap (λ (t : List ℕ). items ++ t)
    (reported_lines options moment (evicted_in between.pool) step.gone done.1.reports)))
    ∙ joined items gone text rest in (
      gone ++ text ++ rest,
      after,
      subst (λ (f : Option (IpFragId ℕ × IpFragment)). PassesIfFragment options before one layers f
          (gone ++ text ++ rest) after) given (
            done.0,
            (
              text,
              subst
                  (λ (a : BoundedAnswer). IsAnswerText options (start_of options packet) layers (filtered_in packet) a text)
                  done.1.is appended.1,
              reported_memory options (evicted_in between.pool) step.gone done.1.reports keeps,
              refl,
              refl,
            ),
          ),
      ends (with_step before call step) done.1.holds,
      all,
    )

-- A packet without a fragment changes nothing.
pub processes_none : (options : DumpOptions) (packet : Decoded) (old : Pooling) (items : List ℕ)
    → None ≡ fragment_in_frame (layers_of packet) → (before : PoolHistory) → HoldsPooling before old
    → ProcessesFrame options packet before old items items
processes_none options packet old items none before kept = (
  [],
  before,
  subst (λ (f : Option (IpFragId ℕ × IpFragment)). PassesIfFragment options before (packet_of packet)
      (layers_of packet) f [] before) none (refl, refl),
  kept,
  sym (append-nil items),
)

-- ---- tests of a number

pub is_zero : (n : ℕ) → n ≡ 0 → nat_eq n 0 ≡ true
is_zero n is = (unsigned_Decides n 0).1 is

fails : (b : Bool) → (b ≡ true → ⊥) → b ≡ false
fails true never = absurd (never refl)
fails false never = refl

pub not_zero : (n : ℕ) → n ≢ 0 → nat_eq n 0 ≡ false
not_zero n other = fails (nat_eq n 0) (λ same. other ((unsigned_Decides n 0).0 same))

-- ---- open streams

same_state : (limits : DefragLimits) (buffer : Option IpDefragBuf) (accepted : Option (List IpFragment))
    → HoldsState limits buffer accepted → is_some buffer ≡ is_some accepted
same_state limits None None state = refl
same_state limits None (Some accepted) state = absurd state
same_state limits (Some buffer) None state = absurd state
same_state limits (Some buffer) (Some accepted) state = refl

-- The pool has as many open streams as its table.
pub open_rows : (limits : DefragLimits) (names : List (HeldName ℕ)) (rows : List (Row ℕ))
    → AllZip (HoldsRow limits) names rows → open_names names ≡ count_by is_open rows
open_rows limits [] [] each = refl
open_rows limits [] (row ∷ rows) each = absurd each
open_rows limits (name ∷ names) [] each = absurd each
open_rows limits (name ∷ names) (row ∷ rows) each =
    sum_by-cons (λ (n : HeldName ℕ). cond (is_some n.1.buffer) 1 0) name names
    ∙ ap (λ (b : Bool). cond b 1 0 + open_names names) (same_state limits name.1.buffer row.accepted each.0.state)
    ∙ ap (λ (n : ℕ). cond (is_open row) 1 0 + n) (open_rows limits names rows each.1)
    ∙ sym (sum_by-cons (λ (r : Row ℕ). cond (is_open r) 1 0) row rows)
