-- The effect of a fragment on a pool, in each case of its processing.
use Rattle.std.proofs.Common.{◌≡◌, ℕ, Bool, true, false, cond, [], ◌∷◌, Option, Some, None, Result, Ok, Err, sym, refl}
use Rattle.std.proofs.Common.{ap, ◌∙◌, subst, arith, ◌⊎◌}
use Rattle.std.specs.Option.{option_map}
use Rattle.std.specs.Cmp.{IsEquivalence}
use Rattle.std.proofs.lemmas.Bool.{false≢true}
use Rattle.ep_defrag.specs.declared.ip_defrag_error.IpDefragError.{IpDefragError}
use Rattle.ep_defrag.specs.declared.ip_defrag_error.IpDefragError.TheVariants.{AllocationFailure}
use Rattle.ep_defrag.specs.declared.ip_defrag_buf.IpDefragBuf.{IpDefragBuf}
use Rattle.ep_defrag.specs.declared.ip_defrag_payload_vec.IpDefragPayloadVec.{IpDefragPayloadVec}
use Rattle.ep_defrag.specs.declared.ip_frag_id.IpFragId.{IpFragId}
use Rattle.ep_defrag.specs.declared.ip_defrag_pool.IpDefragPool.{IpDefragPool}
use Rattle.ep_defrag.specs.IpFragments.{IpFragment, fragment_end}
use Rattle.ep_defrag.specs.FragmentRefusals.{RefusesWithin, MayNeedMemoryWithin}
use Rattle.ep_defrag.specs.Buffers.{HoldsFragments, ip_number_of, data_of, sections_of, known_end_of, data_after}
use Rattle.ep_defrag.specs.Buffers.{end_after}
use Rattle.ep_defrag.specs.Streams.{PacketFragment, same_stream, source_of}
use Rattle.ep_defrag.specs.Calls.{Kept, Payload, accepted_in, kept_with, payload_returned, answer_to_frame}
use Rattle.ep_defrag.specs.Calls.{table_with_fragment, table_with_frame, FrameMayNeedMemory}
use Rattle.ep_defrag.specs.Pools.{Stream, limit_of, stream_named, HoldsEntry, HoldsTable, TakesFragment, TakesFrame}
use Rattle.ep_defrag.specs.Pools.{ChangesStream, BufferTakes, BufferRefuses, IsWhetherComplete, plain_payload, plain_frame_answer}
use Rattle.ep_defrag.specs.Pools.{payload_in, is_allocation_failure_in}
use Rattle.ep_defrag.proofs.StreamLemmas.{same_stream_laws}
use Rattle.ep_defrag.proofs.PoolTableLemmas.{HoldsTable-same, HoldsTable-changed, none_kept, entry_at}
use Rattle.ep_defrag.proofs.OneFragmentLemmas.{refused_only, wanting_only, kept_refused, kept_complete, kept_more}
use Rattle.ep_defrag.proofs.OneFragmentLemmas.{answer_refused, answer_complete, answer_nothing, holds_in, entry_keeps}
use Rattle.ep_defrag.proofs.OneFragmentLemmas.{entry_more, entry_complete, entry_refused, answered_nothing}
use Rattle.ep_defrag.proofs.OneFragmentLemmas.{answered_payload, answered_refused}

-- A property of a table's entry, by cases of the test of its identifier.
chosen : {T : Type 0} (alike : Bool) (kept next : Option (Kept T)) (P : Option (Kept T) → Type 0)
    → (alike ≡ true → P next) → (alike ≡ false → P kept) → P (cond alike next kept)
chosen true kept next P if_true if_false = if_true refl
chosen false kept next P if_true if_false = if_false refl

-- An answer returns a payload if its plain data does.
pub if_payload : (answer : Option IpDefragPayloadVec) (payload : Payload)
    (P : Option IpDefragPayloadVec → Type 0) → option_map plain_payload answer ≡ Some payload
    → ((given : IpDefragPayloadVec) → plain_payload given ≡ payload → P (Some given)) → P answer
if_payload None payload P shows then = absurd (cc)
if_payload (Some given) payload P shows then =
    let some : Some (plain_payload given) ≡ Some payload = shows in
    let is : plain_payload given ≡ payload = cc in
    then given is

module _ {T C : Type 0} (eq : C → C → Bool) (laws : IsEquivalence eq) (old new : IpDefragPool T C) (id : IpFragId C)
    (fragment : IpFragment) (timestamp : T) where
  abbrev limit : ℕ
  limit = limit_of old

  abbrev names : IsEquivalence (same_stream eq)
  names = same_stream_laws eq laws

  -- ---- a stream that has begun
  module _ (stream next : Stream T C) (is_some : stream_named eq id old ≡ Some stream)
      (same_id : next.id ≡ stream.id) where
    entry_of : (table : IpFragId C → Option (Kept T)) → HoldsTable eq old table → (name : IpFragId C)
        → same_stream eq id name ≡ true → HoldsEntry limit (Some stream) (table name)
    entry_of table holds name alike = entry_at eq laws old table holds id stream is_some name alike

    -- The fragment is rejected, or an allocation for it fails.
    pub goes_on_refused : ChangesStream eq old new id (Some next) → next.timestamp ≡ stream.timestamp
        → (error : IpDefragError) → BufferRefuses limit stream.buffer next.buffer fragment error
        → TakesFragment eq old new id fragment timestamp (Err error)
    goes_on_refused now same_time error refused =
        let number = refused.same.ip_number in
        record {
          answer = λ other table holds.
              answered_refused limit stream next id fragment (table id) error (entry_of table holds id (names.refl id))
              (λ accepted holds. refused_only limit accepted fragment error other (refused.why accepted holds));
          holds = λ other table holds.
              HoldsTable-changed eq laws old new table (table_with_fragment limit eq table id fragment timestamp) id
              (Some next) now holds (λ name apart. rw apart refl)
              (λ name alike. rw alike
              (entry_refused limit stream next fragment timestamp (table name) error (entry_of table holds name alike)
              (λ accepted holds. refused_only limit accepted fragment error other (refused.why accepted holds))
              refused.keeps number same_id same_time));
          memory = λ wants table holds.
              let why = wanting_only limit (accepted_in (table id)) fragment error wants
              (refused.why (accepted_in (table id))
              (holds_in limit stream next (table id) (entry_of table holds id (names.refl id)))) in
              (why.0, ap Err why.1);
          keeps = λ wants table holds.
              HoldsTable-changed eq laws old new table table id (Some next) now holds (λ name apart. refl)
              (λ name alike.
              entry_keeps limit stream next (table name) (entry_of table holds name alike) refused.keeps number same_id
              same_time);
          lacks_capacity = λ wants found is_found.
              let same : Some stream ≡ Some found = sym is_some ∙ is_found in
              let is : stream ≡ found = cc in
              rw (← is) (refused.lacks_capacity wants);
          limit = now.limit;
          entry = λ differ. rw (is_some, now.here) (same_id, refused.same, same_time);
          others = now.others;
        }

    -- The fragment is accepted, and more are missing.
    pub goes_on_more : ChangesStream eq old new id (Some next) → next.timestamp ≡ timestamp
        → BufferTakes limit stream.buffer next.buffer fragment → IsWhetherComplete next.buffer false
        → TakesFragment eq old new id fragment timestamp (Ok None)
    goes_on_more now time taken partly = record {
      answer = λ other table holds.
          answered_nothing limit stream next id fragment (table id) (entry_of table holds id (names.refl id)) taken
          partly;
      holds = λ other table holds.
          HoldsTable-changed eq laws old new table (table_with_fragment limit eq table id fragment timestamp) id
          (Some next) now holds (λ name apart. rw apart refl)
          (λ name alike. rw alike
          (entry_more limit stream next fragment timestamp (table name) (entry_of table holds name alike) taken partly
          same_id time));
      memory = λ wants. absurd (false≢true wants);
      keeps = λ wants. absurd (false≢true wants);
      lacks_capacity = λ wants. absurd (false≢true wants);
      limit = now.limit;
      entry = λ differ.
          rw (is_some, now.here)
          (record { contents = taken.contents; sections = taken.sections; end = taken.end; timestamp = time });
      others = now.others;
    }

    -- The fragment is accepted, and nothing is missing.
    pub goes_on_complete : ChangesStream eq old new id None → BufferTakes limit stream.buffer next.buffer fragment
        → IsWhetherComplete next.buffer true → (answer : Option IpDefragPayloadVec)
        → option_map plain_payload answer ≡ Some (payload_in id next)
        → TakesFragment eq old new id fragment timestamp (Ok answer)
    goes_on_complete now taken complete answer shows =
        if_payload answer (payload_in id next) (λ given. TakesFragment eq old new id fragment timestamp (Ok given))
        shows
        (λ payload is_payload. record {
          answer = λ other table holds.
              ap payload_returned is_payload
              ∙ answered_payload limit stream next id fragment (table id)
              (entry_of table holds id (names.refl id)) taken
              complete;
          holds = λ other table holds.
              HoldsTable-changed eq laws old new table (table_with_fragment limit eq table id fragment timestamp) id
              None now holds (λ name apart. rw apart refl)
              (λ name alike. rw (
                alike,
                entry_complete limit stream next fragment timestamp (table name) (entry_of table holds name alike) taken
                    complete,
              ) tt);
          memory = λ wants. absurd (false≢true wants);
          keeps = λ wants. absurd (false≢true wants);
          lacks_capacity = λ wants. absurd (false≢true wants);
          limit = now.limit;
          entry = λ differ. rw is_some (now.here, ap (λ p. p.bytes) is_payload ∙ taken.contents);
          others = now.others;
        })

  -- ---- a stream that has not begun
  module _ (absent : stream_named eq id old ≡ None) (empty : IpDefragBuf) (holds_none : HoldsFragments empty []) where
    none_of : (table : IpFragId C → Option (Kept T)) → HoldsTable eq old table → (name : IpFragId C)
        → same_stream eq id name ≡ true → table name ≡ None
    none_of table holds = none_kept eq laws old table holds id absent

    -- An unchanged pool holds each table that is equal to its old one.
    stays : new ≡ old → (table next : IpFragId C → Option (Kept T)) → HoldsTable eq old table
        → ((name : IpFragId C) → next name ≡ table name) → HoldsTable eq new next
    stays now table next holds same =
        HoldsTable-same eq new table next (λ name. sym (same name))
        (subst (λ pool. HoldsTable eq pool table) (sym now) holds)

    -- The fragment is rejected, or an allocation for it fails.
    pub begins_refused : new ≡ old → (error : IpDefragError)
        → RefusesWithin limit [] fragment error
        ⊎ (MayNeedMemoryWithin limit [] fragment × (error ≡ AllocationFailure (fragment_end fragment)))
        → TakesFragment eq old new id fragment timestamp (Err error)
    begins_refused now error why = record {
      answer = λ other table holds.
          rw (none_of table holds id (names.refl id))
          (answer_refused {T = T} limit id None fragment error (refused_only limit [] fragment error other why));
      holds = λ other table holds.
          stays now table _ holds
          (λ name. chosen (same_stream eq id name) (table name) (kept_with limit (table name) fragment timestamp)
          (λ next. next ≡ table name)
          (λ alike. rw (none_of table holds name alike)
          (kept_refused limit None fragment timestamp error (refused_only limit [] fragment error other why)))
          (λ apart. refl));
      memory = λ wants table holds.
          let wanting = wanting_only limit [] fragment error wants why in
          rw (none_of table holds id (names.refl id)) (wanting.0, ap Err wanting.1);
      keeps = λ wants table holds. stays now table table holds (λ name. refl);
      lacks_capacity = λ wants found is_found. let never : None ≡ Some found = sym absent ∙ is_found in absurd (cc);
      limit = ap limit_of now;
      entry = λ differ. rw (now, absent) tt;
      others = λ name apart. ap (stream_named eq name) now;
    }

    -- The fragment is the complete payload.
    pub begins_complete : new ≡ old → (buffer : IpDefragBuf) (payload : IpDefragPayloadVec)
        → plain_payload payload ≡ payload_in id (record { id = id; buffer = buffer; timestamp = timestamp })
        → data_of empty ≡ [] → BufferTakes limit empty buffer fragment → IsWhetherComplete buffer true
        → TakesFragment eq old new id fragment timestamp (Ok (Some payload))
    begins_complete now buffer payload is_payload no_data taken complete =
        let fits = taken.fits [] holds_none in
        let holds_one = taken.holds [] holds_none in
        record {
          answer = λ other table holds.
              rw (none_of table holds id (names.refl id))
              (ap payload_returned (is_payload ∙ ap (λ bytes. record {
                ip_number = id.payload_ip_number;
                len_source = source_of id.ip;
                bytes = bytes;
              }) holds_one.contents)
              ∙ answer_complete {T = T} limit id None fragment fits (complete (fragment ∷ []) holds_one));
          holds = λ other table holds.
              stays now table _ holds
              (λ name. chosen (same_stream eq id name) (table name) (kept_with limit (table name) fragment timestamp)
              (λ next. next ≡ table name)
              (λ alike. rw (none_of table holds name alike)
              (kept_complete limit None fragment timestamp fits (complete (fragment ∷ []) holds_one)))
              (λ apart. refl));
          memory = λ wants. absurd (false≢true wants);
          keeps = λ wants. absurd (false≢true wants);
          lacks_capacity = λ wants. absurd (false≢true wants);
          limit = ap limit_of now;
          entry = λ differ.
              rw (now, absent) (
                refl,
                ap (λ p. p.bytes) is_payload ∙ taken.contents ∙ ap (λ bytes. data_after bytes fragment) no_data,
              );
          others = λ name apart. ap (stream_named eq name) now;
        }

    -- The stream begins.
    pub begins : (stream : Stream T C) → ChangesStream eq old new id (Some stream) → stream.id ≡ id
        → stream.timestamp ≡ timestamp → ip_number_of empty ≡ id.payload_ip_number → data_of empty ≡ []
        → sections_of empty ≡ [] → known_end_of empty ≡ None → BufferTakes limit empty stream.buffer fragment
        → IsWhetherComplete stream.buffer false → TakesFragment eq old new id fragment timestamp (Ok None)
    begins stream now named time number no_data no_sections no_end taken partly =
        let fits = taken.fits [] holds_none in
        let holds_one = taken.holds [] holds_none in
        record {
          answer = λ other table holds.
              rw (none_of table holds id (names.refl id))
              (answer_nothing {T = T} limit id None fragment fits (partly (fragment ∷ []) holds_one));
          holds = λ other table holds.
              HoldsTable-changed eq laws old new table (table_with_fragment limit eq table id fragment timestamp) id
              (Some stream) now holds (λ name apart. rw apart refl)
              (λ name alike. rw (
                alike,
                none_of table holds name alike,
                kept_more {T = T} limit None fragment timestamp fits (partly (fragment ∷ []) holds_one),
              )
              (record {
                buffer = holds_one;
                within = (fits, tt);
                ip_number = taken.ip_number ∙ number ∙ ap (λ (i : IpFragId C). i.payload_ip_number) (sym named);
                timestamp = time;
                some = omega arith;
              }));
          memory = λ wants. absurd (false≢true wants);
          keeps = λ wants. absurd (false≢true wants);
          lacks_capacity = λ wants. absurd (false≢true wants);
          limit = now.limit;
          entry = λ differ.
              rw (absent, now.here)
              (record {
                contents = taken.contents ∙ ap (λ bytes. data_after bytes fragment) no_data;
                sections = rw no_sections at taken.sections;
                end = taken.end ∙ ap (λ end. end_after end fragment) no_end;
                timestamp = time;
              });
          others = now.others;
        }

-- ---- a frame
module _ {T C : Type 0} (eq : C → C → Bool) (old new : IpDefragPool T C) (timestamp : T) (channel : C)
    (result : Result (Option IpDefragPayloadVec) IpDefragError) where
  pub frame_answer : (packet : Option PacketFragment) → TakesFrame eq old new packet timestamp channel result
      → is_allocation_failure_in result ≡ false → (table : IpFragId C → Option (Kept T)) → HoldsTable eq old table
      → plain_frame_answer result ≡ answer_to_frame (limit_of old) table packet channel
  frame_answer None takes other table holds = ap plain_frame_answer takes.0
  frame_answer (Some carried) takes other table holds = takes.answer other table holds

  pub frame_holds : (packet : Option PacketFragment) → TakesFrame eq old new packet timestamp channel result
      → is_allocation_failure_in result ≡ false → (table : IpFragId C → Option (Kept T)) → HoldsTable eq old table
      → HoldsTable eq new (table_with_frame (limit_of old) eq table packet timestamp channel)
  frame_holds None takes other table holds = subst (λ pool. HoldsTable eq pool table) (sym takes.1) holds
  frame_holds (Some carried) takes other table holds = takes.holds other table holds

  pub frame_memory : (packet : Option PacketFragment) → TakesFrame eq old new packet timestamp channel result
      → is_allocation_failure_in result ≡ true → (table : IpFragId C → Option (Kept T)) → HoldsTable eq old table
      → FrameMayNeedMemory (limit_of old) table packet channel
  frame_memory None takes wants table holds =
      false≢true (sym (ap {B = Bool} is_allocation_failure_in takes.0) ∙ wants)
  frame_memory (Some carried) takes wants table holds = (takes.memory wants table holds).0

  pub frame_limit : (packet : Option PacketFragment) → TakesFrame eq old new packet timestamp channel result
      → limit_of new ≡ limit_of old
  frame_limit None takes = ap limit_of takes.1
  frame_limit (Some carried) takes = takes.limit
