-- The table that a pool holds, after one stream changed, ended or began, and after a drop.
use Rattle.std.proofs.Common.{◌≡◌, ℕ, ◌≤◌, Bool, true, false, List, [], ◌∷◌, map, Bor, Option, Some, None, is_some}
use Rattle.std.proofs.Common.{cond, if◌then◌else◌, sym, refl, ap, ◌∙◌, subst, arith, inl, inr}
use Rattle.std.specs.List.{filter, find, count_by, items_where_true}
use Rattle.std.specs.Cmp.{IsEquivalence}
use Rattle.std.specs.Fn.{Shared, FnReturnsAt}
use Rattle.std.specs.Map.Calls.{RetainsPairs}
use Rattle.std.proofs.lemmas.Bool.{cases_Bool}
use Rattle.std.proofs.lemmas.List.Sums.{sum_by-cons}
use Rattle.ep_defrag.specs.declared.ip_frag_id.IpFragId.{IpFragId}
use Rattle.ep_defrag.specs.declared.ip_defrag_pool.OpenStream.{OpenStream}
use Rattle.ep_defrag.specs.declared.ip_defrag_pool.IpDefragPool.{IpDefragPool}
use Rattle.ep_defrag.specs.Streams.{same_stream}
use Rattle.ep_defrag.specs.Calls.{Kept, kept_by}
use Rattle.ep_defrag.specs.Pools.{Stream, stream_at, limit_of, streams_of, stream_named, HoldsEntry, HoldsTable}
use Rattle.ep_defrag.specs.Pools.{ChangesStream, AnswersEach, LeavesAnswered, HoldsAnswered, IsAnsweredBy}
use Rattle.ep_defrag.proofs.LookupLemmas.{counted, find_none, count_filter, stays_if, find_filter}
use Rattle.ep_defrag.proofs.EntryLemmas.{same_name}

abbrev Table : Type 0 → Type 0 → Type 0
Table T C = IpFragId C → Option (Kept T)

-- A pool that holds a table holds each table with equal entries.
pub HoldsTable-same : {T C : Type 0} (eq : C → C → Bool) (pool : IpDefragPool T C) (a b : Table T C)
    → ((name : IpFragId C) → a name ≡ b name) → HoldsTable eq pool a → HoldsTable eq pool b
HoldsTable-same eq pool a b same holds = record {
  apart = holds.apart;
  each = λ name.
      subst (λ kept. HoldsEntry (limit_of pool) (stream_named eq name pool) kept) (same name) (holds.each name);
}

no_entry : {T : Type 0} (C : Type 0) (limit : ℕ) (kept : Option (Kept T))
    → HoldsEntry {T = T} {C = C} limit None kept → kept ≡ None
no_entry C limit None entry = refl
no_entry C limit (Some kept) entry = absurd entry

module _ {T C : Type 0} (eq : C → C → Bool) (laws : IsEquivalence eq) where
  -- After one stream changed, began or ended, the pool holds each table whose entry for it matches its new state and
  -- whose other entries are unchanged.
  pub HoldsTable-changed : (old new : IpDefragPool T C) (table next : Table T C) (id : IpFragId C)
      (stream : Option (Stream T C)) → ChangesStream eq old new id stream → HoldsTable eq old table
      → ((name : IpFragId C) → same_stream eq id name ≡ false → next name ≡ table name)
      → ((name : IpFragId C) → same_stream eq id name ≡ true → HoldsEntry (limit_of old) stream (next name))
      → HoldsTable eq new next
  HoldsTable-changed old new table next id stream changed holds others own = record {
    apart = changed.apart;
    each = λ name. elim (cases_Bool (same_stream eq id name)) [
      | inl alike ↦ rw (changed.limit, same_name eq laws new id name alike, changed.here) (own name alike)
      | inr other ↦ rw (changed.limit, changed.others name other, others name other) (holds.each name)
    ];
  }

  -- After one stream ended, the pool holds the table without its entry.
  pub HoldsTable-removed : (old new : IpDefragPool T C) (id : IpFragId C) → ChangesStream eq old new id None
      → (table : Table T C) → HoldsTable eq old table
      → HoldsTable eq new (λ name. if same_stream eq id name then None else table name)
  HoldsTable-removed old new id changed table holds =
      HoldsTable-changed old new table _ id None changed holds (λ name other. rw other refl) (λ name alike. rw alike tt)

  module _ (pool : IpDefragPool T C) (table : Table T C) (holds : HoldsTable eq pool table) (id : IpFragId C) where
    -- A stream that is not open has no entry.
    pub none_kept : stream_named eq id pool ≡ None
        → (name : IpFragId C) → same_stream eq id name ≡ true → table name ≡ None
    none_kept absent name alike =
        no_entry C (limit_of pool) (table name) (rw (same_name eq laws pool id name alike, absent) at (holds.each name))

    -- The stream of an identifier matches the entry of each equal identifier.
    pub entry_at : (stream : Stream T C) → stream_named eq id pool ≡ Some stream
        → (name : IpFragId C) → same_stream eq id name ≡ true → HoldsEntry (limit_of pool) (Some stream) (table name)
    entry_at stream found name alike = rw (same_name eq laws pool id name alike, found) at (holds.each name)

-- ---- a drop
entry_by : {T C : Type 0} (limit : ℕ) (answers : T → Bool) (stream : Option (Stream T C)) (kept : Option (Kept T))
    → HoldsEntry limit stream kept
    → HoldsEntry limit (stays_if (λ (s : Stream T C). true) (λ s. answers s.timestamp) stream) (kept_by answers kept)
unfolding stays_if
entry_by limit answers None None entry = tt
entry_by limit answers None (Some kept) entry = absurd entry
entry_by limit answers (Some stream) None entry = absurd entry
entry_by limit answers (Some stream) (Some kept) entry = elim (cases_Bool (answers stream.timestamp)) [
  | inl stays ↦ rw (stays, ap answers (sym entry.timestamp) ∙ stays) entry
  | inr goes ↦ rw (goes, ap answers (sym entry.timestamp) ∙ goes) tt
]

HoldsTable-filter : {T C : Type 0} (eq : C → C → Bool) (old new : IpDefragPool T C) (table : Table T C)
    (answers : T → Bool) → HoldsTable eq old table → limit_of new ≡ limit_of old
    → streams_of new ≡ filter (λ s. answers s.timestamp) (streams_of old)
    → HoldsTable eq new (λ name. kept_by answers (table name))
unfolding stays_if
HoldsTable-filter eq old new table answers holds same now =
    let xs = streams_of old in
    record {
      apart = λ name. rw now
          (omega (
            arith,
            holds.apart name,
            count_filter (λ s. same_stream eq s.id name) (λ s. answers s.timestamp) xs,
          ));
      each = λ name.
          rw (same, now, find_filter (λ s. same_stream eq s.id name) (λ s. answers s.timestamp) xs (holds.apart name))
          (entry_by (limit_of old) answers (stream_named eq name old) (table name) (holds.each name));
    }

-- The answers of a drop, if the map's test of each entry is the answer of `keep` to its timestamp.
module _ {F T C : Type 0} (calls : Shared F (Bor T × Unit {0}) Bool) (keep : F) {P : Type 0}
    (step : P → IpFragId C → OpenStream T → Bool → OpenStream T → P → Type 0) (Keeps : P → Type 0)
    (asks : (test : P) (key : IpFragId C) (value : OpenStream T) (answer : Bool) (left : OpenStream T) (next : P)
    → Keeps test → step test key value answer left next
    → FnReturnsAt calls keep value.timestamp answer × (answer ≡ true → left ≡ value) × Keeps next) where
  stays_or_goes : (entry : IpFragId C × OpenStream T) (answer : Bool) (left : OpenStream T)
      → (answer ≡ true → left ≡ entry.1) → (rest : List (IpFragId C × OpenStream T)) (answers : List Bool)
      (old : List (IpFragId C × OpenStream T))
      → map stream_at rest ≡ items_where_true answers (map stream_at old)
      → map stream_at (cond answer ((entry.0, left) ∷ rest) rest)
      ≡ items_where_true (answer ∷ answers) (map stream_at (entry ∷ old))
  stays_or_goes entry true left same rest answers old later = λ i. stream_at (entry.0, same refl i) ∷ later i
  stays_or_goes entry false left same rest answers old later = later

  pub leaves_answered : (limit : ℕ) (test : P) (old new : List (IpFragId C × OpenStream T)) → Keeps test
      → RetainsPairs step test old new → LeavesAnswered {C = C} calls keep (limit, old) (limit, new)
  leaves_answered limit test [] new keeps retained = record {
    answers = [];
    each = tt;
    left = ap (map stream_at) retained;
    limit = refl;
  }
  leaves_answered limit test (entry ∷ old) new keeps retained =
      let asked = asks test entry.0 entry.1 retained.0 retained.1 retained.2 keeps retained.4 in
      let later = leaves_answered limit retained.2 old retained.3 asked.2 retained.5 in
      record {
        answers = retained.0 ∷ later.answers;
        each = (asked.0, later.each);
        left =
            ap (map stream_at) retained.6
            ∙ stays_or_goes entry retained.0 retained.1 asked.1 retained.3 later.answers old later.left;
        limit = refl;
      }

where_true : {X : Type 0} (answer : Bool) (x : X) (answers : List Bool) (xs : List X)
    → items_where_true (answer ∷ answers) (x ∷ xs)
    ≡ cond answer (x ∷ items_where_true answers xs) (items_where_true answers xs)
where_true true x answers xs = refl
where_true false x answers xs = refl

reported_at : {F T : Type 0} (calls : Shared F (Bor T × Unit {0}) Bool) (keep : F) (answers : T → Bool)
    → IsAnsweredBy calls keep answers → (timestamp : T) (answer : Bool) → FnReturnsAt calls keep timestamp answer
    → answer ≡ answers timestamp
reported_at calls keep answers reported timestamp answer returned =
    reported returned.shown answer returned.says.met ∙ ap answers returned.shows

-- A drop that answers by a function of the timestamp is a filter.
module _ {F T C : Type 0} (calls : Shared F (Bor T × Unit {0}) Bool) (keep : F) (answers : T → Bool)
    (reported : IsAnsweredBy calls keep answers) where
  answered_filter : (streams : List (Stream T C)) (given : List Bool) → AnswersEach calls keep streams given
      → items_where_true given streams ≡ filter (λ s. answers s.timestamp) streams
  answered_filter [] [] each = refl
  answered_filter [] (answer ∷ given) each = absurd each
  answered_filter (stream ∷ streams) [] each = absurd each
  answered_filter (stream ∷ streams) (answer ∷ given) each =
      where_true answer stream given streams
      ∙ (λ i. cond (reported_at calls keep answers reported stream.timestamp answer each.0 i)
      (stream ∷ answered_filter streams given each.1 i) (answered_filter streams given each.1 i))

  pub HoldsTable-answered : (eq : C → C → Bool) (old new : IpDefragPool T C) (table : Table T C)
      → HoldsTable eq old table → LeavesAnswered calls keep old new
      → HoldsTable eq new (λ name. kept_by answers (table name))
  HoldsTable-answered eq old new table holds left =
      HoldsTable-filter eq old new table answers holds left.limit
      (left.left ∙ answered_filter (streams_of old) left.answers left.each)

-- ---- a drop that need not decide by the timestamp
-- Holds if an answer of `keep` decides whether a found stream remains.
abbrev IsDecided : {F T C : Type 0} → Shared F (Bor T × Unit {0}) Bool → F → Option (Stream T C) → Option (Stream T C)
    → Type 0
IsDecided calls keep None new = new ≡ None
IsDecided calls keep (Some stream) new =
    (answer : Bool) × FnReturnsAt calls keep stream.timestamp answer × (new ≡ cond answer (Some stream) None)

module _ {F T C : Type 0} (calls : Shared F (Bor T × Unit {0}) Bool) (keep : F) where
  module _ (p : Stream T C → Bool) where
    count_answered : (streams : List (Stream T C)) (answers : List Bool) → AnswersEach calls keep streams answers
        → count_by p (items_where_true answers streams) ≤ count_by p streams
    count_answered [] [] each = omega arith
    count_answered [] (answer ∷ answers) each = absurd each
    count_answered (stream ∷ streams) [] each = absurd each
    count_answered (stream ∷ streams) (true ∷ answers) each = omega (
      arith,
      sum_by-cons (counted p) stream streams,
      sum_by-cons (counted p) stream (items_where_true answers streams),
      count_answered streams answers each.1,
    )
    count_answered (stream ∷ streams) (false ∷ answers) each =
        omega (arith, sum_by-cons (counted p) stream streams, count_answered streams answers each.1)

    found_answered : (streams : List (Stream T C)) (answers : List Bool) → AnswersEach calls keep streams answers
        → count_by p streams ≤ 1
        → IsDecided calls keep (find p streams) (find p (items_where_true answers streams))
    found_answered [] [] each one = refl
    found_answered [] (answer ∷ answers) each one = absurd each
    found_answered (stream ∷ streams) [] each one = absurd each
    found_answered (stream ∷ streams) (true ∷ answers) each one = elim (cases_Bool (p stream)) [
      | inl passes ↦ rw passes (true, each.0, refl)
      | inr fails ↦ rw fails
          (found_answered streams answers each.1 (omega (arith, sum_by-cons (counted p) stream streams, one)))
    ]
    found_answered (stream ∷ streams) (false ∷ answers) each one =
        let more = sum_by-cons (counted p) stream streams in
        elim (cases_Bool (p stream)) [
          | inl passes ↦ rw passes (
            false,
            each.0,
            find_none p (items_where_true answers streams)
                (omega (
                  arith,
                  count_answered streams answers each.1,
                  more,
                  ap {B = ℕ} (λ b. cond b 1 0) passes,
                  one,
                )),
          )
          | inr fails ↦ rw fails (found_answered streams answers each.1 (omega (arith, more, one)))
        ]

  is_some_answered : (answer : Bool) (stream : Stream T C) → is_some (cond answer (Some stream) None) ≡ answer
  is_some_answered true stream = refl
  is_some_answered false stream = refl

  decided_at : (limit : ℕ) (old new : Option (Stream T C)) → IsDecided calls keep old new → (kept : Kept T)
      → HoldsEntry limit old (Some kept) → FnReturnsAt calls keep kept.timestamp (is_some new)
  decided_at limit None new decided kept entry = absurd entry
  decided_at limit (Some stream) new decided kept entry =
      rw (ap is_some decided.2 ∙ is_some_answered decided.0 stream, ← entry.timestamp) decided.1

  entry_answered : (limit : ℕ) (answer : Bool) (stream : Stream T C) (kept : Option (Kept T))
      → HoldsEntry limit (Some stream) kept
      → HoldsEntry limit (cond answer (Some stream) None) (cond (is_some (cond answer (Some stream) None)) kept None)
  entry_answered limit true stream kept entry = entry
  entry_answered limit false stream kept entry = tt

  entry_decided : (limit : ℕ) (old new : Option (Stream T C)) → IsDecided calls keep old new → (kept : Option (Kept T))
      → HoldsEntry limit old kept → HoldsEntry limit new (cond (is_some new) kept None)
  entry_decided limit None new decided kept entry = rw decided tt
  entry_decided limit (Some stream) new decided kept entry =
      rw decided.2 (entry_answered limit decided.0 stream kept entry)

  -- The pool holds the entries of its remaining streams.
  pub holds_answered : (eq : C → C → Bool) (old new : IpDefragPool T C) (table : Table T C) → HoldsTable eq old table
      → LeavesAnswered calls keep old new → HoldsAnswered eq calls keep table new
  holds_answered eq old new table holds left =
      let named = λ (name : IpFragId C) (stream : Stream T C). same_stream eq stream.id name in
      let decided : (name : IpFragId C) → IsDecided calls keep (stream_named eq name old) (stream_named eq name new) =
      λ name. rw left.left (found_answered (named name) (streams_of old) left.answers left.each (holds.apart name)) in
      record {
        stays = λ name. is_some (stream_named eq name new);
        each = λ name kept is_kept.
            decided_at (limit_of old) (stream_named eq name old) (stream_named eq name new) (decided name) kept
            (rw is_kept at (holds.each name));
        holds = record {
          apart = λ name. rw left.left
              (omega (
                arith,
                holds.apart name,
                count_answered (named name) (streams_of old) left.answers left.each,
              ));
          each = λ name. rw left.limit
              (entry_decided (limit_of old) (stream_named eq name old) (stream_named eq name new) (decided name)
              (table name) (holds.each name));
        };
      }
