-- The streams of a map's entries, looked up by identifier, before and after a change of the map.
use Rattle.std.proofs.Common.{◌≡◌, ℕ, ◌+◌, Bool, true, false, cond, Bor, List, [], ◌∷◌, map, length, Option, Some, None}
use Rattle.std.proofs.Common.{refl, ap, sym, ◌∙◌, subst, arith, inl, inr}
use Rattle.std.specs.Cmp.{IsEquivalence}
use Rattle.std.specs.Option.{MatchOption}
use Rattle.std.specs.List.{find, count_by, sum_by, AllByRecursion, IsDistinct}
use Rattle.std.specs.List.Sorted.{IsPermutation}
use Rattle.std.specs.Map.{keys_of, values_of, lookup, set_value, remove_entry}
use Rattle.std.specs.Map.Iter.{deref}
use Rattle.std.proofs.lemmas.Bool.{cases_Bool}
use Rattle.std.proofs.lemmas.List.Sums.{sum_by-cons}
use Rattle.std.proofs.lemmas.List.Sorted.{IsPermutation-map}
use Rattle.std.proofs.lemmas.Map.Keys.{IsDistinct-head, IsDistinct-tail}
use Rattle.ep_defrag.specs.declared.ip_frag_id.IpFragId.{IpFragId}
use Rattle.ep_defrag.specs.declared.ip_defrag_pool.OpenStream.{OpenStream}
use Rattle.ep_defrag.specs.declared.ip_defrag_pool.IpDefragPool.{IpDefragPool}
use Rattle.ep_defrag.specs.Streams.{same_stream}
use Rattle.ep_defrag.specs.Buffers.{data_of}
use Rattle.ep_defrag.specs.Pools.{Stream, stream_at, streams_of, stream_named, NamesDiffer, ChangesStream}
use Rattle.ep_defrag.proofs.LookupLemmas.{counted, find_permuted}
use Rattle.ep_defrag.proofs.StreamLemmas.{same_stream_laws}

module _ {C : Type 0} (eq : C → C → Bool) (laws : IsEquivalence eq) where
  -- Comparison of identifiers is symmetric.
  test_flips : (id key : IpFragId C) (b : Bool) → same_stream eq id key ≡ b → same_stream eq key id ≡ b
  test_flips id key b is = (same_stream_laws eq laws).symm key id ∙ is

  -- Equal identifiers compare alike with any other.
  test_of : (id key name : IpFragId C) → same_stream eq id key ≡ true
      → same_stream eq key name ≡ same_stream eq id name
  test_of id key name alike = (same_stream_laws eq laws).congr key id name (test_flips id key true alike)

abbrev Entries : Type 0 → Type 0 → Type 0
Entries T C = List (IpFragId C × OpenStream T)

-- ---- the bytes that streams hold
sum_by-map : {X Y : Type 0} (f : Y → ℕ) (g : X → Y) (xs : List X) → sum_by f (map g xs) ≡ sum_by (λ x. f (g x)) xs
sum_by-map f g [] = refl
sum_by-map f g (x ∷ xs) =
    sum_by-cons f (g x) (map g xs) ∙ ap (λ n. f (g x) + n) (sum_by-map f g xs)
    ∙ sym (sum_by-cons (λ x. f (g x)) x xs)

pub bytes_by_values : {T C : Type 0} (es : Entries T C) (shown : List (Bor (OpenStream T)))
    → map deref shown ≡ values_of es
    → sum_by (λ stream. length (data_of stream.now.buffer)) shown
    ≡ sum_by (λ stream. length (data_of stream.buffer)) (map stream_at es)
bytes_by_values es shown all =
    let data_len = λ (stream : OpenStream _). length (data_of stream.buffer) in
    sym (sum_by-map data_len deref shown) ∙ ap (sum_by data_len) all ∙ sum_by-map data_len (λ e. e.1) es
    ∙ sym (sum_by-map (λ stream. length (data_of stream.buffer)) stream_at es)

module _ {T C : Type 0} (eq : C → C → Bool) (laws : IsEquivalence eq) where
  -- whether a stream has this identifier
  abbrev is_of : IpFragId C → Stream T C → Bool
  is_of name stream = same_stream eq stream.id name

  -- ---- equal identifiers
  tests_same : (a b : IpFragId C) → same_stream eq a b ≡ true → is_of b ≡ is_of a
  tests_same a b alike = λ i stream.
      ((same_stream_laws eq laws).symm stream.id b ∙ sym ((same_stream_laws eq laws).congr a b stream.id alike)
      ∙ (same_stream_laws eq laws).symm a stream.id) i

  pub same_name : (pool : IpDefragPool T C) (a b : IpFragId C) → same_stream eq a b ≡ true
      → stream_named eq b pool ≡ stream_named eq a pool
  same_name pool a b alike = ap (λ test. find test (streams_of pool)) (tests_same a b alike)

  -- ---- identifiers of a map differ
  count_others : (key name : IpFragId C) (es : Entries T C) → same_stream eq key name ≡ true
      → AllByRecursion (λ other. same_stream eq key other ≡ false) (keys_of es)
      → count_by (is_of name) (map stream_at es) ≡ 0
  count_others key name [] alike others = omega arith
  count_others key name (e ∷ es) alike others =
      let differs : same_stream eq e.0 name ≡ false =
      (same_stream_laws eq laws).symm e.0 name ∙ sym ((same_stream_laws eq laws).congr key name e.0 alike) ∙ others.0 in
      omega (
        arith,
        sum_by-cons (counted (is_of name)) (stream_at e) (map stream_at es),
        ap {B = ℕ} (λ b. cond b 1 0) differs,
        count_others key name es alike others.1,
      )

  names_differ : (limit : ℕ) (pool : Entries T C) → IsDistinct (same_stream eq) (keys_of pool)
      → NamesDiffer eq (limit, pool)
  names_differ limit [] distinct name = omega arith
  names_differ limit (e ∷ es) distinct name =
      let more = sum_by-cons (counted (is_of name)) (stream_at e) (map stream_at es) in
      elim (cases_Bool (same_stream eq e.0 name)) [
        | inl alike ↦ omega (
          arith,
          more,
          ap {B = ℕ} (λ b. cond b 1 0) alike,
          count_others e.0 name es alike (IsDistinct-head (same_stream eq) e.0 (keys_of es) distinct),
        )
        | inr other ↦ omega (
          arith,
          more,
          ap {B = ℕ} (λ b. cond b 1 0) other,
          names_differ limit es (IsDistinct-tail (same_stream eq) e.0 (keys_of es) distinct) name,
        )
      ]

  -- ---- look-ups by identifier
  named_none : (limit : ℕ) (pool : Entries T C) (id : IpFragId C) → lookup (same_stream eq id) pool ≡ None
      → stream_named eq id (limit, pool) ≡ None
  named_none limit [] id absent = refl
  named_none limit (e ∷ es) id absent = elim (cases_Bool (same_stream eq id e.0)) [
    | inl alike ↦ absurd (let some : Some e.1 ≡ None = rw alike at absent in cc)
    | inr other ↦
        let rest : lookup (same_stream eq id) es ≡ None = rw other at absent in
        rw (test_flips eq laws id e.0 false other) (named_none limit es id rest)
  ]

  -- The stream of an identifier for which the map has this value, and the streams after the value is replaced.
  pub record IsStreamOf (limit : ℕ) (pool : Entries T C) (id : IpFragId C) (value : OpenStream T) : Type 0 where
    pub key : IpFragId C
    pub named : stream_named eq id (limit, pool) ≡ Some (stream_at (key, value))
    pub written : (next : OpenStream T)
        → stream_named eq id (limit, set_value (same_stream eq id) pool next) ≡ Some (stream_at (key, next))

  stream_of : (limit : ℕ) (pool : Entries T C) (id : IpFragId C) (value : OpenStream T)
      → lookup (same_stream eq id) pool ≡ Some value → IsStreamOf limit pool id value
  stream_of limit [] id value found = absurd (cc)
  stream_of limit (e ∷ es) id value found = elim (cases_Bool (same_stream eq id e.0)) [
    | inl alike ↦
        let some : Some e.1 ≡ Some value = rw alike at found in
        let is : e.1 ≡ value = cc in
        record {
          key = e.0;
          named = rw (test_flips eq laws id e.0 true alike) (ap (λ v. Some (stream_at (e.0, v))) is);
          written = λ next. rw (alike, test_flips eq laws id e.0 true alike) refl;
        }
    | inr other ↦
        let rest : lookup (same_stream eq id) es ≡ Some value = rw other at found in
        let later = stream_of limit es id value rest in
        record {
          key = later.key;
          named = rw (test_flips eq laws id e.0 false other) later.named;
          written = λ next. rw (other, test_flips eq laws id e.0 false other) (later.written next);
        }
  ]

  -- ---- the other identifiers
  others_written : (es : Entries T C) (id name : IpFragId C) (next : OpenStream T) → same_stream eq id name ≡ false
      → find (is_of name) (map stream_at (set_value (same_stream eq id) es next)) ≡ find (is_of name) (map stream_at es)
  others_written [] id name next other = refl
  others_written (e ∷ es) id name next other = elim (cases_Bool (same_stream eq id e.0)) [
    | inl alike ↦ rw (alike, test_of eq laws id e.0 name alike ∙ other) refl
    | inr apart ↦ rw apart
        (ap (cond (same_stream eq e.0 name) (Some (stream_at e))) (others_written es id name next other))
  ]

  others_removed : (es : Entries T C) (id name : IpFragId C) → same_stream eq id name ≡ false
      → find (is_of name) (map stream_at (remove_entry (same_stream eq id) es)) ≡ find (is_of name) (map stream_at es)
  others_removed [] id name other = refl
  others_removed (e ∷ es) id name other = elim (cases_Bool (same_stream eq id e.0)) [
    | inl alike ↦ rw (alike, test_of eq laws id e.0 name alike ∙ other) refl
    | inr apart ↦ rw apart (ap (cond (same_stream eq e.0 name) (Some (stream_at e))) (others_removed es id name other))
  ]

  -- ---- two changes in turn
  pub changed_again : (old mid new : IpDefragPool T C) (id : IpFragId C) (stream next : Option (Stream T C))
      → ChangesStream eq old mid id stream → ChangesStream eq mid new id next → ChangesStream eq old new id next
  changed_again old mid new id stream next first second = record {
    here = second.here;
    others = λ other apart. second.others other apart ∙ first.others other apart;
    apart = second.apart;
    limit = second.limit ∙ first.limit;
  }

  -- ---- changes of a map whose keys are compared as identifiers
  module _ (key_eq : IpFragId C → IpFragId C → Bool) (is : key_eq ≡ same_stream eq) where
    pub absent_stream : (limit : ℕ) (pool : Entries T C) (id : IpFragId C) → lookup (key_eq id) pool ≡ None
        → stream_named eq id (limit, pool) ≡ None
    absent_stream limit pool id absent =
        named_none limit pool id (subst (λ test. lookup (test id) pool ≡ None) is absent)

    pub absent_in : (limit : ℕ) (es : Entries T C) (pool : IpDefragPool T C) → (limit, es) ≡ pool → (id : IpFragId C)
        → None ≡ lookup (key_eq id) es → stream_named eq id pool ≡ None
    absent_in limit es pool view id absent =
        ap (λ (shown : IpDefragPool T C). stream_named eq id shown) (sym view)
        ∙ absent_stream limit es id (sym absent)

    pub present_stream : (limit : ℕ) (pool : Entries T C) (id : IpFragId C) (value : OpenStream T)
        → lookup (key_eq id) pool ≡ Some value → IsStreamOf limit pool id value
    present_stream limit pool id value found =
        stream_of limit pool id value (subst (λ test. lookup (test id) pool ≡ Some value) is found)

    module _ (limit : ℕ) (old new : Entries T C) (id : IpFragId C) (distinct : IsDistinct key_eq (keys_of new)) where
      differ : NamesDiffer eq (limit, new)
      differ = names_differ limit new (subst (λ test. IsDistinct test (keys_of new)) is distinct)

      -- After a reordering each identifier finds the same stream.
      moved : (es : Entries T C) → IsPermutation es new → (name : IpFragId C)
          → stream_named eq name (limit, new) ≡ find (is_of name) (map stream_at es)
      moved es reordered name =
          find_permuted (is_of name) (map stream_at es) (map stream_at new)
          (IsPermutation-map stream_at es new reordered) (differ name)

      pub written_stream : (value next : OpenStream T) (of : IsStreamOf limit old id value)
          → new ≡ set_value (key_eq id) old next
          → ChangesStream eq (limit, old) (limit, new) id (Some (stream_at (of.key, next)))
      written_stream value next of now =
          let written : new ≡ set_value (same_stream eq id) old next =
          subst (λ test. new ≡ set_value (test id) old next) is now in
          record {
            here = ap (λ es. stream_named eq id (limit, es)) written ∙ of.written next;
            others = λ other apart.
                ap (λ es. stream_named eq other (limit, es)) written ∙ others_written old id other next apart;
            apart = differ;
            limit = refl;
          }

      -- An identifier found a stream, and now finds another one with an equal key.
      pub record Rewritten (value next : OpenStream T) : Type 0 where
        pub key : IpFragId C
        pub named : stream_named eq id (limit, old) ≡ Some (stream_at (key, value))
        pub now : ChangesStream eq (limit, old) (limit, new) id (Some (stream_at (key, next)))

      pub rewritten_stream : (value next : OpenStream T) → lookup (key_eq id) old ≡ Some value
          → new ≡ set_value (key_eq id) old next → Rewritten value next
      rewritten_stream value next found now =
          let of = present_stream limit old id value found in
          record { key = of.key; named = of.named; now = written_stream value next of now }

      -- After an insertion under an identifier that had no stream, the map's entries are the old ones and the new pair.
      pub put_stream : (value : OpenStream T) (had : Option (OpenStream T)) (Kept : OpenStream T → Type 0)
          → had ≡ lookup (key_eq id) old → stream_named eq id (limit, old) ≡ None
          → MatchOption had (IsPermutation ((id, value) ∷ old) new) Kept
          → ChangesStream eq (limit, old) (limit, new) id (Some (stream_at (id, value)))
      put_stream value (Some was) Kept found absent puts =
          let some : None ≡ Some (stream_at ((present_stream limit old id was (sym found)).key, was)) =
          sym absent ∙ (present_stream limit old id was (sym found)).named in
          absurd (cc)
      put_stream value None Kept found absent reordered = record {
        here = moved ((id, value) ∷ old) reordered id ∙ rw ((same_stream_laws eq laws).refl id) refl;
        others = λ other apart. moved ((id, value) ∷ old) reordered other ∙ rw apart refl;
        apart = differ;
        limit = refl;
      }

      removed_stream : lookup (key_eq id) new ≡ None → IsPermutation (remove_entry (key_eq id) old) new
          → ChangesStream eq (limit, old) (limit, new) id None
      removed_stream gone reordered =
          let left : IsPermutation (remove_entry (same_stream eq id) old) new =
          subst (λ test. IsPermutation (remove_entry (test id) old) new) is reordered in
          record {
            here = absent_stream limit new id gone;
            others = λ other apart.
                moved (remove_entry (same_stream eq id) old) left other ∙ others_removed old id other apart;
            apart = differ;
            limit = refl;
          }

      pub removed_from : (pool : IpDefragPool T C) → (limit, old) ≡ pool → lookup (key_eq id) new ≡ None
          → IsPermutation (remove_entry (key_eq id) old) new → ChangesStream eq pool (limit, new) id None
      removed_from pool view gone reordered =
          subst (λ (shown : IpDefragPool T C). ChangesStream eq shown (limit, new) id None) view
          (removed_stream gone reordered)
