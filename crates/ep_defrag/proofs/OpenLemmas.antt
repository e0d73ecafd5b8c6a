-- A stream that no drop ends while it is open.
use Rattle.std.proofs.Common.{◌≡◌, ℕ, suc, Bool, true, false, List, [], ◌∷◌, ◌++◌, append_assoc, take, drop, Option}
use Rattle.std.proofs.Common.{Some, None, IfSome, slice_get, sym, refl, ap, ◌∙◌, inl, inr}
use Rattle.std.specs.List.{filter_map, AllByRecursion, All}
use Rattle.std.proofs.lemmas.Bool.{cases_Bool}
use Rattle.std.proofs.lemmas.List.{append-nil, take-append-drop}
use Rattle.std.proofs.lemmas.List.Elements.{recursion_from_All, All-get_or, filter-append, filter_map-append}
use Rattle.std.proofs.lemmas.Option.{get_or_from_slice_get, slice_get_within}
use Rattle.ep_defrag.specs.declared.ip_defrag_error.IpDefragError.{IpDefragError}
use Rattle.ep_defrag.specs.declared.ip_frag_id.IpFragId.{IpFragId}
use Rattle.ep_defrag.specs.IpFragments.{IpFragment, is_complete}
use Rattle.ep_defrag.specs.FragmentRefusals.{refusal_within}
use Rattle.ep_defrag.specs.Streams.{name_of, same_stream}
use Rattle.ep_defrag.specs.Calls.{Call, gives_frame, drops_streams, returns_buffer, Kept, accepted_in, kept_of}
use Rattle.ep_defrag.specs.Calls.{kept_unless, kept_by, kept_after, kept_after_all, concerns, calls_of, table_after}
use Rattle.ep_defrag.specs.Isolation.{StaysOpen, time_of_call, KeepsTimes, KeepsOwn}
use Rattle.ep_defrag.proofs.CallLemmas.{after_one_more}

-- A drop that keeps the timestamp of the stream, if it is open, changes nothing.
pub drop_keeps : {T : Type 0} (answers : T → Bool) (kept : Option (Kept T))
    → IfSome kept (λ k. answers k.timestamp ≡ true) → kept_by answers kept ≡ kept
drop_keeps answers None stays = refl
drop_keeps answers (Some kept) stays = rw stays refl

-- A property of all elements holds at each index.
holds_at : {X : Type 0} (P : X → Type 0) (xs : List X) (at : ℕ) (x : X) → All P xs → slice_get xs at ≡ Some x → P x
holds_at P xs at x all is =
    rw (get_or_from_slice_get xs at x x is) at (All-get_or P xs at x (slice_get_within xs at x is) all)

first_part : {X : Type 0} (P : X → Type 0) (xs ys : List X) → AllByRecursion P (xs ++ ys) → AllByRecursion P xs
first_part P [] ys all = tt
first_part P (x ∷ xs) ys all = (all.0, first_part P xs ys all.1)

-- Holds if no drop among the calls that concern a stream drops it.
module _ {T C V : Type 0} (limit : ℕ) (keep : V → T → Bool) where
  abbrev pub StaysKept : Option (Kept T) → List (Call T C V) → Type 0
  StaysKept kept [] = Unit {0}
  StaysKept kept (gives_frame carried timestamp channel ∷ calls) =
      StaysKept (kept_after limit keep kept (gives_frame carried timestamp channel)) calls
  StaysKept kept (drops_streams value ∷ calls) =
      IfSome kept (λ k. keep value k.timestamp ≡ true) × StaysKept (kept_by (keep value) kept) calls
  StaysKept kept (returns_buffer ∷ calls) = StaysKept kept calls

module _ {T C V : Type 0} (limit : ℕ) (eq : C → C → Bool) (keep : V → T → Bool) (name : IpFragId C) where
  -- Holds if no drop of the later calls drops the stream, after the earlier calls.
  abbrev pub StaysAfter : List (Call T C V) → List (Call T C V) → Type 0
  StaysAfter earlier calls = (at : ℕ) (value : V) → slice_get calls at ≡ Some (drops_streams value)
      → IfSome (table_after limit eq keep (earlier ++ take at calls) name) (λ kept. keep value kept.timestamp ≡ true)

  pub stays_later : (earlier calls : List (Call T C V)) (call : Call T C V) → StaysAfter earlier (call ∷ calls)
      → StaysAfter (earlier ++ call ∷ []) calls
  stays_later earlier calls call stays at value is =
      rw (append_assoc earlier (call ∷ []) (take at calls)) (stays (suc at) value is)

  pub stays_here : (earlier calls : List (Call T C V)) (value : V) → StaysAfter earlier (drops_streams value ∷ calls)
      → IfSome (table_after limit eq keep earlier name) (λ kept. keep value kept.timestamp ≡ true)
  stays_here earlier calls value stays = rw (append-nil earlier) at (stays 0 value refl)

  stays_kept_after : (earlier calls : List (Call T C V)) → StaysAfter earlier calls
      → StaysKept limit keep (table_after limit eq keep earlier name) (calls_of eq name calls)
  stays_kept_after earlier [] stays = tt
  stays_kept_after earlier (gives_frame None timestamp channel ∷ calls) stays =
      let call : Call T C V = gives_frame None timestamp channel in
      rw (after_one_more limit eq keep earlier call name false refl)
      at (stays_kept_after (earlier ++ call ∷ []) calls (stays_later earlier calls call stays))
  stays_kept_after earlier (gives_frame (Some carried) timestamp channel ∷ calls) stays =
      let call : Call T C V = gives_frame (Some carried) timestamp channel in
      let rest = stays_kept_after (earlier ++ call ∷ []) calls (stays_later earlier calls call stays) in
      elim (cases_Bool (same_stream eq (name_of carried channel) name)) [
        | inl does ↦ rw does (rw (after_one_more limit eq keep earlier call name true does) at rest)
        | inr not ↦ rw not (rw (after_one_more limit eq keep earlier call name false not) at rest)
      ]
  stays_kept_after earlier (drops_streams value ∷ calls) stays =
      let call : Call T C V = drops_streams value in
      let rest = stays_kept_after (earlier ++ call ∷ []) calls (stays_later earlier calls call stays) in
      (stays_here earlier calls value stays, rw (after_one_more limit eq keep earlier call name true refl) at rest)
  stays_kept_after earlier (returns_buffer ∷ calls) stays =
      let call : Call T C V = returns_buffer in
      let rest = stays_kept_after (earlier ++ call ∷ []) calls (stays_later earlier calls call stays) in
      rw (after_one_more limit eq keep earlier call name false refl) at rest

  pub stays_kept : (calls : List (Call T C V)) → StaysOpen limit eq keep name calls
      → StaysKept limit keep None (calls_of eq name calls)
  stays_kept calls stays = stays_kept_after [] calls stays

  -- ---- drops that keep the timestamps of the stream's own fragments
  module _ (P : T → Type 0) where
    abbrev IsKeptAt : Option (Kept T) → Type 0
    IsKeptAt kept = IfSome kept (λ k. P k.timestamp)

    time_of_kept : (accepted : List IpFragment) (timestamp : T) → P timestamp → IsKeptAt (kept_of accepted timestamp)
    time_of_kept accepted timestamp has = elim (cases_Bool (is_complete accepted)) [
      | inl complete ↦ rw complete tt
      | inr partly ↦ rw partly has
    ]

    time_unless : (refusal : Option IpDefragError) (kept : Option (Kept T)) (fragment : IpFragment) (timestamp : T)
        → P timestamp → IsKeptAt kept → IsKeptAt (kept_unless refusal kept fragment timestamp)
    time_unless (Some error) kept fragment timestamp has before = before
    time_unless None kept fragment timestamp has before =
        time_of_kept (accepted_in kept ++ fragment ∷ []) timestamp has

    time_by : (answers : T → Bool) (kept : Option (Kept T)) → IsKeptAt kept → IsKeptAt (kept_by answers kept)
    time_by answers None before = tt
    time_by answers (Some kept) before = elim (cases_Bool (answers kept.timestamp)) [
      | inl stays ↦ rw stays before
      | inr goes ↦ rw goes tt
    ]

    -- The stream has the timestamp of one of its fragments.
    time_after : (calls : List (Call T C V)) (kept : Option (Kept T)) → IsKeptAt kept
        → AllByRecursion P (filter_map time_of_call calls) → IsKeptAt (kept_after_all limit keep kept calls)
    time_after [] kept before times = before
    time_after (gives_frame None timestamp channel ∷ calls) kept before times = time_after calls kept before times
    time_after (gives_frame (Some carried) timestamp channel ∷ calls) kept before times =
        time_after calls _
        (time_unless (refusal_within limit (accepted_in kept) carried.fragment) kept carried.fragment timestamp times.0
        before)
        times.1
    time_after (drops_streams value ∷ calls) kept before times =
        time_after calls (kept_by (keep value) kept) (time_by (keep value) kept before) times
    time_after (returns_buffer ∷ calls) kept before times = time_after calls kept before times

  times_of_part : (calls : List (Call T C V)) (at : ℕ)
      → filter_map time_of_call (calls_of eq name calls)
      ≡ filter_map time_of_call (calls_of eq name (take at calls))
      ++ filter_map time_of_call (calls_of eq name (drop at calls))
  times_of_part calls at =
      ap (λ (all : List (Call T C V)). filter_map time_of_call (calls_of eq name all)) (sym (take-append-drop at calls))
      ∙ ap (filter_map time_of_call) (filter-append (concerns eq name) (take at calls) (drop at calls))
      ∙ filter_map-append time_of_call (calls_of eq name (take at calls)) (calls_of eq name (drop at calls))

  pub own_stays : (calls : List (Call T C V)) → KeepsOwn eq keep name calls → StaysOpen limit eq keep name calls
  own_stays calls own at value is =
      let times = filter_map time_of_call (calls_of eq name calls) in
      let keeps : All (λ timestamp. keep value timestamp ≡ true) times =
      holds_at (KeepsTimes keep times) calls at (drops_streams value) own is in
      let all = rw (times_of_part calls at)
      at (recursion_from_All (λ timestamp. keep value timestamp ≡ true) times keeps) in
      time_after (λ timestamp. keep value timestamp ≡ true) (calls_of eq name (take at calls)) None tt
      (first_part (λ timestamp. keep value timestamp ≡ true) _ _ all)
