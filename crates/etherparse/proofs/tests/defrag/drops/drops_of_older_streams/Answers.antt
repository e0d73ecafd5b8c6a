use Rattle.std.proofs.Common.{◌≡◌, ◌≤◌, ℕ, nat_eq, nat_le, List, [], ◌∷◌, map, All, Option, Some, None, option_map, Bool, true, refl, ap, inl, inr}
use Rattle.std.specs.List.{AllByRecursion, filter_map}
use Rattle.std.proofs.lemmas.Bool.{cases_Bool, le-leb}
use Rattle.std.proofs.lemmas.List.Elements.{All-weaker, recursion_from_All, All-from_recursion}
use Rattle.etherparse.specs.Types.IpFragId.{IpFragId}
use Rattle.etherparse.specs.FrameFragments.{FrameFragment, fragment_of}
use Rattle.etherparse.specs.Streams.{name_of, packet_fragment, same_stream}
use Rattle.etherparse.specs.Calls.{Call, gives_frame, drops_streams, returns_buffer, calls_of}
use Rattle.etherparse.specs.Isolation.{time_of_call, KeepsTimes, KeepsOwn}
use Rattle.etherparse.specs.BuiltCuts.{BuiltCut, cut_call, frames_to}
use Rattle.etherparse.proofs.tests.defrag.drops.drops_of_older_streams.Goals as goal

-- The timestamps of the calls that concern a stream are the timestamps of its frames.
times_of_frames : (eq : ℕ → ℕ → Bool) (name : IpFragId ℕ) (calls : List (Call ℕ ℕ ℕ))
    → filter_map time_of_call (calls_of eq name calls) ≡ filter_map time_of_call (frames_to eq name calls)
times_of_frames eq name [] = refl
times_of_frames eq name (gives_frame None timestamp channel ∷ calls) = times_of_frames eq name calls
times_of_frames eq name (gives_frame (Some carried) timestamp channel ∷ calls) =
    elim (cases_Bool (same_stream eq (name_of carried channel) name)) [
      | inl does ↦ rw does (ap (λ (times : List ℕ). timestamp ∷ times) (times_of_frames eq name calls))
      | inr not ↦ rw not (times_of_frames eq name calls)
    ]
times_of_frames eq name (drops_streams value ∷ calls) = times_of_frames eq name calls
times_of_frames eq name (returns_buffer ∷ calls) = times_of_frames eq name calls

-- All timestamps are 3 or later.
abbrev AreLate : List ℕ → Type 0
AreLate times = AllByRecursion (λ time. 3 ≤ time) times

late_call : (found : Option FrameFragment) (timestamp channel : ℕ) (calls : List (Call ℕ ℕ ℕ)) → 3 ≤ timestamp
    → AreLate (filter_map time_of_call calls)
    → AreLate (filter_map time_of_call (gives_frame (option_map packet_fragment found) timestamp channel ∷ calls))
late_call None timestamp channel calls late others = others
late_call (Some found) timestamp channel calls late others = (late, others)

late_cuts : (cuts : List (BuiltCut ℕ ℕ)) → AllByRecursion (λ cut. 3 ≤ cut.timestamp) cuts
    → AreLate (filter_map time_of_call (map (cut_call {V = ℕ}) cuts))
late_cuts [] late = tt
late_cuts (cut ∷ cuts) late =
    late_call (fragment_of cut.layers) cut.timestamp cut.channel (map cut_call cuts) late.0 (late_cuts cuts late.1)

-- A drop of the streams older than 3 keeps streams with these timestamps.
keeps_late : (times : List ℕ) (value : ℕ) → value ≡ 3 → All (λ time. 3 ≤ time) times
    → All (λ time. nat_le value time ≡ true) times
keeps_late times value is late =
    rw is (All-weaker (λ time. 3 ≤ time) (λ time. nat_le 3 time ≡ true) (λ time. le-leb 3 time) times late)

each_keeps : (times : List ℕ) (calls : List (Call ℕ ℕ ℕ)) → All (λ time. 3 ≤ time) times
    → AllByRecursion (λ call. (value : ℕ) → call ≡ drops_streams value → value ≡ 3) calls
    → AllByRecursion (KeepsTimes nat_le times) calls
each_keeps times [] late drops = tt
each_keeps times (gives_frame carried timestamp channel ∷ calls) late drops =
    (tt, each_keeps times calls late drops.1)
each_keeps times (drops_streams value ∷ calls) late drops =
    (keeps_late times value (drops.0 value refl) late, each_keeps times calls late drops.1)
each_keeps times (returns_buffer ∷ calls) late drops = (tt, each_keeps times calls late drops.1)

own : (eq : ℕ → ℕ → Bool) (name : IpFragId ℕ) (cuts : List (BuiltCut ℕ ℕ)) (calls : List (Call ℕ ℕ ℕ))
    → All (λ cut. 3 ≤ cut.timestamp) cuts
    → All (λ call. (value : ℕ) → call ≡ drops_streams value → value ≡ 3) calls
    → frames_to eq name calls ≡ map cut_call cuts → KeepsOwn eq nat_le name calls
own eq name cuts calls late drops same =
    let of_frames : AreLate (filter_map time_of_call (frames_to eq name calls)) =
    rw same (late_cuts cuts (recursion_from_All (λ cut. 3 ≤ cut.timestamp) cuts late)) in
    let of_all : AreLate (filter_map time_of_call (calls_of eq name calls)) =
    rw (times_of_frames eq name calls) of_frames in
    All-from_recursion (KeepsTimes nat_le (filter_map time_of_call (calls_of eq name calls))) calls
    (each_keeps (filter_map time_of_call (calls_of eq name calls)) calls
    (All-from_recursion (λ time. 3 ≤ time) (filter_map time_of_call (calls_of eq name calls)) of_all)
    (recursion_from_All (λ call. (value : ℕ) → call ≡ drops_streams value → value ≡ 3) calls drops))

pub returns : goal.returns
returns c = λ limit name payload cuts calls short built late drops same.
    c.built_cuts_are_reassembled.ensures.among_kept limit nat_le name payload cuts calls short built
    (own nat_eq name cuts calls late drops same) same
