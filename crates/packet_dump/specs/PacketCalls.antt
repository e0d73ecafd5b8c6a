-- Calls on the program's pool for the packets of a capture. Its timestamps are nanoseconds, its channels are numbers, and
-- the number of a call is that of its packet.
use Rattle.std.specs.Prelude.{ℕ, ◌*◌, ◌-◌, ◌^◌, ◌||◌, Bool, false, nat_eq, if◌then◌else◌, List, [], Option, Some, None}
use Rattle.std.specs.Prelude.{◌≡◌, IsFalse, is_some, unwrap_or}
use Rattle.std.specs.List.{list_any}
use Rattle.std.specs.Option.{option_map, option_map_or}
use Rattle.etherparse.specs.Types.DefragLimits.{DefragLimits}
use Rattle.etherparse.specs.Types.DefragStatistics.{DefragStatistics}
use Rattle.etherparse.specs.Types.IpFragId.{IpFragId}
use Rattle.etherparse.specs.Types.OverlapPolicy.TheVariants.{LastWins}
use Rattle.etherparse.specs.BoundedCounts.{no_statistics, statistics_with}
use Rattle.etherparse.specs.BoundedSteps.{BoundedCall, Gone, Row, Step, call_step, clears_names, expires_names}
use Rattle.etherparse.specs.BoundedSteps.{gives_fragment, is_for_bytes}
use Rattle.etherparse.specs.FrameFragments.{fragment_of}
use Rattle.etherparse.specs.IpFragments.{IpFragment}
use Rattle.etherparse.specs.Layers.{Layers}
use Rattle.etherparse.specs.Streams.{packet_fragment}
use Rattle.packet_dump.specs.CarriedFragments.{named_fragment}
use Rattle.packet_dump.specs.declared.dump_options.DumpOptions.{DumpOptions}

-- ---- limits

-- the nanoseconds of a number of seconds
abbrev pub nanoseconds : ℕ → ℕ
nanoseconds seconds = seconds * 1000000000

-- The limits of the pool: those of the options. Without `--fragment-bytes` and `--fragment-age` they are the greatest
-- numbers of their types, and without `--overlap` the last fragment decides.
abbrev pub limits_of : DumpOptions → DefragLimits
limits_of options = record {
  streams = options.streams;
  bytes = unwrap_or options.fragment_bytes (2 ^ 64 - 1);
  payload = options.limit;
  age = option_map_or nanoseconds options.fragment_age (2 ^ 128 - 1);
  overlap = unwrap_or options.overlap LastWins;
}

-- ---- the history of the pool

-- The history of the pool: its limits, the second in which streams were last checked for expiry, the names of its table,
-- and its counters.
pub record PoolHistory : Type 0 where
  pub limits : DefragLimits
  pub swept : ℕ
  pub rows : List (Row ℕ)
  pub statistics : DefragStatistics

abbrev pub new_pool : DumpOptions → PoolHistory
new_pool options = record { limits = limits_of options; swept = 0; rows = []; statistics = no_statistics }

-- the effect of a call of this number, for which the allocator grants this memory
abbrev pub step_of : PoolHistory → BoundedCall ℕ → ℕ → Option ℕ → Step ℕ
step_of before call number granted = call_step before.limits nat_eq before.rows call number granted

-- the history after a call with this effect
abbrev pub with_step : PoolHistory → BoundedCall ℕ → Step ℕ → PoolHistory
with_step before call step =
    record before { rows = step.rows; statistics = statistics_with before.statistics call step }

-- ---- expiry

-- the call that evicts the streams whose last accepted fragment came more than `--timeout` seconds before `now`, or whose
-- first one came more than `--fragment-age` seconds before `now`
abbrev pub expiry : DumpOptions → ℕ → BoundedCall ℕ
expiry options now = expires_names now (nanoseconds options.timeout)

-- the effect of this call at the packet of this number
abbrev pub expiry_step : DumpOptions → PoolHistory → ℕ → ℕ → Step ℕ
expiry_step options before now number = step_of before (expiry options now) number None

-- the history after it, at the timestamp `now` in the second `second`
abbrev pub with_expiry : DumpOptions → PoolHistory → ℕ → ℕ → ℕ → PoolHistory
with_expiry options before second now number =
    with_step (record before { swept = second }) (expiry options now) (expiry_step options before now number)

-- ---- fragments

-- the fragment of a frame with these layers, if it carries one, with the identifier of its stream in channel 0
abbrev pub fragment_in_frame : Layers → Option (IpFragId ℕ × IpFragment)
fragment_in_frame layers = option_map named_fragment (option_map packet_fragment (fragment_of layers))

-- the call for a fragment at this timestamp
abbrev pub fragment_call : IpFragId ℕ × IpFragment → ℕ → BoundedCall ℕ
fragment_call given now = gives_fragment (Some given) now

-- Without `--fragment-bytes` no stream is evicted for its memory. So the memory that the allocator grants has no influence
-- on an answer then.
abbrev pub KeepsMemory : DumpOptions → List (Gone ℕ) → Type 0
KeepsMemory options gone =
    is_some options.fragment_bytes ≡ false → IsFalse (list_any (λ one. is_for_bytes one.cause) gone)

-- the history after the eviction of all streams, if none may stay
abbrev pub with_eviction : DumpOptions → PoolHistory → ℕ → PoolHistory
with_eviction options before number =
    if nat_eq options.streams 0 then with_step before clears_names (step_of before clears_names number None)
    else before

-- True if evictions are printed, and counted by their cause: one of the options for hostile traffic is given.
abbrev pub reports_evictions : DumpOptions → Bool
reports_evictions options =
    is_some options.fragment_bytes || is_some options.fragment_age || is_some options.overlap
