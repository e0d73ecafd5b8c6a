-- Answers of the calls on a bounded pool.
use Rattle.std.proofs.Common.{◌≡◌, ℕ, nat_eq, Option, Some, Result, inl, inr, subst, sym}
use Rattle.std.specs.Option.{option_map}
use Rattle.etherparse.specs.BoundedPools.{TakesBoundedFrame}
use Rattle.etherparse.specs.FrameFragments.{fragment_of}
use Rattle.etherparse.specs.Layers.{Layers, no_layers}
use Rattle.etherparse.specs.Streams.{packet_fragment}
use Rattle.etherparse.specs.Types.BoundedDefragError.{BoundedDefragError}
use Rattle.etherparse.specs.Types.DefragLimits.{DefragLimits}
use Rattle.etherparse.specs.Types.IpDefragPayloadVec.{IpDefragPayloadVec}
use Rattle.etherparse_c.specs.BoundedPoolAnswers.{ChangesBounded, IsEmptyBounded, IsNewBounded, IsStoredBounded, ProcessesNoFrame}
use Rattle.etherparse_c.specs.declared.bounded_handle.BoundedHandle.{BoundedHandle}
use Rattle.etherparse_c.specs.declared.bounded_pool.BoundedPool.{BoundedPool}
use Rattle.etherparse_c.specs.declared.bounded_state.BoundedState.{BoundedState}

-- A call that does not change a bounded pool meets `ChangesBounded` with a step from its state to itself.
pub reads_bounded : {old new : BoundedPool} {Step : BoundedState → BoundedState → Type 0} (state : BoundedState)
    → Some state ≡ old.pointer.state → new.pointer.state ≡ Some state → Step state state → ChangesBounded old new Step
reads_bounded state was is step = record { before = state; after = state; was = sym was; is = is; step = step }

-- A pool with an empty state is a new pool.
pub new_bounded : {limits : DefragLimits} {state : BoundedState} {old new : BoundedHandle} {status : ℕ}
    → IsEmptyBounded limits state → IsStoredBounded state old new status → IsNewBounded (Some limits) old new status
new_bounded {limits} {state} empty (inl stored) =
    inl (stored.0, (stored.1.0, stored.1.1, (state, stored.1.2, empty)))
new_bounded {limits} {state} empty (inr failed) = inr failed

-- A packet without layers is no frame that a pool processes.
pub processes_none : {old new : BoundedState} {layers : Layers} (now channel : ℕ)
    (result : Result (Option IpDefragPayloadVec) BoundedDefragError) → layers ≡ no_layers
    → TakesBoundedFrame nat_eq old.pool new.pool (option_map packet_fragment (fragment_of layers)) now channel result
    → new.waiting ≡ old.waiting → ProcessesNoFrame old new
processes_none {old} {new} {layers} now channel result none takes waiting =
    let taken = subst (λ (it : Layers). TakesBoundedFrame nat_eq old.pool new.pool
    (option_map packet_fragment (fragment_of it)) now channel result) none takes in
    record {
      names = taken.1;
      evicted = taken.2;
      limits = taken.3;
      statistics = taken.4;
      waiting = waiting;
    }
