-- The pool after a frame is added, and after datagrams are evicted by time.
use Rattle.std.specs.Prelude.{ℕ, Bool, Option, None, Result, List}
use Rattle.std.specs.Option.{option_map}
use Rattle.etherparse.specs.BoundedPools.{HoldsRows, DoesStep, TakesBoundedFrame}
use Rattle.etherparse.specs.BoundedSteps.{Row, expires_names}
use Rattle.etherparse.specs.FrameFragments.{fragment_of}
use Rattle.etherparse.specs.Layers.{Layers}
use Rattle.etherparse.specs.Streams.{packet_fragment}
use Rattle.etherparse.specs.Types.BoundedDefragError.{BoundedDefragError}
use Rattle.etherparse.specs.Types.BoundedDefragPool.{BoundedDefragPool}
use Rattle.etherparse.specs.Types.IpDefragPayloadVec.{IpDefragPayloadVec}

-- The pool is passed a frame with these layers at this time, and returns this result.
abbrev pub Takes : (Unit {0} → Unit {0} → Bool) → Layers → ℕ → BoundedDefragPool (Unit {0}) → BoundedDefragPool (Unit {0})
    → Result (Option IpDefragPayloadVec) BoundedDefragError → Type 0
Takes eq layers time old new answer =
    TakesBoundedFrame eq old new (option_map packet_fragment (fragment_of layers)) time tt answer

-- The pool evicts exactly the datagrams that are older than its age, or idle for longer than this.
abbrev pub Expires : (Unit {0} → Unit {0} → Bool) → ℕ → ℕ → BoundedDefragPool (Unit {0}) → BoundedDefragPool (Unit {0})
    → Type 0
Expires eq time idle old new = (rows : List (Row (Unit {0}))) (number : ℕ) → HoldsRows eq old rows
    → DoesStep eq old new (expires_names time idle) number None rows
