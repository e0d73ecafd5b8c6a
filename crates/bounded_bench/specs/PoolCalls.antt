-- The pool after a frame is added.
use Rattle.std.specs.Prelude.{ℕ, Bool, Option, Result}
use Rattle.std.specs.Option.{option_map}
use Rattle.etherparse.specs.BoundedPools.{TakesBoundedFrame}
use Rattle.etherparse.specs.FrameFragments.{fragment_of}
use Rattle.etherparse.specs.Layers.{Layers}
use Rattle.etherparse.specs.Streams.{packet_fragment}
use Rattle.etherparse.specs.Types.BoundedDefragError.{BoundedDefragError}
use Rattle.etherparse.specs.Types.BoundedDefragPool.{BoundedDefragPool}
use Rattle.etherparse.specs.Types.IpDefragPayloadVec.{IpDefragPayloadVec}

-- The pool is passed a frame with these layers at this time and on this channel, and returns this result.
abbrev pub Takes : (ℕ → ℕ → Bool) → Layers → ℕ → ℕ → BoundedDefragPool ℕ → BoundedDefragPool ℕ
    → Result (Option IpDefragPayloadVec) BoundedDefragError → Type 0
Takes eq layers time channel old new answer =
    TakesBoundedFrame eq old new (option_map packet_fragment (fragment_of layers)) time channel answer
