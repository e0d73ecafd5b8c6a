use Rattle.std.proofs.Common.{ℕ, List, map, length, ◌++◌}
use Rattle.slice_bench.specs.Files.{HoldsFrames}
use Rattle.slice_bench.proofs.files.frames_of.Given as goal

-- The frames so far with those in the rest are the frames of all bytes, and there is no other way to split the bytes.
abbrev pub invariant-frames : goal.invariant-frames
invariant-frames l = record {
  ok : (more : List (List ℕ)) → HoldsFrames l.rest more
      → HoldsFrames l.fn.bytes (map (λ frame. frame.now) l.frames.items ++ more);
  only : (all : List (List ℕ)) → HoldsFrames l.fn.bytes all → (more : List (List ℕ)) × HoldsFrames l.rest more;
}

abbrev pub decreases-frames : goal.decreases-frames
decreases-frames l = length l.rest
