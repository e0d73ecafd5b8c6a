-- The clauses of the builder's `write` in one record, for a caller that knows the headers of its step.
use Rattle.std.specs.Prelude.{◌≡◌, ℕ, ◌+◌, ◌<◌, List, ◌++◌, length, Result, Err, OnOk, OnErr, IfErr, Vec, vec_len, vec_capacity}
use Rattle.ep_build.specs.BuildErrors.{IsBuildable, IsBuildError}
use Rattle.ep_build.specs.BuiltFrames.{FrameHeaders, built_frame, built_size}
use Rattle.ep_build.specs.declared.err.build_write_error.BuildWriteError.{BuildWriteError}
use Rattle.ep_build.specs.declared.err.build_write_error.BuildWriteError.TheVariants.{OutOfMemory}

-- The frame of these headers and this payload is appended to a buffer. An error is one of the builder's table, or out
-- of memory, which occurs only if the buffer has too little capacity; the buffer is then unchanged.
pub record AppendsFrame {Z : Type 0} (frame : FrameHeaders) (payload : List ℕ) (old new : Vec ℕ Z)
    (result : Result (Unit {0}) BuildWriteError) : Type 0 where
  pub ok : OnOk result (IsBuildable frame (length payload) × (new.items ≡ old.items ++ built_frame frame payload))
  pub err : OnErr result (new.items ≡ old.items)
  pub refused : IfErr result (IsBuildError frame (length payload))
  pub full : result ≡ Err OutOfMemory → vec_capacity old < vec_len old + built_size frame (length payload)
