-- Bytes in the caller's buffer.
use Rattle.std.specs.Prelude.{◌≡◌, ℕ, ◌<◌, ◌≤◌, List, ◌++◌, length, drop, ◌⊎◌}
use Rattle.etherparse.specs.Types.BuildSliceWriteError.{BuildSliceWriteError}
use Rattle.etherparse.specs.Types.BuildSliceWriteError.TheVariants as error

-- The status is 0, and the bytes are at the start of the buffer, whose other bytes are unchanged; or it is 3, and the
-- buffer, which is too small for them, is unchanged. The number of bytes is stored in both cases.
abbrev pub IsPlaced : List ℕ → List ℕ → List ℕ → ℕ → ℕ → Type 0
IsPlaced bytes old new written status = (written ≡ length bytes)
    × (((status ≡ 0) × (length bytes ≤ length old) × (new ≡ bytes ++ drop (length bytes) old))
    ⊎ ((status ≡ 3) × (length old < length bytes) × (new ≡ old)))

-- Status and stored length for a frame that was not built: its length if the buffer is too small, or else 0.
abbrev pub IsBuildErrorAnswer : BuildSliceWriteError → ℕ → ℕ → Type 0
IsBuildErrorAnswer (error.Space needed) written status = (status ≡ 3) × (written ≡ needed)
IsBuildErrorAnswer (error.Build refusal) written status = (status ≡ 4) × (written ≡ 0)
