-- The frames in a file.
use Rattle.std.specs.Prelude.{◌≡◌, ℕ, ◌<◌, ◌^◌, List, [], ◌∷◌, ◌++◌, length}
use Rattle.std.specs.Int.{w32, to_le_bytes}

-- The bytes are the length of a frame in four bytes, little endian, the frame, and then `rest`.
abbrev pub StartsWith : (bytes frame rest : List ℕ) → Type 0
StartsWith bytes frame rest =
    (length frame < 2 ^ 32) × (bytes ≡ to_le_bytes w32 (length frame) ++ (frame ++ rest))

-- The bytes are those of these frames, in order.
abbrev pub HoldsFrames : List ℕ → List (List ℕ) → Type 0
HoldsFrames bytes [] = bytes ≡ []
HoldsFrames bytes (frame ∷ frames) = (rest : List ℕ) × StartsWith bytes frame rest × HoldsFrames rest frames
