-- Answers of `etherparse_2_slice_many` and `etherparse_2_slice_lax_many`.
use Rattle.std.specs.Prelude.{◌≡◌, ◌<◌, ◌≤◌, ℕ, List, ◌∷◌, length, drop, ◌⊎◌, Option, Some, None, slice_get, slice_index}
use Rattle.std.specs.List.{slice_range}
use Rattle.etherparse.specs.Types.Entry.{Entry}
use Rattle.etherparse_c.specs.declared.packet.Packet.{Packet}

-- the start of the frame at an index, which is the end of the frame before it, or 0; and its end
abbrev pub frame_start : List ℕ → ℕ → ℕ
frame_start ends index = slice_index (0 ∷ ends) index

abbrev pub frame_end : List ℕ → ℕ → ℕ
frame_end ends index = slice_index ends index

-- which status and packet a call that slices one frame may answer, for the bytes of the frame
abbrev pub FrameAnswers : Type 1
FrameAnswers = List ℕ → ℕ → Packet → Type 0

-- The packet at an index is filled as the call for one frame fills it for the frame at this index.
pub record IsSlicedAt (IsAnswer : FrameAnswers) (bytes ends : List ℕ) (packets : List Packet) (index : ℕ) : Type 0 where
  pub packet : Packet
  pub status : ℕ
  pub stored : slice_get packets index ≡ Some packet
  pub ascends : frame_start ends index ≤ frame_end ends index
  pub within : frame_end ends index ≤ length bytes
  pub answer : IsAnswer (slice_range bytes (frame_start ends index) (frame_end ends index)) status packet

-- The first `sliced` frames are sliced; the other packets are unchanged.
pub record AreSliced (IsAnswer : FrameAnswers) (bytes ends : List ℕ) (old new : List Packet) (sliced : ℕ) : Type 0 where
  pub most : sliced ≤ length ends
  pub each : (index : ℕ) → index < sliced → IsSlicedAt IsAnswer bytes ends new index
  pub others : drop sliced new ≡ drop sliced old

-- There is a packet for each end, and the entry is known.
abbrev pub SlicesFrames : Option Entry → List ℕ → List Packet → Type 0
SlicesFrames entry ends packets = (length ends ≤ length packets) × ¬ (entry ≡ None)

-- The status is 0, and all frames are sliced; or it is 2, and only the frames are sliced that come before a frame that
-- ends before it starts, or after the last byte; or it is 2, the entry is unknown, and no frame is sliced; or it is 3,
-- there are fewer packets than ends, and no frame is sliced. The number of packets is checked first, then the entry.
-- `IsAnswer` is the answer for one frame: `IsSliceAnswer` or `IsLaxAnswer`.
abbrev pub IsManyAnswer : (Option Entry → FrameAnswers) → Option Entry → List ℕ → List ℕ → List Packet → List Packet → ℕ
    → ℕ → Type 0
IsManyAnswer IsAnswer entry bytes ends old new sliced status =
    ((status ≡ 0) × SlicesFrames entry ends old × (sliced ≡ length ends)
    × AreSliced (IsAnswer entry) bytes ends old new sliced)
    ⊎ ((status ≡ 2) × SlicesFrames entry ends old × (sliced < length ends)
    × AreSliced (IsAnswer entry) bytes ends old new sliced
    × ((frame_end ends sliced < frame_start ends sliced) ⊎ (length bytes < frame_end ends sliced)))
    ⊎ ((status ≡ 2) × (length ends ≤ length old) × (entry ≡ None) × (sliced ≡ 0) × (new ≡ old))
    ⊎ ((status ≡ 3) × (length old < length ends) × (sliced ≡ 0) × (new ≡ old))
