-- The capacity of a buffer: the number of bytes and sections that its vectors can hold before they grow.
use Rattle.std.specs.Prelude.{◌≡◌, ℕ, ◌+◌, ◌*◌, ◌<◌, ◌≤◌, ◌⊎◌, length, vec_capacity}
use Rattle.std.specs.List.{Any}
use Rattle.ep_defrag.specs.declared.ip_defrag_buf.IpDefragBuf.{IpDefragBuf}
use Rattle.ep_defrag.specs.Ranges.{SharePoint}
use Rattle.ep_defrag.specs.IpFragments.{IpFragment, fragment_end, range_of}
use Rattle.ep_defrag.specs.Buffers.{sections_of}

-- capacity for the data, in bytes
abbrev pub data_capacity_of : IpDefragBuf → ℕ
data_capacity_of buffer = vec_capacity buffer.bytes

-- capacity for the sections, in sections
abbrev pub sections_capacity_of : IpDefragBuf → ℕ
sections_capacity_of buffer = vec_capacity buffer.sections

-- memory of a buffer in bytes, by its capacity: a section takes 4
abbrev pub room_of : IpDefragBuf → ℕ
room_of buffer = data_capacity_of buffer + 4 * sections_capacity_of buffer

-- Holds if both capacities are unchanged.
pub record SameCapacity (old new : IpDefragBuf) : Type 0 where
  pub data_capacity : data_capacity_of new ≡ data_capacity_of old
  pub sections_capacity : sections_capacity_of new ≡ sections_capacity_of old

-- Holds if neither capacity became smaller.
pub record KeepsCapacity (old new : IpDefragBuf) : Type 0 where
  pub data_capacity : data_capacity_of old ≤ data_capacity_of new
  pub sections_capacity : sections_capacity_of old ≤ sections_capacity_of new

-- Holds if the capacity is too small for a fragment: for the data up to its end, or for a new section if it neither
-- overlaps nor touches another.
abbrev pub LacksCapacity : IpDefragBuf → IpFragment → Type 0
LacksCapacity buffer fragment =
    (data_capacity_of buffer < fragment_end fragment)
    ⊎ ((sections_capacity_of buffer ≤ length (sections_of buffer))
    × (¬ Any (SharePoint (range_of fragment)) (sections_of buffer)))
