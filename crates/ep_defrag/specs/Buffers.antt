-- The contents of a reassembly buffer, and the list of fragments that it holds.
use Rattle.std.specs.Prelude.{◌≡◌, ℕ, ◌+◌, ◌-◌, ◌<◌, ◌≤◌, Bool, false, not, ◌==◌, Option, Some, List, [], ◌∷◌, ◌++◌}
use Rattle.std.specs.Prelude.{length, take, drop, replicate, if◌then◌else◌}
use Rattle.std.specs.List.{All, AllWithin, list_any, count_by, filter, fold}
use Rattle.ep_base.specs.declared.ip_number.IpNumber.{IpNumber}
use Rattle.ep_defrag.specs.declared.ip_frag_range.IpFragRange.{IpFragRange}
use Rattle.ep_defrag.specs.declared.ip_defrag_buf.IpDefragBuf.{IpDefragBuf}
use Rattle.ep_defrag.specs.Ranges.{has_byte, touches, merges, hull}
use Rattle.ep_defrag.specs.IpFragments.{IpFragment, fragment_end, range_of, is_covered, is_touched, end_of, assembled}
use Rattle.ep_defrag.specs.FragmentRefusals.{FitInTurn}

-- protocol number of the payload, which `ip_number` returns
abbrev pub ip_number_of : IpDefragBuf → IpNumber
ip_number_of buffer = buffer.ip_number

-- bytes reassembled so far, which `data` returns
abbrev pub data_of : IpDefragBuf → List ℕ
data_of buffer = buffer.bytes.items

-- filled ranges, which `sections` returns
abbrev pub sections_of : IpDefragBuf → List IpFragRange
sections_of buffer = buffer.sections.items

-- length of the payload once a final fragment was accepted, which `end` returns
abbrev pub known_end_of : IpDefragBuf → Option ℕ
known_end_of buffer = buffer.end

-- Holds if the two buffers have equal contents.
pub record IsUnchanged (old new : IpDefragBuf) : Type 0 where
  pub ip_number : ip_number_of new ≡ ip_number_of old
  pub contents : data_of new ≡ data_of old
  pub sections : sections_of new ≡ sections_of old
  pub end : known_end_of new ≡ known_end_of old

-- contents extended with zeros up to an end
abbrev pub extended : List ℕ → ℕ → List ℕ
extended contents end = contents ++ replicate (end - length contents) 0

-- contents with the bytes from a position on overwritten
abbrev pub overwritten : List ℕ → ℕ → List ℕ → List ℕ
overwritten contents start bytes = take start contents ++ bytes ++ drop (start + length bytes) contents

-- contents after bytes are written to a range, with zeros in a gap before it
abbrev pub data_with : List ℕ → IpFragRange → List ℕ → List ℕ
data_with contents range bytes = overwritten (extended contents range.end) range.start bytes

-- contents after a fragment
abbrev pub data_after : List ℕ → IpFragment → List ℕ
data_after contents fragment = data_with contents (range_of fragment) fragment.bytes

-- known end after a fragment
abbrev pub end_after : Option ℕ → IpFragment → Option ℕ
end_after end fragment = if fragment.more then end else Some (fragment_end fragment)

-- union of a range and the sections that merge with it
abbrev pub union_of : IpFragRange → List IpFragRange → IpFragRange
union_of range sections = fold hull range (filter (merges range) sections)

-- sections after a range is merged in: its union, and the sections that do not merge with it
abbrev pub sections_after : IpFragRange → List IpFragRange → List IpFragRange
sections_after range sections = union_of range sections ∷ filter (λ section. not (merges range section)) sections

-- Holds if exactly the sections of the indices `from` to before `to` overlap or touch the range: the earlier ones end
-- before its start, and the later ones start after its end.
pub record AreNeighbours (range : IpFragRange) (sections : List IpFragRange) (from to : ℕ) : Type 0 where
  pub order : from ≤ to
  pub within : to ≤ length sections
  pub earlier : AllWithin (λ section. section.end < range.start) sections 0 from
  pub between : AllWithin (λ section. (range.start ≤ section.end) × (section.start ≤ range.end)) sections from to
  pub later : AllWithin (λ section. range.end < section.start) sections to (length sections)

-- whether there is exactly one section, and it starts at 0
abbrev pub is_gapless : List IpFragRange → Bool
is_gapless [] = false
is_gapless (section ∷ []) = section.start == 0
is_gapless (section ∷ other ∷ others) = false

-- Holds if the buffer's contents are those after it accepted these fragments, in their order. Other lists of fragments
-- can have equal contents.
pub record HoldsFragments (buffer : IpDefragBuf) (fragments : List IpFragment) : Type 0 where
  -- Each fits after the earlier ones.
  pub in_turn : FitInTurn fragments
  pub contents : data_of buffer ≡ assembled fragments
  pub end : known_end_of buffer ≡ end_of fragments
  -- No section is reversed, and no position touches two of them.
  pub ordered : All (λ section. section.start ≤ section.end) (sections_of buffer)
  pub separate : (position : ℕ) → count_by (touches position) (sections_of buffer) ≤ 1
  -- A section has a byte exactly where a fragment has one, and touches a position exactly where a fragment does.
  pub bytes : (position : ℕ) → list_any (has_byte position) (sections_of buffer) ≡ is_covered fragments position
  pub points : (position : ℕ) → list_any (touches position) (sections_of buffer) ≡ is_touched fragments position
