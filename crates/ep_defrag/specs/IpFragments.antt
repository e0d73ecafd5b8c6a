-- Fragments of one IP payload, and the payload that a list of accepted ones forms. A list is in the order of
-- acceptance.
use Rattle.std.specs.Prelude.{◌≡◌, ℕ, ◌+◌, ◌-◌, ◌*◌, max, Bool, not, ◌&&◌, IsTrue, if◌then◌else◌, Option, Some, None}
use Rattle.std.specs.Prelude.{is_some, unwrap_or, List, [], ◌∷◌, length, map, slice_index}
use Rattle.std.specs.List.{list_any, list_all, range_with_len}
use Rattle.ep_defrag.specs.declared.ip_frag_range.IpFragRange.{IpFragRange}
use Rattle.ep_defrag.specs.Ranges.{has_byte, touches}

-- a fragment: its offset in units of 8 bytes, whether more fragments follow, and its bytes (RFC 791, 3.1 and RFC 8200,
-- 4.5)
pub record IpFragment : Type 0 where
  pub offset : ℕ
  pub more : Bool
  pub bytes : List ℕ

-- fragment with these fields
abbrev pub fragment_with : ℕ → Bool → List ℕ → IpFragment
fragment_with offset more bytes = record { offset = offset; more = more; bytes = bytes }

-- whether it is the final fragment: no more follow
abbrev pub is_final : IpFragment → Bool
is_final fragment = not fragment.more

-- position of its first byte in the payload
abbrev pub fragment_start : IpFragment → ℕ
fragment_start fragment = 8 * fragment.offset

-- its end: the position after its last byte
abbrev pub fragment_end : IpFragment → ℕ
fragment_end fragment = fragment_start fragment + length fragment.bytes

-- range of positions that it fills
abbrev pub range_of : IpFragment → IpFragRange
range_of fragment = record { start = fragment_start fragment; end = fragment_end fragment }

-- whether it has a byte at the position
abbrev pub covers : ℕ → IpFragment → Bool
covers position fragment = has_byte position (range_of fragment)

-- whether a fragment of the list has a byte at the position
abbrev pub is_covered : List IpFragment → ℕ → Bool
is_covered fragments position = list_any (covers position) fragments

-- Holds if a fragment of the list has a byte at the position.
abbrev pub IsCovered : List IpFragment → ℕ → Type 0
IsCovered fragments position = IsTrue (is_covered fragments position)

-- whether the position is between the start and the end of a fragment of the list, both included
abbrev pub is_touched : List IpFragment → ℕ → Bool
is_touched fragments position = list_any (λ fragment. touches position (range_of fragment)) fragments

-- greatest end of a fragment, 0 for an empty list
abbrev pub reach_of : List IpFragment → ℕ
reach_of [] = 0
reach_of (fragment ∷ later) = max (fragment_end fragment) (reach_of later)

-- known end of the payload: the end of a final fragment, if there is any
abbrev pub end_of : List IpFragment → Option ℕ
end_of [] = None
end_of (fragment ∷ later) = if fragment.more then end_of later else Some (fragment_end fragment)

-- byte at a position: that of the last fragment that covers it, and 0 if none does
abbrev pub byte_at : List IpFragment → ℕ → ℕ
byte_at [] position = 0
byte_at (fragment ∷ later) position =
    if is_covered later position then byte_at later position
    else if covers position fragment then slice_index fragment.bytes (position - fragment_start fragment)
    else 0

-- bytes reassembled so far: up to the known end, or else to the greatest end
abbrev pub assembled : List IpFragment → List ℕ
assembled fragments = map (byte_at fragments) (range_with_len 0 (unwrap_or (end_of fragments) (reach_of fragments)))

-- whether the end is known and each position below it is covered
abbrev pub is_complete : List IpFragment → Bool
is_complete fragments =
    is_some (end_of fragments) && list_all (is_covered fragments) (range_with_len 0 (unwrap_or (end_of fragments) 0))

-- Holds if the end is known and each position below it is covered.
abbrev pub IsComplete : List IpFragment → Type 0
IsComplete fragments = IsTrue (is_complete fragments)

-- Holds if two lists of fragments fill the same positions with the same bytes, and have the same known end.
pub record FillEqually (fragments others : List IpFragment) : Type 0 where
  pub covered : (position : ℕ) → is_covered fragments position ≡ is_covered others position
  pub contents : assembled fragments ≡ assembled others
  pub end : end_of fragments ≡ end_of others

-- Holds if two lists of fragments touch the same positions.
abbrev pub TouchSamePositions : List IpFragment → List IpFragment → Type 0
TouchSamePositions fragments others = (position : ℕ) → is_touched fragments position ≡ is_touched others position
