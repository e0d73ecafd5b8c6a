-- Fragments that overlap accepted ones, and the bytes that a pool keeps of them.
use Rattle.std.specs.Prelude.{ℕ, ◌-◌, min, max, Bool, true, false, not, ◌&&◌, ◌==◌, nat_le, nat_lt, if◌then◌else◌}
use Rattle.std.specs.Prelude.{Option, Some, None}
use Rattle.std.specs.Prelude.{List, [], ◌∷◌, ◌++◌, length, map, slice_index}
use Rattle.std.specs.List.{list_any, list_all, range_with_len}
use Rattle.ep_defrag.specs.declared.ip_defrag_error.IpDefragError.{IpDefragError}
use Rattle.ep_defrag.specs.declared.ip_defrag_error.IpDefragError.TheVariants.{UnalignedFragmentPayloadLen}
use Rattle.ep_defrag.specs.declared.ip_defrag_error.IpDefragError.TheVariants.{SegmentTooBig, ConflictingEnd}
use Rattle.ep_defrag.specs.declared.ip_defrag_error.IpDefragError.TheVariants.{AllocationFailure}
use Rattle.ep_defrag.specs.declared.bounded_limits.OverlapPolicy.{OverlapPolicy}
use Rattle.ep_defrag.specs.declared.bounded_limits.OverlapPolicy.TheVariants.{LastWins, FirstWins, Discard}
use Rattle.ep_defrag.specs.declared.ip_frag_range.IpFragRange.{IpFragRange}
use Rattle.ep_defrag.specs.Ranges.{has_byte}
use Rattle.ep_defrag.specs.IpFragments.{IpFragment, fragment_start, covers, is_covered, byte_at}

-- ---- overlaps

-- positions of a fragment's bytes in the payload
abbrev pub positions_of : IpFragment → List ℕ
positions_of fragment = range_with_len (fragment_start fragment) (length fragment.bytes)

-- its byte at one of them
abbrev pub byte_of : IpFragment → ℕ → ℕ
byte_of fragment position = slice_index fragment.bytes (position - fragment_start fragment)

-- whether it has a byte at a position that the accepted ones cover
abbrev pub shares_position : List IpFragment → IpFragment → Bool
shares_position accepted fragment = list_any (is_covered accepted) (positions_of fragment)

-- whether it only repeats bytes of the accepted ones
abbrev pub repeats_bytes : List IpFragment → IpFragment → Bool
repeats_bytes accepted fragment =
    list_all (λ position. is_covered accepted position && byte_at accepted position == byte_of fragment position)
    (positions_of fragment)

-- whether it overlaps the accepted ones, and does not only repeat their bytes (RFC 8200, 4.5 and RFC 5722, 4)
abbrev pub contradicts : List IpFragment → IpFragment → Bool
contradicts accepted fragment = shares_position accepted fragment && not (repeats_bytes accepted fragment)

-- whether two ranges have a position of a byte in common
abbrev pub overlap : IpFragRange → IpFragRange → Bool
overlap a b = nat_lt (max a.start b.start) (min a.end b.end)

-- whether the first range has each position of the second
abbrev pub includes : IpFragRange → IpFragRange → Bool
includes a b = nat_le a.start b.start && nat_le b.end a.end

-- ---- which bytes are kept

-- whether a range has the position, and no section has it
abbrev pub is_missing : List IpFragRange → IpFragRange → ℕ → Bool
is_missing sections range position = has_byte position range && not (list_any (has_byte position) sections)

-- contents after the bytes of a range are written at the positions that no section has, with zeros in a gap before them
abbrev pub data_with_missing : List ℕ → List IpFragRange → IpFragRange → List ℕ → List ℕ
data_with_missing contents sections range bytes =
    map (λ position. if is_missing sections range position then slice_index bytes (position - range.start)
    else slice_index contents position)
    (range_with_len 0 (max (length contents) range.end))

-- fragment with the bytes of the accepted ones in place of its own, at the positions that they cover
abbrev pub yielding : List IpFragment → IpFragment → IpFragment
yielding accepted fragment = record fragment {
  bytes = map (λ position. if is_covered accepted position then byte_at accepted position else byte_of fragment
      position)
      (positions_of fragment);
}

-- fragment as a pool with this policy keeps it, after the earlier ones that it keeps
abbrev pub kept_as : OverlapPolicy → List IpFragment → IpFragment → IpFragment
kept_as LastWins earlier fragment = fragment
kept_as FirstWins earlier fragment = yielding earlier fragment
kept_as Discard earlier fragment = fragment

-- accepted fragments as a pool with this policy keeps them, after the earlier ones
abbrev pub all_kept_after : OverlapPolicy → List IpFragment → List IpFragment → List IpFragment
all_kept_after policy earlier [] = earlier
all_kept_after policy earlier (fragment ∷ later) =
    all_kept_after policy (earlier ++ kept_as policy earlier fragment ∷ []) later

-- accepted fragments as a pool with this policy keeps them: its payload is `assembled` of these
abbrev pub all_kept : OverlapPolicy → List IpFragment → List IpFragment
all_kept policy accepted = all_kept_after policy [] accepted

-- byte of the first fragment that covers a position, and 0 if none does
abbrev pub first_byte_at : List IpFragment → ℕ → ℕ
first_byte_at [] position = 0
first_byte_at (fragment ∷ later) position =
    if covers position fragment then byte_of fragment position else first_byte_at later position

-- ---- what discards a stream

-- whether the error is a conflict with the end of the payload
abbrev pub is_conflicting_end : IpDefragError → Bool
is_conflicting_end (UnalignedFragmentPayloadLen offset payload_len) = false
is_conflicting_end (SegmentTooBig offset payload_len max) = false
is_conflicting_end (ConflictingEnd previous_end conflicting_end) = true
is_conflicting_end (AllocationFailure len) = false

-- whether a fragment discards its stream, given its error in the refusal table, if any, and whether it contradicts the
-- accepted fragments: only under `Discard`, for a conflict of ends or of bytes
abbrev pub discards_stream : OverlapPolicy → Option IpDefragError → Bool → Bool
discards_stream LastWins error contradicting = false
discards_stream FirstWins error contradicting = false
discards_stream Discard None contradicting = contradicting
discards_stream Discard (Some error) contradicting = is_conflicting_end error
