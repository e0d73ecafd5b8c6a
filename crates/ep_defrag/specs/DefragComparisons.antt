-- The order of the public types: by their fields as declared, the first that differs decides.
use Rattle.std.specs.Prelude.{ℕ, List, [], ◌∷◌}
use Rattle.std.specs.declared.cmp.Ordering.{Ordering}
use Rattle.std.specs.Ordering.{nat_cmp, ordering_then}
use Rattle.std.specs.Option.{option_cmp}
use Rattle.std.specs.Cmp.Lexicographic.{slice_cmp}
use Rattle.ep_defrag.specs.declared.ip_frag_range.IpFragRange.{IpFragRange}
use Rattle.ep_defrag.specs.declared.ip_defrag_buf.IpDefragBuf.{IpDefragBuf}
use Rattle.ep_defrag.specs.declared.ip_defrag_error.IpDefragError.{IpDefragError}
use Rattle.ep_defrag.specs.declared.ip_defrag_error.IpDefragError.TheVariants.{UnalignedFragmentPayloadLen}
use Rattle.ep_defrag.specs.declared.ip_defrag_error.IpDefragError.TheVariants.{SegmentTooBig, ConflictingEnd}
use Rattle.ep_defrag.specs.declared.ip_defrag_error.IpDefragError.TheVariants.{AllocationFailure}
use Rattle.ep_defrag.specs.Buffers.{ip_number_of, data_of, sections_of, known_end_of}

-- order of ranges: by start, then by end
abbrev pub range_cmp : IpFragRange → IpFragRange → Ordering
range_cmp a b = ordering_then (nat_cmp a.start b.start) (nat_cmp a.end b.end)

-- order of buffers: by protocol number, data, sections and known end, no end before any
abbrev pub buffer_cmp : IpDefragBuf → IpDefragBuf → Ordering
buffer_cmp a b =
    ordering_then (nat_cmp (ip_number_of a).0 (ip_number_of b).0)
    (ordering_then (slice_cmp nat_cmp (data_of a) (data_of b))
    (ordering_then (slice_cmp range_cmp (sections_of a) (sections_of b))
    (option_cmp nat_cmp (known_end_of a) (known_end_of b))))

-- number of an error among the errors, followed by its fields
abbrev pub error_numbers : IpDefragError → List ℕ
error_numbers (UnalignedFragmentPayloadLen offset payload_len) = 0 ∷ offset ∷ payload_len ∷ []
error_numbers (SegmentTooBig offset payload_len max) = 1 ∷ offset ∷ payload_len ∷ max ∷ []
error_numbers (ConflictingEnd previous_end conflicting_end) = 2 ∷ previous_end ∷ conflicting_end ∷ []
error_numbers (AllocationFailure len) = 3 ∷ len ∷ []

-- order of errors: by these numbers
abbrev pub error_cmp : IpDefragError → IpDefragError → Ordering
error_cmp a b = slice_cmp nat_cmp (error_numbers a) (error_numbers b)
