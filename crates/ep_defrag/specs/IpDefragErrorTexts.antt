-- The texts of the errors.
use Rattle.std.specs.Prelude.{ℕ, List, [], ◌∷◌, codes}
use Rattle.std.specs.List.{concat}
use Rattle.std.specs.Fmt.{decimal}
use Rattle.ep_defrag.specs.declared.ip_defrag_error.IpDefragError.{IpDefragError}
use Rattle.ep_defrag.specs.declared.ip_defrag_error.IpDefragError.TheVariants.{UnalignedFragmentPayloadLen}
use Rattle.ep_defrag.specs.declared.ip_defrag_error.IpDefragError.TheVariants.{SegmentTooBig, ConflictingEnd}
use Rattle.ep_defrag.specs.declared.ip_defrag_error.IpDefragError.TheVariants.{AllocationFailure}

-- parts of an error's text; an offset is in units of 8 bytes
abbrev pub error_pieces : IpDefragError → List (List ℕ)
error_pieces (UnalignedFragmentPayloadLen offset payload_len) =
    codes "Payload length " ∷ decimal payload_len
    ∷ codes " of IP fragment (offset " ∷ decimal offset
    ∷ codes ") is not a multiple of 8. This is only allowed for the last fragment packet." ∷ []
error_pieces (SegmentTooBig offset payload_len max) =
    codes "Overall length of IP fragment (offset " ∷ decimal offset
    ∷ codes ", payload len: " ∷ decimal payload_len
    ∷ codes ") bigger then the maximum allowed size of " ∷ decimal max
    ∷ codes "." ∷ []
error_pieces (ConflictingEnd previous_end conflicting_end) =
    codes "Received a IP fragment (offset + len: " ∷ decimal conflicting_end
    ∷ codes ") which conflicts a package that previously set the end to " ∷ decimal previous_end
    ∷ codes "." ∷ []
error_pieces (AllocationFailure len) =
    codes "Failed to allocate " ∷ decimal len
    ∷ codes " bytes of memory to reconstruct the fragmented IP packets." ∷ []

-- bytes of an error's text
abbrev pub error_text : IpDefragError → List ℕ
error_text error = concat (error_pieces error)
