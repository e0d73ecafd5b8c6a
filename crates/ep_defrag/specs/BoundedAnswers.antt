-- Answers of a bounded pool as plain data.
use Rattle.std.specs.Prelude.{◌≡◌, Bool, true, false, Option, Some, None, Result, Ok, Err}
use Rattle.std.specs.Option.{option_map}
use Rattle.ep_defrag.specs.declared.ip_defrag_buf.IpDefragBuf.{IpDefragBuf}
use Rattle.ep_defrag.specs.declared.ip_frag_id.IpFragId.{IpFragId}
use Rattle.ep_defrag.specs.declared.ip_defrag_payload_vec.IpDefragPayloadVec.{IpDefragPayloadVec}
use Rattle.ep_defrag.specs.declared.bounded_defrag_error.BoundedDefragError.{BoundedDefragError}
use Rattle.ep_defrag.specs.declared.bounded_defrag_error.BoundedDefragError.TheVariants.{Rejected, Discarded, OverBudget}
use Rattle.ep_defrag.specs.FragmentRefusals.{is_allocation_failure}
use Rattle.ep_defrag.specs.Buffers.{data_of}
use Rattle.ep_defrag.specs.Streams.{source_of}
use Rattle.ep_defrag.specs.Calls.{Payload}
use Rattle.ep_defrag.specs.Pools.{plain_payload}
use Rattle.ep_defrag.specs.BoundedSteps.{BoundedAnswer, fragment_rejected, payload_complete, nothing_complete}

-- the answer to a fragment as plain data
abbrev pub plain_bounded : Result (Option IpDefragPayloadVec) BoundedDefragError → BoundedAnswer
plain_bounded (Ok None) = nothing_complete
plain_bounded (Ok (Some payload)) = payload_complete (plain_payload payload)
plain_bounded (Err error) = fragment_rejected error

-- whether an error is an allocation failure
abbrev pub is_starvation : BoundedDefragError → Bool
is_starvation (Rejected error) = is_allocation_failure error
is_starvation Discarded = false
is_starvation OverBudget = false

-- whether a result is an allocation failure
abbrev pub is_starved : {X : Type 0} → Result X BoundedDefragError → Bool
is_starved (Ok value) = false
is_starved (Err error) = is_starvation error

-- whether the reason of a result is memory: a failed allocation, or `OverBudget`
abbrev pub is_memory_error : {X : Type 0} → Result X BoundedDefragError → Bool
is_memory_error (Ok value) = false
is_memory_error (Err (Rejected error)) = is_allocation_failure error
is_memory_error (Err Discarded) = false
is_memory_error (Err OverBudget) = true

-- payload of a stream, with the bytes of its buffer
abbrev pub payload_held : {C : Type 0} → IpFragId C → IpDefragBuf → Payload
payload_held id buffer = record {
  ip_number = id.payload_ip_number;
  len_source = source_of id.ip;
  bytes = data_of buffer;
}

-- Holds if this is the payload of an open stream, or none of a discarded one.
abbrev pub ReturnsPayload : {C : Type 0} → IpFragId C → Option IpDefragBuf → Option IpDefragPayloadVec → Type 0
ReturnsPayload id None result = result ≡ None
ReturnsPayload id (Some buffer) result = option_map plain_payload result ≡ Some (payload_held id buffer)
