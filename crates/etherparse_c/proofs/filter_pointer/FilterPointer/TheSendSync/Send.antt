-- The pointer to a filter can be sent to another thread.
use base.Shift.{Keyless}
use denote.Param.Send.{IsSend, AllSend, owning_send, sendable}
use denote.Struct.Owning.{fields}
use Rattle.std.proofs.alloc.Global.TheSendSync as heap
use denote.RawPtr.{Ptr}
use Rattle.std.specs.Prelude.{List, Option, Some, None}
use Rattle.std.specs.declared.alloc.Global.{Global}
use Rattle.etherparse_c.specs.FilterOwnership.{owns_filter}
use Rattle.etherparse_c.specs.contracts.filter_pointer.FilterPointer.{the_row, the_type}
use Rattle.packet_filter.specs.contracts.filter.Filter.{the_row as filter_row}
use Rattle.packet_filter.specs.Step.{Step}
use Rattle.packet_filter.proofs.filter.Filter.TheSendSync as filter
use Rattle.etherparse_c.proofs.SentLemmas.{box_keyless}

filter_keyless : (content : Option (List Step)) (alloc : Global) (at : Ptr) → Keyless (owns_filter content alloc at)
filter_keyless None alloc at = tt
filter_keyless (Some it) alloc at = box_keyless filter_row filter.the_send alloc at it

pub send : IsSend the_row
send =
    let all : AllSend (fields the_type) = (search sendable, (heap.the_field_send, tt)) in
    owning_send the_type all (λ d. filter_keyless d.filter d.alloc d.at) (λ k d w. tt)
