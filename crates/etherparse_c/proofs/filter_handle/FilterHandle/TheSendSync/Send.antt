-- The address of a filter can be sent to another thread.
use base.Shift.{Keyless}
use denote.Param.Send.{IsSend, AllSend, owning_send, sendable}
use denote.Struct.Owning.{fields}
use Rattle.std.proofs.alloc.Global.TheSendSync as heap
use denote.RawPtr.{Ptr}
use Rattle.std.specs.Prelude.{Option, Some, None}
use Rattle.std.specs.declared.alloc.Global.{Global}
use Rattle.etherparse_c.specs.HeldFilterOwnership.{owns_held_filter}
use Rattle.etherparse_c.specs.contracts.filter_handle.FilterHandle.{the_row, the_type}
use Rattle.etherparse_c.specs.contracts.held_filter.HeldFilter.{the_row as kept_row}
use Rattle.etherparse_c.specs.declared.held_filter.HeldFilter.{HeldFilter}
use Rattle.etherparse_c.proofs.held_filter.HeldFilter.TheSendSync as kept
use Rattle.etherparse_c.proofs.SentLemmas.{box_keyless}

filter_keyless : (filter : Option HeldFilter) (alloc : Global) (at : Ptr) → Keyless (owns_held_filter filter alloc at)
filter_keyless None alloc at = tt
filter_keyless (Some it) alloc at = box_keyless kept_row kept.the_send alloc at it

pub send : IsSend the_row
send =
    let all : AllSend (fields the_type) = (search sendable, (heap.the_field_send, tt)) in
    owning_send the_type all (λ d. filter_keyless d.filter d.alloc d.at) (λ k d w. tt)
