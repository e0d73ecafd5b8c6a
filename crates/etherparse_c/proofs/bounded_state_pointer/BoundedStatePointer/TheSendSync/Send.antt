-- The pointer to a state can be sent to another thread.
use base.Shift.{Keyless}
use denote.Param.Send.{IsSend, AllSend, owning_send, sendable}
use denote.Struct.Owning.{fields}
use Rattle.std.proofs.alloc.Global.TheSendSync as heap
use denote.RawPtr.{Ptr}
use Rattle.std.specs.Prelude.{Option, Some, None}
use Rattle.std.specs.declared.alloc.Global.{Global}
use Rattle.etherparse_c.specs.BoundedStateOwnership.{owns_bounded_state}
use Rattle.etherparse_c.specs.contracts.bounded_state_pointer.BoundedStatePointer.{the_row, the_type}
use Rattle.etherparse_c.specs.contracts.bounded_state.BoundedState.{the_row as state_row}
use Rattle.etherparse_c.specs.declared.bounded_state.BoundedState.{BoundedState}
use Rattle.etherparse_c.proofs.bounded_state.BoundedState.TheSendSync as state
use Rattle.etherparse_c.proofs.SentLemmas.{box_keyless}

state_keyless : (content : Option BoundedState) (alloc : Global) (at : Ptr)
    → Keyless (owns_bounded_state content alloc at)
state_keyless None alloc at = tt
state_keyless (Some it) alloc at = box_keyless state_row state.the_send alloc at it

pub send : IsSend the_row
send =
    let all : AllSend (fields the_type) = (search sendable, (heap.the_field_send, tt)) in
    owning_send the_type all (λ d. state_keyless d.state d.alloc d.at) (λ k d w. tt)
