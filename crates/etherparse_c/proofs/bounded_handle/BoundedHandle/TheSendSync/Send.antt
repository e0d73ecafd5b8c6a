-- The address of a pool can be sent to another thread.
use base.Shift.{Keyless}
use denote.Param.Send.{IsSend, AllSend, owning_send, sendable}
use denote.Struct.Owning.{fields}
use Rattle.std.proofs.alloc.Global.TheSendSync as heap
use denote.RawPtr.{Ptr}
use Rattle.std.specs.Prelude.{Option, Some, None}
use Rattle.std.specs.declared.alloc.Global.{Global}
use Rattle.etherparse_c.specs.BoundedPoolOwnership.{owns_bounded_pool}
use Rattle.etherparse_c.specs.contracts.bounded_handle.BoundedHandle.{the_row, the_type}
use Rattle.etherparse_c.specs.contracts.bounded_pool.BoundedPool.{the_row as pool_row}
use Rattle.etherparse_c.specs.declared.bounded_pool.BoundedPool.{BoundedPool}
use Rattle.etherparse_c.proofs.bounded_pool.BoundedPool.TheSendSync as pool
use Rattle.etherparse_c.proofs.SentLemmas.{box_keyless}

pool_keyless : (pool : Option BoundedPool) (alloc : Global) (at : Ptr) → Keyless (owns_bounded_pool pool alloc at)
pool_keyless None alloc at = tt
pool_keyless (Some it) alloc at = box_keyless pool_row pool.the_send alloc at it

pub send : IsSend the_row
send =
    let all : AllSend (fields the_type) = (search sendable, (heap.the_field_send, tt)) in
    owning_send the_type all (λ d. pool_keyless d.pool d.alloc d.at) (λ k d w. tt)
