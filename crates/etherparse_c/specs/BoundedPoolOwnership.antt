-- Ownership of the bounded pool that C points to.
use Rattle.std.specs.Prelude.{Option, Some, None}
use base.Fml.{Fml, ftrue}
use denote.RawPtr.{Ptr}
use Rattle.std.specs.Box.Ownership.{box_owns}
use Rattle.std.specs.contracts.impls.GlobalAllocator.TheImpl.{ghosts}
use Rattle.std.specs.declared.alloc.Global.{Global}
use Rattle.etherparse_c.specs.contracts.bounded_pool.BoundedPool.{the_row}
use Rattle.etherparse_c.specs.declared.bounded_pool.BoundedPool.{BoundedPool}

-- the box at the pointer, if there is a pool
abbrev pub owns_bounded_pool : Option BoundedPool → Global → Ptr → Fml
owns_bounded_pool None alloc at = ftrue
owns_bounded_pool (Some pool) alloc at = box_owns (ghosts.dealloc_token alloc) the_row at pool
