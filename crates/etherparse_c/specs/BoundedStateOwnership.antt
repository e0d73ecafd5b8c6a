-- Ownership of the state that a bounded pool points to.
use Rattle.std.specs.Prelude.{Option, Some, None}
use base.Fml.{Fml, ftrue}
use denote.RawPtr.{Ptr}
use Rattle.std.specs.Box.Ownership.{box_owns}
use Rattle.std.specs.contracts.impls.GlobalAllocator.TheImpl.{ghosts}
use Rattle.std.specs.declared.alloc.Global.{Global}
use Rattle.etherparse_c.specs.contracts.bounded_state.BoundedState.{the_row}
use Rattle.etherparse_c.specs.declared.bounded_state.BoundedState.{BoundedState}

-- the box at the pointer, if there is a state
abbrev pub owns_bounded_state : Option BoundedState → Global → Ptr → Fml
owns_bounded_state None alloc at = ftrue
owns_bounded_state (Some state) alloc at = box_owns (ghosts.dealloc_token alloc) the_row at state
