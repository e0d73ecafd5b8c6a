-- Ownership of the state that a pool points to.
use Rattle.std.specs.Prelude.{Option, Some, None}
use base.Fml.{Fml, ftrue}
use denote.RawPtr.{Ptr}
use Rattle.std.specs.Box.Ownership.{box_owns}
use Rattle.std.specs.contracts.impls.GlobalAllocator.TheImpl.{ghosts}
use Rattle.std.specs.declared.alloc.Global.{Global}
use Rattle.etherparse_c.specs.contracts.state.State.{the_row}
use Rattle.etherparse_c.specs.declared.state.State.{State}

-- the box at the pointer, if there is a state
abbrev pub owns_state : Option State → Global → Ptr → Fml
owns_state None alloc at = ftrue
owns_state (Some state) alloc at = box_owns (ghosts.dealloc_token alloc) the_row at state
