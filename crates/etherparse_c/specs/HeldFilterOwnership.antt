-- Ownership of the object of a filter that C points to.
use Rattle.std.specs.Prelude.{Option, Some, None}
use base.Fml.{Fml, ftrue}
use denote.RawPtr.{Ptr}
use Rattle.std.specs.Box.Ownership.{box_owns}
use Rattle.std.specs.contracts.impls.GlobalAllocator.TheImpl.{ghosts}
use Rattle.std.specs.declared.alloc.Global.{Global}
use Rattle.etherparse_c.specs.contracts.held_filter.HeldFilter.{the_row}
use Rattle.etherparse_c.specs.declared.held_filter.HeldFilter.{HeldFilter}

-- the box at the pointer, if there is a filter
abbrev pub owns_held_filter : Option HeldFilter → Global → Ptr → Fml
owns_held_filter None alloc at = ftrue
owns_held_filter (Some filter) alloc at = box_owns (ghosts.dealloc_token alloc) the_row at filter
