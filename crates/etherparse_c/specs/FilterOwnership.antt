-- Ownership of the filter that the object of C points to.
use Rattle.std.specs.Prelude.{List, Option, Some, None}
use base.Fml.{Fml, ftrue}
use denote.RawPtr.{Ptr}
use Rattle.std.specs.Box.Ownership.{box_owns}
use Rattle.std.specs.contracts.impls.GlobalAllocator.TheImpl.{ghosts}
use Rattle.std.specs.declared.alloc.Global.{Global}
use Rattle.packet_filter.specs.contracts.filter.Filter.{the_row}
use Rattle.packet_filter.specs.Step.{Step}

-- the box at the pointer, if there is a filter
abbrev pub owns_filter : Option (List Step) → Global → Ptr → Fml
owns_filter None alloc at = ftrue
owns_filter (Some filter) alloc at = box_owns (ghosts.dealloc_token alloc) the_row at filter
