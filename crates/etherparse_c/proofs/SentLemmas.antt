-- Ownership of a box on the heap does not depend on the thread, if its content can be sent.
use mir.Raw.{raw}
use base.Fraction.{full_share}
use base.Shift.{Keyless}
use denote.Memory.{lone}
use denote.RattleType.{RattleType}
use denote.RawPtr.{Ptr, block_ptr, null_ptr}
use denote.Param.Send.{IsSend, part_keyless}
use Rattle.std.specs.Box.Ownership.{box_owns}
use Rattle.std.specs.contracts.impls.GlobalAllocator.TheImpl.{ghosts}
use Rattle.std.specs.declared.alloc.Global.{Global}
use Rattle.std.proofs.Crossing.{frees}

pub box_keyless : (R : RattleType) → IsSend R → (alloc : Global) (at : Ptr) (value : R.Denot)
    → Keyless (box_owns (ghosts.dealloc_token alloc) R at value)
box_keyless R sent alloc (block_ptr block offset) value =
    (part_keyless R sent full_share value block offset, frees.frees alloc (raw (lone R.mir)) (block_ptr block offset))
box_keyless R sent alloc null_ptr value = (tt, frees.frees alloc (raw (lone R.mir)) null_ptr)
