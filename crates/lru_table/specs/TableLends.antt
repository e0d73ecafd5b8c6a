-- The table at the end of a reference into it.
use Rattle.std.specs.Prelude.{Bool, Option}
use Rattle.std.specs.Borrow.{Fml, RattleType, MutBor, LendsIf}
use Rattle.lru_table.specs.declared.slot.Slot.{Slot}
use Rattle.lru_table.specs.LruTable.{Entries, with_value}
use Rattle.lru_table.specs.contracts.table.LruTable.{the_row}

-- The entry in the slot has the last value written through r. At `None` the table stays as it is.
abbrev pub lends_value : (K V : RattleType) → (K.Denot → K.Denot → Bool) → MutBor (Entries K.Denot V.Denot) → Slot
    → Option (MutBor V.Denot) → Fml
lends_value K V eq table slot r =
    LendsIf (the_row K V (record { eq = eq })) V table r (λ value. with_value slot value table.now) table.now
