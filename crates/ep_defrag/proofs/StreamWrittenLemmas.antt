-- Sums of a table after the stream of a name changed.
use Rattle.std.proofs.Common.{◌≡◌, ℕ, ◌+◌, ◌-◌, ◌≤◌, length}
use Rattle.std.proofs.Common.{sym, subst, ◌∙◌, arith}
use Rattle.std.specs.Prelude.{vec_capacity}
use Rattle.std.specs.declared.cmp.PartialEq
use Rattle.std.specs.declared.hash.Hash
use Rattle.std.proofs.lemmas.List.{length-map}
use Rattle.lru_table.specs.declared.slot.Slot.{Slot}
use Rattle.lru_table.specs.LruTable.{without, with_value}
use Rattle.ep_defrag.specs.declared.held_stream.HeldStream.{HeldStream}
use Rattle.ep_defrag.specs.declared.bounded_limits.DefragLimits.{DefragLimits}
use Rattle.ep_defrag.specs.declared.holdings.Holdings.{Holdings}
use Rattle.ep_defrag.specs.BoundedCounts.{AddUp}
use Rattle.ep_defrag.specs.BoundedNames.{HeldName, names_of, held_room, AreWithinLimits}
use Rattle.ep_defrag.proofs.HeldNameLemmas.{StreamEntries, Placed, space_in, open_in, open_once, has_without, has_written}

module _ {C : Type 0} (entries : StreamEntries C) (slot : Slot) (name : HeldName C) (stream : HeldStream)
    (placed : Placed entries slot name) where
  -- The sums after the stream was written, beside those before.
  pub record WrittenSums : Type 0 where
    pub room : space_in (with_value slot stream entries) + held_room name.1 ≡ space_in entries + held_room stream
    pub streams : open_in (with_value slot stream entries) + open_once name.1 ≡ open_in entries + open_once stream
    pub len : length (with_value slot stream entries) ≡ length entries
    pub small : held_room name.1 ≤ space_in entries
    pub some : open_once name.1 ≤ open_in entries

  pub written_sums : WrittenSums
  written_sums =
      let old = has_without entries slot name placed in
      let new = has_written entries slot name stream placed in
      record {
        room = omega (arith, old.room, new.room);
        streams = omega (arith, old.streams, new.streams);
        len = omega (arith, old.len, new.len);
        small = omega (arith, old.room);
        some = omega (arith, old.streams);
      }

  -- The limits hold as before if the stream does not grow.
  pub within_written : (limits : DefragLimits) → held_room stream ≤ held_room name.1
      → AreWithinLimits limits (names_of entries)
      → AreWithinLimits limits (names_of (with_value slot stream entries))
  within_written limits less within =
      let sums = written_sums in
      record {
        few = omega (
          arith,
          within.few,
          sums.len,
          length-map entries (λ e. e.1),
          length-map (with_value slot stream entries) (λ e. e.1),
        );
        small = omega (arith, within.small, sums.room, less);
      }

  -- They hold without the name.
  pub within_without : (limits : DefragLimits) → AreWithinLimits limits (names_of entries)
      → AreWithinLimits limits (names_of (without slot (with_value slot stream entries)))
  within_without limits within =
      let old = has_without entries slot name placed in
      let same : without slot (with_value slot stream entries) ≡ without slot entries =
      (placed.3 stream).removed ∙ sym placed.2.removed in
      subst (λ (left : StreamEntries C). AreWithinLimits limits (names_of left)) (sym same) (record {
        few = omega (
          arith,
          within.few,
          old.len,
          length-map entries (λ e. e.1),
          length-map (without slot entries) (λ e. e.1),
        );
        small = omega (arith, within.small, old.room);
      })

module _ {C : Type 0} {e : PartialEq.Ghosts C} {h : Hash.Ghosts C} (self : Holdings C e h) (slot : Slot)
    (name : HeldName C)
    (stream : HeldStream) (placed : Placed self.table slot name) where
  -- The invariant of the holdings after the stream was written, whose memory was `before` bytes, and is `now` bytes.
  pub record WrittenHoldings (before now : ℕ) : Type 0 where
    pub room : self.held - before + now ≡ space_in (with_value slot stream self.table)
    pub states : open_in (with_value slot stream self.table) + self.discarded ≡ length
        (with_value slot stream self.table)
    pub reportable : length (with_value slot stream self.table) ≤ vec_capacity self.evicted
    pub sums : AddUp self.statistics (open_in (with_value slot stream self.table))

  pub written_holdings : (before now : ℕ) → before ≡ held_room name.1 → now ≡ held_room stream
      → open_once stream ≡ open_once name.1 → WrittenHoldings before now
  written_holdings before now was is once =
      let sums = written_sums self.table slot name stream placed in
      let opens : open_in self.table ≡ open_in (with_value slot stream self.table) =
      omega (arith, sums.streams, once) in
      record {
        room = omega (arith, sums.room, sums.small, self.room, was, is);
        states = omega (arith, opens, sums.len, self.states);
        reportable = omega (arith, sums.len, self.reportable);
        sums = subst (AddUp self.statistics) opens self.sums;
      }
