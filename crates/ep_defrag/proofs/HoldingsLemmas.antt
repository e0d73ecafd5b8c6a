-- Limits and hashes of a table as names leave it.
use Rattle.std.proofs.Common.{◌≡◌, ℕ, ◌≤◌, length, Contains}
use Rattle.std.proofs.Common.{refl, sym, ap, subst, ◌∙◌, arith}
use Rattle.std.specs.Hash.{HashWrites}
use Rattle.std.specs.declared.cmp.PartialEq
use Rattle.std.specs.declared.hash.Hash
use Rattle.std.proofs.lemmas.List.{length-map}
use Rattle.lru_table.specs.declared.slot.Slot.{Slot}
use Rattle.lru_table.specs.LruTable.{Entries, without, with_newest}
use Rattle.ep_defrag.specs.declared.ip_frag_id.IpFragId.{IpFragId}
use Rattle.ep_defrag.specs.declared.held_stream.HeldStream.{HeldStream}
use Rattle.ep_defrag.specs.declared.bounded_limits.DefragLimits.{DefragLimits}
use Rattle.ep_defrag.specs.declared.holdings.Holdings.{Holdings}
use Rattle.ep_defrag.specs.BoundedLimits.{most_names}
use Rattle.ep_defrag.specs.KeyedHashes.{name_hash}
use Rattle.ep_defrag.specs.BoundedNames.{HeldName, names_of, AreHashed, AreWithinLimits}
use Rattle.ep_defrag.specs.BoundedHoldings.{AreLeft}
use Rattle.ep_defrag.proofs.HeldNameLemmas.{Placed, space_in, has_without, has_touched}
use Rattle.ep_defrag.proofs.StreamEntryLemmas.{entry_without, entry_touched}

pub len_of_names : {C : Type 0} (entries : Entries (IpFragId C) HeldStream) → length (names_of entries) ≡ length entries
len_of_names entries = length-map entries (λ e. e.1)

module _ {C : Type 0} {e : PartialEq.Ghosts C} {h : Hash.Ghosts C} where
  -- a table within the limits, by the sums of its holdings
  pub within_by_sums : (limits : DefragLimits) (holdings : Holdings C e h) → length holdings.table ≤ most_names limits
      → holdings.held ≤ limits.bytes → AreWithinLimits limits (names_of holdings.table)
  within_by_sums limits holdings few small = record {
    few = omega (arith, few, len_of_names holdings.table);
    small = omega (arith, small, holdings.room);
  }

  pub few_from : (limits : DefragLimits) (holdings : Holdings C e h) → AreWithinLimits limits (names_of holdings.table)
      → length holdings.table ≤ most_names limits
  few_from limits holdings within = omega (arith, within.few, len_of_names holdings.table)

  pub small_from : (limits : DefragLimits) (holdings : Holdings C e h)
      → AreWithinLimits limits (names_of holdings.table)
      → holdings.held ≤ limits.bytes
  small_from limits holdings within = omega (arith, within.small, holdings.room)

  pub left_same : (holdings : Holdings C e h) → AreLeft holdings holdings
  left_same holdings = record { entries = λ entry inside. inside; few = omega arith; room = omega arith; keys = refl }

  pub left_then : (a b c : Holdings C e h) → AreLeft a b → AreLeft b c → AreLeft a c
  left_then a b c first later = record {
    entries = λ entry inside. first.entries entry (later.entries entry inside);
    few = omega (arith, first.few, later.few);
    room = omega (arith, first.room, later.room);
    keys = later.keys ∙ first.keys;
  }

  pub left_without : (old new : Holdings C e h) (slot : Slot) (name : HeldName C) → Placed old.table slot name
      → new.table ≡ without slot old.table → new.keys ≡ old.keys → AreLeft old new
  left_without old new slot name placed table keys =
      let sums = has_without old.table slot name placed in
      record {
        entries = λ entry inside.
            entry_without old.table slot name placed entry
            (subst (λ (all : Entries (IpFragId C) HeldStream). Contains all entry) table inside);
        few = omega (arith, sums.len, ap {B = ℕ} (λ entries. length entries) table);
        room = omega (arith, sums.room, old.room, new.room, ap {B = ℕ} (λ entries. space_in entries) table);
        keys = keys;
      }

  pub left_touched : (old new : Holdings C e h) (slot : Slot) (name : HeldName C) → Placed old.table slot name
      → new.table ≡ with_newest slot old.table → new.keys ≡ old.keys → AreLeft old new
  left_touched old new slot name placed table keys =
      let sums = has_touched old.table slot name placed in
      record {
        entries = λ entry inside.
            entry_touched old.table slot name placed entry
            (subst (λ (all : Entries (IpFragId C) HeldStream). Contains all entry) table inside);
        few = omega (arith, sums.len, ap {B = ℕ} (λ entries. length entries) table);
        room = omega (arith, sums.room, old.room, new.room, ap {B = ℕ} (λ entries. space_in entries) table);
        keys = keys;
      }

  pub within_left : (limits : DefragLimits) (old new : Holdings C e h) → AreLeft old new
      → AreWithinLimits limits (names_of old.table) → AreWithinLimits limits (names_of new.table)
  within_left limits old new left within =
      within_by_sums limits new (omega (arith, few_from limits old within, left.few))
      (omega (arith, small_from limits old within, left.room))

  pub hashed_left : (channel : C → HashWrites) (old new : Holdings C e h) → AreLeft old new
      → AreHashed channel old.keys old.table → AreHashed channel new.keys new.table
  hashed_left channel old new left hashed = λ entry inside.
      hashed entry (left.entries entry inside)
      ∙ ap (λ keys. name_hash channel keys entry.1.0) (sym left.keys)
