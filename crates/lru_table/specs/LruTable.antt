-- Definitions of the contracts of `LruTable`. They see a table as the list of its entries, the least recently used
-- first.
use Rattle.std.specs.Prelude.{◌≡◌, ℕ, zero, suc, ◌+◌, ◌^◌, ◌<◌, Bool, true, false, cond, ◌==◌, ◌&&◌, List, [], ◌∷◌, ◌++◌, Option, Some, None, Contains}
use Rattle.std.specs.List.{IsDistinct}
use Rattle.std.specs.Option.{option_map, option_map_or}
use Rattle.std.specs.Map.{keys_of, lookup, lookup_entry, remove_entry}
use Rattle.lru_table.specs.declared.slot.Slot.{Slot}
use Rattle.lru_table.specs.declared.lookup.Lookup.{Lookup}
use Rattle.lru_table.specs.declared.lookup.Lookup.TheVariants.{Present, Vacant}

-- whether two slots are equal
abbrev pub same_slot : Slot → Slot → Bool
same_slot a b = (a.hash == b.hash) && (a.number == b.number)

-- a list of entries: each a slot with the key and the value in it
abbrev pub Entries : Type 0 → Type 0 → Type 0
Entries K V = List (Slot × (K × V))

module _ {K V : Type 0} where
  -- the key and the value in a slot, or none if the slot is free
  abbrev pub entry_at : Slot → Entries K V → Option (K × V)
  entry_at slot = lookup (same_slot slot)

  -- the value of the entry that a look-up found, or none if it found none
  abbrev pub found_value : Lookup → Entries K V → Option V
  found_value (Present slot) entries = option_map (λ e. e.1) (entry_at slot entries)
  found_value (Vacant slot) entries = None

  -- an entry is in the slot
  abbrev pub IsTaken : Slot → Entries K V → Type 0
  IsTaken slot entries = (e : K × V) × (entry_at slot entries ≡ Some e)

  -- the entries without the entry in a slot, the others in their order
  abbrev pub without : Slot → Entries K V → Entries K V
  without slot = remove_entry (same_slot slot)

  -- the entries with the entry in a slot last, as the most recently used, the others in their order
  abbrev pub with_newest : Slot → Entries K V → Entries K V
  with_newest slot entries =
      option_map_or (λ e. without slot entries ++ e ∷ []) (lookup_entry (same_slot slot) entries) entries

  -- the entries with another value in a slot; keys, slots and order stay
  abbrev pub with_value : Slot → V → Entries K V → Entries K V
  with_value slot value [] = []
  with_value slot value (e ∷ es) = cond (same_slot slot e.0) ((e.0, (e.1.0, value)) ∷ es) (e ∷ with_value slot value es)

  -- the entries after the least recently used one was touched, n times in turn
  abbrev pub walked : ℕ → Entries K V → Entries K V
  walked zero entries = entries
  walked (suc n) [] = []
  walked (suc n) (e ∷ es) = walked n (with_newest e.0 (e ∷ es))

  -- The key and the value e are in the slot, between the entries before and after, with the values of the definitions
  -- above.
  pub record IsAt (slot : Slot) (before : Entries K V) (e : K × V) (after : Entries K V) (entries : Entries K V) : Type
      0 where
    pub whole : entries ≡ before ++ (slot, e) ∷ after
    pub found : entry_at slot entries ≡ Some e
    pub removed : without slot entries ≡ before ++ after
    pub touched : with_newest slot entries ≡ before ++ after ++ (slot, e) ∷ []
    pub written : (value : V) → with_value slot value entries ≡ before ++ (slot, (e.0, value)) ∷ after

  module _ (eq : K → K → Bool) where
    -- The slot is vacant for the key: it is free, no entry with its hash has an equal key, and its number is not the
    -- greatest.
    pub record IsVacant (entries : Entries K V) (slot : Slot) (key : K) : Type 0 where
      pub free : entry_at slot entries ≡ None
      pub absent : (e : Slot × (K × V)) → Contains entries e → e.0.hash ≡ slot.hash → eq key e.1.0 ≡ false
      pub numbered : slot.number + 1 < 2 ^ 64

    -- an entry with an equal key is in the slot
    abbrev pub IsPresent : Entries K V → Slot → K → Type 0
    IsPresent entries slot key = (e : K × V) × (entry_at slot entries ≡ Some e) × (eq key e.0 ≡ true)

    -- result of `find`: the slot of the hash with an equal key, or the vacant slot of the hash with the least number
    abbrev pub Finds : Entries K V → ℕ → K → Lookup → Type 0
    Finds entries hash key (Present slot) = (slot.hash ≡ hash) × IsPresent entries slot key
    Finds entries hash key (Vacant slot) = (slot.hash ≡ hash) × IsVacant entries slot key
        × ((number : ℕ) → number < slot.number → IsTaken (record { hash = hash; number = number }) entries)

    -- invariant of a table: no two entries are in one slot, and no two entries with equal hashes have equal keys
    pub record IsTable (entries : Entries K V) : Type 0 where
      pub distinct : IsDistinct same_slot (keys_of entries)
      pub unambiguous : (a b : Slot × (K × V)) → Contains entries a → Contains entries b → a.0.hash ≡ b.0.hash
          → eq a.1.0 b.1.0 ≡ true → a.0 ≡ b.0
