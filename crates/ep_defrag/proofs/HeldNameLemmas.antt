-- Sums over the names of a table as names leave, change, move and come.
use Rattle.std.proofs.Common.{◌≡◌, ℕ, ◌+◌, ◌≤◌, cond, is_some, List, [], ◌∷◌, ◌++◌, length, map}
use Rattle.std.proofs.Common.{sym, ap, subst, ◌∙◌, arith}
use Rattle.std.specs.List.{sum_by}
use Rattle.std.proofs.lemmas.List.{map-append, length-append, length-map}
use Rattle.std.proofs.lemmas.List.Sums.{sum_by-cons, sum_by-append, count_by-le-length}
use Rattle.lru_table.specs.declared.slot.Slot.{Slot}
use Rattle.lru_table.specs.LruTable.{Entries, without, with_newest, with_value, IsAt}
use Rattle.ep_defrag.specs.declared.ip_frag_id.IpFragId.{IpFragId}
use Rattle.ep_defrag.specs.declared.held_stream.HeldStream.{HeldStream}
use Rattle.ep_defrag.specs.BoundedNames.{HeldName, names_of, held_room, room_of_names, open_names}

-- 1 for an open stream, 0 for a discarded one
abbrev pub open_once : HeldStream → ℕ
open_once stream = cond (is_some stream.buffer) 1 0

-- ---- sums of any weight
module _ {X Y : Type 0} (g : X → Y) (f : Y → ℕ) where
  abbrev total : List X → ℕ
  total xs = sum_by f (map g xs)

  total-append : (xs ys : List X) → total (xs ++ ys) ≡ total xs + total ys
  total-append xs ys = ap (sum_by f) (map-append g xs ys) ∙ sum_by-append f (map g xs) (map g ys)

  total-between : (before after : List X) (x : X) → total (before ++ x ∷ after) ≡ total before + f (g x) + total after
  total-between before after x =
      omega (arith, total-append before (x ∷ after), sum_by-cons f (g x) (map g after))

  total-one : (x : X) → total (x ∷ []) ≡ f (g x)
  total-one x = omega (arith, sum_by-cons f (g x) [])

-- entries of a table of streams
abbrev pub StreamEntries : Type 0 → Type 0
StreamEntries C = Entries (IpFragId C) HeldStream

-- ---- the sums of a table
module _ {C : Type 0} where
  abbrev pub space_in : StreamEntries C → ℕ
  space_in entries = room_of_names (names_of entries)

  abbrev pub open_in : StreamEntries C → ℕ
  open_in entries = open_names (names_of entries)

  -- The sums of a table are those of others, and a stream.
  pub record HasBeside (entries : StreamEntries C) (stream : HeldStream) (others : StreamEntries C) : Type 0 where
    pub room : space_in entries ≡ held_room stream + space_in others
    pub streams : open_in entries ≡ open_once stream + open_in others
    pub len : length entries ≡ 1 + length others
    pub fit : open_in others ≤ length others

  open-fit : (entries : StreamEntries C) → open_in entries ≤ length entries
  open-fit entries =
      omega (
        arith,
        count_by-le-length (λ name. is_some name.1.buffer) (names_of entries),
        length-map entries
            (λ e. e.1),
      )

  beside : (before after : StreamEntries C) (slot : Slot) (name : HeldName C)
      → HasBeside (before ++ (slot, name) ∷ after) name.1 (before ++ after)
  beside before after slot name = record {
    room = omega (
      arith,
      total-between (λ e. e.1) (λ n. held_room n.1) before after (slot, name),
      total-append (λ e. e.1) (λ n. held_room n.1) before after,
    );
    streams = omega (
      arith,
      total-between (λ e. e.1) (λ n. open_once n.1) before after (slot, name),
      total-append (λ e. e.1) (λ n. open_once n.1) before after,
    );
    len = omega (arith, length-append before ((slot, name) ∷ after), length-append before after);
    fit = open-fit (before ++ after);
  }

  -- The law `places` of a table, for a slot with an entry.
  abbrev pub Placed : StreamEntries C → Slot → HeldName C → Type 0
  Placed entries slot name = (before : StreamEntries C) × (after : StreamEntries C)
      × IsAt slot before name after entries
      × ((stream : HeldStream) → IsAt slot before (name.0, stream) after (with_value slot stream entries))

  -- sums of a table without an entry
  pub has_without : (entries : StreamEntries C) (slot : Slot) (name : HeldName C) → Placed entries slot name
      → HasBeside entries name.1 (without slot entries)
  has_without entries slot name placed =
      let at = placed.2 in
      rw (at.removed) (subst (λ all. HasBeside all name.1 (placed.0 ++ placed.1)) (sym at.whole)
      (beside placed.0 placed.1 slot name))

  -- sums of a table after a stream was written
  pub has_written : (entries : StreamEntries C) (slot : Slot) (name : HeldName C) (stream : HeldStream)
      → Placed entries slot name
      → HasBeside (with_value slot stream entries) stream (without slot entries)
  has_written entries slot name stream placed =
      let at = placed.2 in
      rw (at.removed, at.written stream) (beside placed.0 placed.1 slot (name.0, stream))

  -- sums of a table after an entry became the newest
  pub record HasSame (entries others : StreamEntries C) : Type 0 where
    pub room : space_in entries ≡ space_in others
    pub streams : open_in entries ≡ open_in others
    pub len : length entries ≡ length others

  pub has_touched : (entries : StreamEntries C) (slot : Slot) (name : HeldName C) → Placed entries slot name
      → HasSame (with_newest slot entries) entries
  has_touched entries slot name placed =
      let at = placed.2 in
      let before = placed.0 in
      let after = placed.1 in
      rw (at.touched) (subst (HasSame (before ++ after ++ (slot, name) ∷ [])) (sym at.whole) (record {
        room = omega (
          arith,
          total-between (λ e. e.1) (λ n. held_room n.1) before after (slot, name),
          total-append (λ e. e.1) (λ n. held_room n.1) (before ++ after) ((slot, name) ∷ []),
          total-append (λ e. e.1) (λ n. held_room n.1) before after,
          total-one (λ (e : Slot × HeldName C). e.1) (λ n. held_room n.1) (slot, name),
        );
        streams = omega (
          arith,
          total-between (λ e. e.1) (λ n. open_once n.1) before after (slot, name),
          total-append (λ e. e.1) (λ n. open_once n.1) (before ++ after) ((slot, name) ∷ []),
          total-append (λ e. e.1) (λ n. open_once n.1) before after,
          total-one (λ (e : Slot × HeldName C). e.1) (λ n. open_once n.1) (slot, name),
        );
        len = omega (
          arith,
          length-append before ((slot, name) ∷ after),
          length-append (before ++ after) ((slot, name) ∷ []),
          length-append before after,
        );
      }))

  -- sums of a table with a new entry
  pub has_pushed : (entries : StreamEntries C) (slot : Slot) (name : HeldName C)
      → HasBeside (entries ++ (slot, name) ∷ []) name.1 entries
  has_pushed entries slot name = record {
    room = omega (
      arith,
      total-append (λ e. e.1) (λ n. held_room n.1) entries ((slot, name) ∷ []),
      total-one (λ (e : Slot × HeldName C). e.1) (λ n. held_room n.1) (slot, name),
    );
    streams = omega (
      arith,
      total-append (λ e. e.1) (λ n. open_once n.1) entries ((slot, name) ∷ []),
      total-one (λ (e : Slot × HeldName C). e.1) (λ n. open_once n.1) (slot, name),
    );
    len = omega (arith, length-append entries ((slot, name) ∷ []));
    fit = open-fit entries;
  }
