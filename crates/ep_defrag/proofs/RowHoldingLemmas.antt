-- Rows of a bounded pool's table beside the names that it holds: the place of a name's row, and the rows without it.
use Rattle.std.proofs.Common.{◌≡◌, ℕ, Bool, true, false, not, cond, List, [], ◌∷◌, ◌++◌, Some, None, Contains}
use Rattle.std.proofs.Common.{refl, ap, subst, inl, inr, arith}
use Rattle.std.specs.List.{AllZip, AllByRecursion, filter, count_by}
use Rattle.std.proofs.lemmas.Bool.{cases_Bool}
use Rattle.std.proofs.lemmas.List.Sums.{sum_by-cons, sum_by-append}
use Rattle.std.proofs.lemmas.List.Elements.{Contains-append_right}
use Rattle.lru_table.specs.declared.slot.Slot.{Slot}
use Rattle.lru_table.specs.LruTable.{Entries}
use Rattle.ep_defrag.specs.declared.ip_frag_id.IpFragId.{IpFragId}
use Rattle.ep_defrag.specs.declared.held_stream.HeldStream.{HeldStream}
use Rattle.ep_defrag.specs.declared.bounded_limits.DefragLimits.{DefragLimits}
use Rattle.ep_defrag.specs.Streams.{same_stream}
use Rattle.ep_defrag.specs.BoundedSteps.{Row, row_named, other_rows, discarded_row, rows_discarding, is_expired, expires_for}
use Rattle.ep_defrag.specs.BoundedNames.{HeldName, names_of, HoldsRow, HoldsNames}
use Rattle.ep_defrag.proofs.StreamEntryLemmas.{first_is}

-- ---- two lists side by side
module _ {X Y : Type 0} (R : X → Y → Type 0) where
  pub zip_append : (xs more : List X) (ys rest : List Y) → AllZip R xs ys → AllZip R more rest
      → AllZip R (xs ++ more) (ys ++ rest)
  zip_append [] more [] rest first later = later
  zip_append [] more (y ∷ ys) rest first later = absurd first
  zip_append (x ∷ xs) more [] rest first later = absurd first
  zip_append (x ∷ xs) more (y ∷ ys) rest first later = (first.0, zip_append xs more ys rest first.1 later)

  -- The second list has these parts beside the parts of the first.
  pub record SplitsAt (xs : List X) (x : X) (more : List X) (ys : List Y) : Type 0 where
    pub before : List Y
    pub own : Y
    pub after : List Y
    pub whole : ys ≡ before ++ own ∷ after
    pub first : AllZip R xs before
    pub middle : R x own
    pub later : AllZip R more after

  pub zip_split : (xs : List X) (x : X) (more : List X) (ys : List Y) → AllZip R (xs ++ x ∷ more) ys
      → SplitsAt xs x more ys
  zip_split [] x more [] all = absurd all
  zip_split [] x more (y ∷ ys) all = record {
    before = [];
    own = y;
    after = ys;
    whole = refl;
    first = tt;
    middle = all.0;
    later = all.1;
  }
  zip_split (w ∷ xs) x more [] all = absurd all
  zip_split (w ∷ xs) x more (y ∷ ys) all =
      let rest = zip_split xs x more ys all.1 in
      record {
        before = y ∷ rest.before;
        own = rest.own;
        after = rest.after;
        whole = ap (λ others. y ∷ others) rest.whole;
        first = (all.0, rest.first);
        middle = rest.middle;
        later = rest.later;
      }

-- ---- the row of a name
module _ {C : Type 0} (eq : C → C → Bool) (name : IpFragId C) where
  abbrev pub is_own : Row C → Bool
  is_own row = same_stream eq row.id name

  -- Holds if no row has the name.
  abbrev pub AreOthers : List (Row C) → Type 0
  AreOthers rows = AllByRecursion (λ row. same_stream eq row.id name ≡ false) rows

  -- A table without the name.
  pub record LacksName (rows : List (Row C)) : Type 0 where
    pub named : row_named eq name rows ≡ None
    pub others : other_rows eq name rows ≡ rows
    pub own : filter is_own rows ≡ []
    pub discarding : rows_discarding eq name rows ≡ rows

  pub lacks_name : (rows : List (Row C)) → AreOthers rows → LacksName rows
  lacks_name [] others = record { named = refl; others = refl; own = refl; discarding = refl }
  lacks_name (row ∷ rows) others =
      let rest = lacks_name rows others.1 in
      record {
        named = rw others.0 rest.named;
        others = rw others.0 (ap (λ more. row ∷ more) rest.others);
        own = rw others.0 rest.own;
        discarding = rw others.0 (ap (λ more. row ∷ more) rest.discarding);
      }

  -- A table that has the name between these rows.
  pub record HasName (before : List (Row C)) (row : Row C) (after : List (Row C)) : Type 0 where
    pub named : row_named eq name (before ++ row ∷ after) ≡ Some row
    pub others : other_rows eq name (before ++ row ∷ after) ≡ before ++ after
    pub own : filter is_own (before ++ row ∷ after) ≡ row ∷ []
    pub discarding : rows_discarding eq name (before ++ row ∷ after) ≡ before ++ discarded_row row ∷ after

  pub has_name : (before : List (Row C)) (row : Row C) (after : List (Row C)) → AreOthers before → is_own row ≡ true
      → AreOthers after → HasName before row after
  has_name [] row after earlier alike later =
      let rest = lacks_name after later in
      record {
        named = rw alike refl;
        others = rw alike rest.others;
        own = rw alike (ap (λ more. row ∷ more) rest.own);
        discarding = rw alike (ap (λ more. discarded_row row ∷ more) rest.discarding);
      }
  has_name (first ∷ before) row after earlier alike later =
      let rest = has_name before row after earlier.1 alike later in
      record {
        named = rw earlier.0 rest.named;
        others = rw earlier.0 (ap (λ more. first ∷ more) rest.others);
        own = rw earlier.0 rest.own;
        discarding = rw earlier.0 (ap (λ more. first ∷ more) rest.discarding);
      }

  -- ---- expiry of the name
  module _ (limits : DefragLimits) (now : ℕ) where
    -- rows that stay at a fragment of the name
    abbrev pub unexpired : List (Row C) → List (Row C)
    unexpired rows = filter (λ row. not (expires_for limits eq now name row)) rows

    -- rows that expire at it
    abbrev pub expired : List (Row C) → List (Row C)
    expired rows = filter (expires_for limits eq now name) rows

    pub record Expires (rows left lost : List (Row C)) : Type 0 where
      pub stay : unexpired rows ≡ left
      pub gone : expired rows ≡ lost

    pub others_stay : (rows : List (Row C)) → AreOthers rows → Expires rows rows []
    others_stay [] others = record { stay = refl; gone = refl }
    others_stay (row ∷ rows) others =
        let rest = others_stay rows others.1 in
        record { stay = rw others.0 (ap (λ more. row ∷ more) rest.stay); gone = rw others.0 rest.gone }

    pub own_expires : (before : List (Row C)) (row : Row C) (after : List (Row C)) → AreOthers before
        → is_own row ≡ true → AreOthers after → is_expired limits now row ≡ true
        → Expires (before ++ row ∷ after) (before ++ after) (row ∷ [])
    own_expires [] row after earlier alike later old =
        let rest = others_stay after later in
        record { stay = rw (alike, old) rest.stay; gone = rw (alike, old) (ap (λ more. row ∷ more) rest.gone) }
    own_expires (first ∷ before) row after earlier alike later old =
        let rest = own_expires before row after earlier.1 alike later old in
        record { stay = rw earlier.0 (ap (λ more. first ∷ more) rest.stay); gone = rw earlier.0 rest.gone }

    pub own_stays : (before : List (Row C)) (row : Row C) (after : List (Row C)) → AreOthers before
        → is_own row ≡ true → AreOthers after → is_expired limits now row ≡ false
        → Expires (before ++ row ∷ after) (before ++ row ∷ after) []
    own_stays [] row after earlier alike later young =
        let rest = others_stay after later in
        record { stay = rw (alike, young) (ap (λ more. row ∷ more) rest.stay); gone = rw (alike, young) rest.gone }
    own_stays (first ∷ before) row after earlier alike later young =
        let rest = own_stays before row after earlier.1 alike later young in
        record { stay = rw earlier.0 (ap (λ more. first ∷ more) rest.stay); gone = rw earlier.0 rest.gone }

  -- ---- rows beside names
  abbrev pub is_named : HeldName C → Bool
  is_named held_name = same_stream eq held_name.0 name

  -- Holds if none of these names is the name.
  abbrev pub HoldOthers : List (HeldName C) → Type 0
  HoldOthers names = AllByRecursion (λ held_name. same_stream eq held_name.0 name ≡ false) names

  pub others_beside : (limits : DefragLimits) (names : List (HeldName C)) (rows : List (Row C))
      → AllZip (HoldsRow limits) names rows → HoldOthers names → AreOthers rows
  others_beside limits [] [] all others = tt
  others_beside limits [] (row ∷ rows) all others = absurd all
  others_beside limits (held_name ∷ names) [] all others = absurd all
  others_beside limits (held_name ∷ names) (row ∷ rows) all others = (
    subst (λ (id : IpFragId C). same_stream eq id name ≡ false) all.0.id others.0,
    others_beside limits names rows all.1 others.1,
  )

  others_from_count : (names : List (HeldName C)) → count_by is_named names ≡ 0 → HoldOthers names
  others_from_count [] none = tt
  others_from_count (held_name ∷ names) none =
      let first = sum_by-cons (λ (one : HeldName C). cond (is_named one) 1 0) held_name names in
      elim (cases_Bool (is_named held_name)) [
        | inl alike ↦ absurd (omega (arith, none, first, ap {B = ℕ} (λ b. cond b 1 0) alike))
        | inr differs ↦
            (differs, others_from_count names (omega (arith, none, first, ap {B = ℕ} (λ b. cond b 1 0) differs)))
      ]

  -- The row of a name that is in the table, and the rows before and after it.
  pub record FindsRow (limits : DefragLimits) (before : List (HeldName C)) (held_name : HeldName C)
      (after : List (HeldName C)) (rows : List (Row C)) : Type 0 where
    pub at : SplitsAt (HoldsRow limits) before held_name after rows
    pub earlier : AreOthers at.before
    pub alike : is_own at.own ≡ true
    pub later : AreOthers at.after

  pub finds_row : (limits : DefragLimits) (before : List (HeldName C)) (held_name : HeldName C)
      (after : List (HeldName C)) (rows : List (Row C)) → HoldsNames eq limits (before ++ held_name ∷ after) rows
      → is_named held_name ≡ true → FindsRow limits before held_name after rows
  finds_row limits before held_name after rows holds alike =
      let at = zip_split (HoldsRow limits) before held_name after rows holds.each in
      let one = ap {B = ℕ} (λ b. cond b 1 0) alike in
      let sum = sum_by-append (λ (one : HeldName C). cond (is_named one) 1 0) before (held_name ∷ after) in
      let rest = sum_by-cons (λ (one : HeldName C). cond (is_named one) 1 0) held_name after in
      record {
        at = at;
        earlier = others_beside limits before at.before at.first
            (others_from_count before (omega (arith, holds.differ name, one, sum, rest)));
        alike = subst (λ (id : IpFragId C). same_stream eq id name ≡ true) at.middle.id alike;
        later = others_beside limits after at.after at.later
            (others_from_count after (omega (arith, holds.differ name, one, sum, rest)));
      }

  -- names of a table, none of whose entries has the name
  pub others_in : (entries : Entries (IpFragId C) HeldStream)
      → ((entry : Slot × HeldName C) → Contains entries entry → is_named entry.1 ≡ false)
      → HoldOthers (names_of entries)
  others_in [] other = tt
  others_in (e ∷ es) other = (
    other e (first_is e es),
    others_in es
        (λ entry inside. other entry (Contains-append_right (e ∷ []) es entry inside)),
  )
