-- Merging of a range into ordered, separated sections: the sections that overlap or touch it are neighbours of one
-- another, and with their union in their place the sections are ordered and separated again.
use Rattle.std.proofs.Common.{◌≡◌, ℕ, suc, ◌+◌, ◌-◌, ◌<◌, ◌≤◌, true, false, not, List, [], ◌∷◌, ◌++◌}
use Rattle.std.proofs.Common.{length, get_or, set, take, drop, sym, refl, ap, subst, ◌∙◌, inl, inr, arith}
use Rattle.std.specs.List.{All, AllWithin, AllByRecursion, list_any, filter, fold, insert, remove_range}
use Rattle.std.specs.List.Sorted.{IsPermutation}
use Rattle.std.proofs.lemmas.Bool.{cases_lt, false≢true}
use Rattle.std.proofs.lemmas.Bool.Decides.{nat_tests}
use Rattle.std.proofs.lemmas.List.{append-nil, length-take-le, length-drop, get_or-take, get_or-drop, get_or_default}
use Rattle.std.proofs.lemmas.List.{take-append-drop, drop-drop, drop_more, take_more_set, drop-set-lt, append_assoc}
use Rattle.std.proofs.lemmas.List.Elements.{filter-append, recursion_from_All}
use Rattle.std.proofs.lemmas.List.Sorted.{IsPermutation-middle}
use Rattle.ep_defrag.specs.declared.ip_frag_range.IpFragRange.{IpFragRange}
use Rattle.ep_defrag.specs.Ranges.{merges, hull, AreSeparate}
use Rattle.ep_defrag.specs.Buffers.{sections_after, AreNeighbours}
use Rattle.ep_defrag.proofs.ListLemmas.{none_from_filter}
use Rattle.ep_defrag.proofs.SectionLemmas.{IsOrdered}
use Rattle.ep_defrag.proofs.ApartLemmas.{AreApartFrom, from_apart, to_apart, ordered_from, raised}
use Rattle.ep_defrag.proofs.ApartLemmas.{least_after, least_after-le, apart_parts, apart_append}
use Rattle.ep_defrag.proofs.ApartLemmas.{starts_rise, ends_rise, after_earlier}

-- ---- from a property of indices to one of a sublist
module _ {X : Type 0} (P : X → Type 0) (xs : List X) where
  all_of_take : (n : ℕ) → n ≤ length xs → AllWithin P xs 0 n → All P (take n xs)
  all_of_take n within all k d below =
      let place : k < n = omega (arith, length-take-le n xs within) in
      subst P (sym (get_or-take n xs k d place)) (all k d (omega arith) place)

  all_of_drop : (n : ℕ) → n ≤ length xs → AllWithin P xs n (length xs) → All P (drop n xs)
  all_of_drop n within all k d below =
      subst P (sym (get_or-drop n xs k d)) (all (n + k) d (omega arith) (omega (arith, length-drop n xs)))

  all_of_slice : (from to : ℕ) → from ≤ to → to ≤ length xs → AllWithin P xs from to
      → All P (take (to - from) (drop from xs))
  all_of_slice from to order within all k d below =
      let len : length (take (to - from) (drop from xs)) ≡ to - from =
      length-take-le (to - from) (drop from xs) (omega (arith, length-drop from xs)) in
      let place : k < to - from = omega arith in
      subst P (sym (get_or-take (to - from) (drop from xs) k d place ∙ get_or-drop from xs k d))
      (all (from + k) d (omega arith) (omega arith))

-- ---- the union of neighbours
same_range : (a b : IpFragRange) → a.start ≡ b.start → a.end ≡ b.end → a ≡ b
same_range a b starts ends = λ i. record { start = starts i; end = ends i }

abbrev pub last_of : IpFragRange → List IpFragRange → IpFragRange
last_of first [] = first
last_of first (next ∷ later) = last_of next later

last_after : (least : ℕ) (first : IpFragRange) (later : List IpFragRange) → AreApartFrom least (first ∷ later)
    → (first.start ≤ (last_of first later).start) × (first.end ≤ (last_of first later).end)
last_after least first [] apart = (omega arith, omega arith)
last_after least first (next ∷ later) apart =
    let rest = last_after (first.end + 1) next later apart.2 in
    (omega (arith, rest.0, apart.1, apart.2.0), omega (arith, rest.1, apart.2.0, apart.2.1))

after_last : (least : ℕ) (first : IpFragRange) (later : List IpFragRange)
    → least_after least (first ∷ later) ≡ (last_of first later).end + 1
after_last least first [] = refl
after_last least first (next ∷ later) = after_last (first.end + 1) next later

-- Only the first and the last section determine the union.
pub union_of_ends : (least : ℕ) (sofar first : IpFragRange) (later : List IpFragRange)
    → AreApartFrom least (first ∷ later)
    → fold hull sofar (first ∷ later) ≡ hull (hull sofar first) (last_of first later)
union_of_ends least sofar first [] apart =
    same_range (hull sofar first) (hull (hull sofar first) first) (omega arith) (omega arith)
union_of_ends least sofar first (next ∷ later) apart =
    let last = last_of next later in
    let after = last_after (first.end + 1) next later apart.2 in
    union_of_ends (first.end + 1) (hull sofar first) next later apart.2
    ∙ same_range (hull (hull (hull sofar first) next) last) (hull (hull sofar first) last)
    (omega (arith, apart.1, apart.2.0))
    (omega (arith, after.1))

last_at : (first : IpFragRange) (later : List IpFragRange) (d : IpFragRange)
    → last_of first later ≡ get_or (first ∷ later) (length later) d
last_at first [] d = refl
last_at first (next ∷ later) d = last_at next later d

-- ---- the sections in three parts
-- Holds if these are the sections before the neighbours of a range, the neighbours, and the sections after them.
pub record AreParts (range : IpFragRange) (earlier between later : List IpFragRange) : Type 0 where
  pub apart : AreApartFrom 0 (earlier ++ (between ++ later))
  pub before : AllByRecursion (λ section. section.end < range.start) earlier
  pub sharing : AllByRecursion (λ section. (range.start ≤ section.end) × (section.start ≤ range.end)) between
  pub after : AllByRecursion (λ section. range.end < section.start) later

module _ (range : IpFragRange) (ordered : IsOrdered range) where
  kept_before : (sections : List IpFragRange) → AllByRecursion IsOrdered sections
      → AllByRecursion (λ section. section.end < range.start) sections
      → (filter (merges range) sections ≡ []) × (filter (λ section. not (merges range section)) sections ≡ sections)
  kept_before [] all before = (refl, refl)
  kept_before (section ∷ sections) all before =
      let away : merges range section ≡ false = grind (arith, nat_tests, ordered, all.0, before.0) in
      let rest = kept_before sections all.1 before.1 in
      (rw away rest.0, rw away (ap (λ others. section ∷ others) rest.1))

  kept_after : (sections : List IpFragRange) → AllByRecursion IsOrdered sections
      → AllByRecursion (λ section. range.end < section.start) sections
      → (filter (merges range) sections ≡ []) × (filter (λ section. not (merges range section)) sections ≡ sections)
  kept_after [] all after = (refl, refl)
  kept_after (section ∷ sections) all after =
      let away : merges range section ≡ false = grind (arith, nat_tests, ordered, all.0, after.0) in
      let rest = kept_after sections all.1 after.1 in
      (rw away rest.0, rw away (ap (λ others. section ∷ others) rest.1))

  taken_between : (sections : List IpFragRange) → AllByRecursion IsOrdered sections
      → AllByRecursion (λ section. (range.start ≤ section.end) × (section.start ≤ range.end)) sections
      → (filter (merges range) sections ≡ sections) × (filter (λ section. not (merges range section)) sections ≡ [])
  taken_between [] all sharing = (refl, refl)
  taken_between (section ∷ sections) all sharing =
      let here : merges range section ≡ true = grind (arith, nat_tests, ordered, all.0, sharing.0.0, sharing.0.1) in
      let rest = taken_between sections all.1 sharing.1 in
      (rw here (ap (λ others. section ∷ others) rest.0), rw here rest.1)

  module _ (earlier between later : List IpFragRange) (parts : AreParts range earlier between later) where
    split_before : AreApartFrom 0 earlier × AreApartFrom (least_after 0 earlier) (between ++ later)
    split_before = apart_parts 0 earlier (between ++ later) parts.apart

    split_after : AreApartFrom (least_after 0 earlier) between
        × AreApartFrom (least_after (least_after 0 earlier) between) later
    split_after = apart_parts (least_after 0 earlier) between later (split_before).1

    taken : filter (merges range) (earlier ++ (between ++ later)) ≡ between
    taken =
        filter-append (merges range) earlier (between ++ later)
        ∙ ap (λ found. found ++ filter (merges range) (between ++ later))
        (kept_before earlier (ordered_from 0 earlier (split_before).0) parts.before).0
        ∙ filter-append (merges range) between later
        ∙ ap (λ found. found ++ filter (merges range) later)
        (taken_between between (ordered_from (least_after 0 earlier) between (split_after).0) parts.sharing).0
        ∙ ap (λ found. between ++ found)
        (kept_after later (ordered_from (least_after (least_after 0 earlier) between) later (split_after).1)
        parts.after).0
        ∙ append-nil between

    others : filter (λ section. not (merges range section)) (earlier ++ (between ++ later)) ≡ earlier ++ later
    others =
        let misses = λ (section : IpFragRange). not (merges range section) in
        filter-append misses earlier (between ++ later)
        ∙ ap (λ found. found ++ filter misses (between ++ later))
        (kept_before earlier (ordered_from 0 earlier (split_before).0) parts.before).1
        ∙ ap (λ found. earlier ++ found)
        (filter-append misses between later
        ∙ ap (λ found. found ++ filter misses later)
        (taken_between between (ordered_from (least_after 0 earlier) between (split_after).0) parts.sharing).1
        ∙ (kept_after later (ordered_from (least_after (least_after 0 earlier) between) later (split_after).1)
        parts.after).1)

    -- The sections after the merge are the union in its place, and the others.
    joined : IsPermutation (earlier ++ fold hull range between ∷ later)
        (sections_after range (earlier ++ (between ++ later)))
    joined = rw (taken, others) (IsPermutation-middle earlier (fold hull range between) later)

    -- If there are no neighbours, no section merges with the range.
    none_merging : between ≡ [] → list_any (merges range) (earlier ++ (between ++ later)) ≡ false
    none_merging none = none_from_filter (merges range) (earlier ++ (between ++ later)) (taken ∙ none)

-- With the union in its place the sections are ordered and separated.
joined_apart : (range : IpFragRange) → IsOrdered range → (earlier between later : List IpFragRange)
    → AreParts range earlier between later → AreApartFrom 0 (earlier ++ fold hull range between ∷ later)
joined_apart range ordered earlier [] later parts =
    let least = least_after 0 earlier in
    let split = apart_parts 0 earlier later parts.apart in
    apart_append 0 earlier (range ∷ later) split.0 (
      least_after-le 0 range.start earlier (omega arith) parts.before,
      ordered,
      raised least range.end (range.end + 1) later split.1 parts.after (omega arith),
    )
joined_apart range ordered earlier (first ∷ between) later parts =
    let least = least_after 0 earlier in
    let split = apart_parts 0 earlier ((first ∷ between) ++ later) parts.apart in
    let rest = apart_parts least (first ∷ between) later split.1 in
    let last = last_of first between in
    let union = hull (hull range first) last in
    let low = least_after-le 0 range.start earlier (omega arith) parts.before in
    let ends = last_after least first between rest.0 in
    let after : AreApartFrom (last.end + 1) later =
    subst (λ least. AreApartFrom least later) (after_last least first between) rest.1 in
    rw (union_of_ends least range first between rest.0)
    (apart_append 0 earlier (union ∷ later) split.0 (
      omega (arith, low, rest.0.0, ends.0),
      omega (arith, ordered),
      raised (last.end + 1) range.end (union.end + 1) later after parts.after (omega (arith, ends.1)),
    ))

-- ---- the parts by index
three_parts : (sections : List IpFragRange) (from to : ℕ) → from ≤ to
    → take from sections ++ (take (to - from) (drop from sections) ++ drop to sections) ≡ sections
three_parts sections from to order =
    let place : from + (to - from) ≡ to = omega arith in
    ap (λ rest. take from sections ++ rest)
    (ap (λ rest. take (to - from) (drop from sections) ++ rest)
    (sym (drop-drop (to - from) from sections ∙ ap (λ place. drop place sections) place))
    ∙ take-append-drop (to - from) (drop from sections))
    ∙ take-append-drop from sections

module _ (range : IpFragRange) (ordered : IsOrdered range) (sections : List IpFragRange) (apart : AreSeparate sections)
    (from to : ℕ) (near : AreNeighbours range sections from to) where
  abbrev between : List IpFragRange
  between = take (to - from) (drop from sections)

  split : take from sections ++ (between ++ drop to sections) ≡ sections
  split = three_parts sections from to near.order

  parts : AreParts range (take from sections) between (drop to sections)
  parts = record {
    apart = subst (λ all. AreApartFrom 0 all) (sym split) (from_apart sections apart);
    before = recursion_from_All (λ section. section.end < range.start) (take from sections)
        (all_of_take (λ section. section.end < range.start) sections from (omega (arith, near.order, near.within))
        near.earlier);
    sharing = recursion_from_All (λ section. (range.start ≤ section.end) × (section.start ≤ range.end)) between
        (all_of_slice (λ section. (range.start ≤ section.end) × (section.start ≤ range.end)) sections from to near.order
        near.within near.between);
    after = recursion_from_All (λ section. range.end < section.start) (drop to sections)
        (all_of_drop (λ section. range.end < section.start) sections to near.within near.later);
  }

  is_joined : IsPermutation (take from sections ++ fold hull range between ∷ drop to sections)
      (sections_after range sections)
  is_joined =
      subst
      (λ all.
      IsPermutation (take from sections ++ fold hull range between ∷ drop to sections) (sections_after range all))
      split
      (joined range ordered (take from sections) between (drop to sections) parts)

  -- The neighbours are the sections that merge with the range.
  pub near_sections : filter (merges range) sections ≡ take (to - from) (drop from sections)
  near_sections =
      ap (λ all. filter (merges range) all) (sym split)
      ∙ taken range ordered (take from sections) between (drop to sections) parts

  pub near_apart : AreSeparate (take (to - from) (drop from sections))
  near_apart =
      to_apart (least_after 0 (take from sections)) between
      (split_after range ordered (take from sections) between (drop to sections) parts).0

  is_apart : AreSeparate (take from sections ++ fold hull range between ∷ drop to sections)
  is_apart =
      to_apart 0 (take from sections ++ fold hull range between ∷ drop to sections)
      (joined_apart range ordered (take from sections) between (drop to sections) parts)

  -- If a section merges with the range, the range of indices is not empty.
  pub some_between : list_any (merges range) sections ≡ true → from < to
  some_between merging = elim (cases_lt from to) [
    | inl some ↦ some
    | inr none ↦
        let nothing : to - from ≡ 0 = omega arith in
        absurd
        (false≢true (sym
        (none_merging range ordered (take from sections) between (drop to sections) parts
        (ap (λ count. take count (drop from sections)) nothing))
        ∙ ap (list_any (merges range)) split
        ∙ merging))
  ]

  -- Without neighbours the union is the range itself.
  alone : from ≡ to → fold hull range between ≡ range
  alone same =
      let none : to - from ≡ 0 = omega arith in
      ap (λ count. fold hull range (take count (drop from sections))) none

  -- Otherwise it is the union of the range with the first and the last neighbour.
  with_ends : (d : IpFragRange) → from < to
      → fold hull range between ≡ hull (hull range (get_or sections from d)) (get_or sections (to - 1) d)
  with_ends d some =
      let count = to - from - 1 in
      let first = get_or sections from d in
      let rest = take count (drop (from + 1) sections) in
      let counted : to - from ≡ suc count = omega arith in
      let place : from + count ≡ to - 1 = omega arith in
      let opened : between ≡ first ∷ rest =
      ap (λ count. take count (drop from sections)) counted
      ∙ ap (take (suc count)) (drop_more sections from d (omega (arith, near.within))) in
      let len : length rest ≡ count =
      length-take-le count (drop (from + 1) sections) (omega (arith, near.within, length-drop (from + 1) sections)) in
      let last : last_of first rest ≡ get_or sections (to - 1) d =
      last_at first rest d
      ∙ ap (λ place. get_or (first ∷ rest) place d) len
      ∙ sym (ap (λ all. get_or all count d) opened)
      ∙ get_or-take (to - from) (drop from sections) count d (omega arith)
      ∙ get_or-drop from sections count d
      ∙ ap (λ place. get_or sections place d) place in
      let least = least_after 0 (take from sections) in
      let complete = apart_parts 0 (take from sections) (between ++ drop to sections) (parts).apart in
      let here = apart_parts least between (drop to sections) complete.1 in
      ap (fold hull range) opened
      ∙ union_of_ends least range first rest (subst (λ all. AreApartFrom least all) opened here.0)
      ∙ ap (λ last. hull (hull range first) last) last

  -- Inserting the range at its index merges it, if it has no neighbours.
  module _ (items : List IpFragRange) (same : from ≡ to) (inserted : items ≡ insert sections from range) where
    inserted_joins : items ≡ take from sections ++ fold hull range between ∷ drop to sections
    inserted_joins =
        inserted
        ∙ ap (λ place. take from sections ++ range ∷ drop place sections) same
        ∙ ap (λ union. take from sections ++ union ∷ drop to sections) (sym (alone same))

    pub insert_joins : IsPermutation items (sections_after range sections)
    insert_joins = rw inserted_joins is_joined

    pub insert_apart : AreSeparate items
    insert_apart = rw inserted_joins is_apart

  -- Otherwise overwriting the first neighbour with the union and removing the others merges it.
  module _ (items : List IpFragRange) (some : from < to) (first last : IpFragRange)
      (at_first : first ≡ get_or sections from first) (at_last : last ≡ get_or sections (to - 1) last)
      (left : items ≡ remove_range (set sections from (hull (hull range first) last)) (from + 1) to) where
    left_joins : items ≡ take from sections ++ fold hull range between ∷ drop to sections
    left_joins =
        let union = hull (hull range first) last in
        let within : from < length sections = omega (arith, near.within) in
        let ends : hull (hull range (get_or sections from first)) (get_or sections (to - 1) first) ≡ union =
        ap (λ other. hull (hull range other) (get_or sections (to - 1) first)) (sym at_first)
        ∙ ap (λ other. hull (hull range first) other)
        (get_or_default sections (to - 1) first last (omega (arith, near.within)) ∙ sym at_last) in
        left
        ∙ ap (λ kept. kept ++ drop to (set sections from union)) (take_more_set sections from union within)
        ∙ append_assoc (take from sections) (union ∷ []) (drop to (set sections from union))
        ∙ ap (λ later. take from sections ++ union ∷ later) (drop-set-lt to sections from union some)
        ∙ ap (λ union. take from sections ++ union ∷ drop to sections) (sym (with_ends first some ∙ ends))

    pub union_joins : IsPermutation items (sections_after range sections)
    union_joins = rw left_joins is_joined

    pub union_apart : AreSeparate items
    union_apart = rw left_joins is_apart

-- ---- the indices from the sections next to them
-- The indices `from` and `to` enclose the neighbours if the sections before `from` end before the range and the others
-- do not, and the section before `to` starts no later than the end of the range and the section at `to` starts after
-- it.
pub near_from_place : (range : IpFragRange) → (sections : List IpFragRange) → AreSeparate sections → (from to : ℕ)
    → from ≤ to → to ≤ length sections
    → AllWithin (λ section. section.end < range.start) sections 0 from
    → AllWithin (λ section. range.start ≤ section.end) sections from (length sections)
    → ((d : IpFragRange) → from < to → (get_or sections (to - 1) d).start ≤ range.end)
    → ((d : IpFragRange) → to < length sections → range.end < (get_or sections to d).start)
    → AreNeighbours range sections from to
near_from_place range sections apart from to order within earlier rest starts after = record {
  order = order;
  within = within;
  earlier = earlier;
  between = λ k d low high. (
    rest k d low (omega arith),
    omega (arith, starts_rise sections apart k (to - 1) d (omega arith) (omega arith), starts d (omega arith)),
  );
  later = λ k d low high. omega (arith, starts_rise sections apart to k d low high, after d (omega arith));
}

-- A range that starts after the end of the last section has no neighbours.
pub near_at_end : (range : IpFragRange) → (sections : List IpFragRange) → AreSeparate sections → (d : IpFragRange)
    → (length sections ≡ 0 → ⊥) → (get_or sections (length sections - 1) d).end < range.start
    → AreNeighbours range sections (length sections) (length sections)
near_at_end range sections apart d some after =
    let last = length sections - 1 in
    near_from_place range sections apart (length sections) (length sections) (omega arith) (omega arith)
    (λ k e low high.
    omega (
      arith,
      ends_rise sections apart k last e (omega arith) (omega arith),
      ap (λ section. section.end) (get_or_default sections last e d (omega arith)),
    ))
    (λ k e low high. absurd (omega arith))
    (λ e more. absurd (omega arith))
    (λ e more. absurd (omega arith))

-- A range that starts in the last section, or at its end, has that section as its only neighbour.
pub near_in_last : (range : IpFragRange) → IsOrdered range → (sections : List IpFragRange) → AreSeparate sections
    → (d : IpFragRange) → (length sections ≡ 0 → ⊥) → range.start ≤ (get_or sections (length sections - 1) d).end
    → (get_or sections (length sections - 1) d).start ≤ range.start
    → AreNeighbours range sections (length sections - 1) (length sections)
near_in_last range ordered sections apart d some within after =
    let last = length sections - 1 in
    let is : (e : IpFragRange) → get_or sections last e ≡ get_or sections last d =
    λ e. get_or_default sections last e d (omega arith) in
    near_from_place range sections apart last (length sections) (omega arith) (omega arith)
    (λ k e low high.
    omega (
      arith,
      after_earlier 0 sections (from_apart sections apart) k last e high (omega arith),
      ap (λ section. section.start) (is e),
    ))
    (λ k e low high.
    let here : k ≡ last = omega arith in
    omega (arith, ap (λ section. section.end) (ap (λ at. get_or sections at e) here ∙ is e)))
    (λ e more. omega (arith, ap (λ section. section.start) (is e)))
    (λ e more. absurd (omega arith))
