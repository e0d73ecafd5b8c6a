-- Ranges in order and separated: their indices, positions and sublists. The positions that they fill determine them.
use Rattle.std.proofs.Common.{◌≡◌, ℕ, zero, suc, ◌+◌, ◌<◌, ◌≤◌, max, Bool, true, false, cond, ◌||◌, List, [], ◌∷◌, ◌++◌}
use Rattle.std.proofs.Common.{length, get_or, sym, refl, ap, ◌∙◌, inl, inr, arith}
use Rattle.std.specs.List.{AllByRecursion, list_any, count_by}
use Rattle.std.specs.List.Sorted.{IsNonDecreasingBy}
use Rattle.std.proofs.lemmas.Bool.{cases_lt, cases_eq, false≢true, and_parts, and_from, leb-true, ltb-true, le-leb}
use Rattle.std.proofs.lemmas.Bool.{lt-ltb}
use Rattle.std.proofs.lemmas.Bool.Decides.{nat_tests}
use Rattle.std.proofs.lemmas.List.Sums.{sum_by-cons}
use Rattle.ep_defrag.specs.declared.ip_frag_range.IpFragRange.{IpFragRange}
use Rattle.ep_defrag.specs.Ranges.{has_byte, touches, are_separate, AreSeparate}
use Rattle.ep_defrag.proofs.SectionLemmas.{IsOrdered}

-- Holds if the ranges are in order and separated, and the first starts no earlier than a position.
abbrev pub AreApartFrom : ℕ → List IpFragRange → Type 0
AreApartFrom least [] = Unit {0}
AreApartFrom least (range ∷ later) = (least ≤ range.start) × IsOrdered range × AreApartFrom (range.end + 1) later

from_first : (range : IpFragRange) (later : List IpFragRange) → are_separate (range ∷ later) ≡ true
    → IsOrdered range × AreApartFrom (range.end + 1) later
from_first range [] apart = (leb-true _ _ apart, tt)
from_first range (next ∷ later) apart =
    let parts = and_parts _ _ apart in
    let here = and_parts _ _ parts.0 in
    let following : range.end < next.start = ltb-true _ _ here.1 in
    let rest = from_first next later parts.1 in
    (leb-true _ _ here.0, (omega arith, rest.0, rest.1))

pub from_apart : (ranges : List IpFragRange) → AreSeparate ranges → AreApartFrom 0 ranges
from_apart [] apart = tt
from_apart (range ∷ later) apart =
    let first = from_first range later apart in
    (omega arith, first.0, first.1)

pub to_apart : (least : ℕ) (ranges : List IpFragRange) → AreApartFrom least ranges → AreSeparate ranges
to_apart least [] apart = refl
to_apart least (range ∷ []) apart = le-leb range.start range.end apart.1
to_apart least (range ∷ next ∷ later) apart =
    let following : range.end < next.start = omega (arith, apart.2.0) in
    and_from _ _ (and_from _ _ (le-leb _ _ apart.1) (lt-ltb _ _ following))
    (to_apart (range.end + 1) (next ∷ later) apart.2)

pub ordered_from : (least : ℕ) (ranges : List IpFragRange) → AreApartFrom least ranges → AllByRecursion IsOrdered ranges
ordered_from least [] apart = tt
ordered_from least (range ∷ later) apart = (apart.1, ordered_from (range.end + 1) later apart.2)

-- ---- by index
-- Each range starts no earlier than the position, and is not reversed.
pub from_at : (least : ℕ) (ranges : List IpFragRange) → AreApartFrom least ranges → (k : ℕ) (d : IpFragRange)
    → k < length ranges → (least ≤ (get_or ranges k d).start) × IsOrdered (get_or ranges k d)
from_at least [] apart k d within = absurd (omega arith)
from_at least (range ∷ later) apart zero d within = (apart.0, apart.1)
from_at least (range ∷ later) apart (suc k) d within =
    let rest = from_at (range.end + 1) later apart.2 k d (omega arith) in
    (omega (arith, rest.0, apart.0, apart.1), rest.1)

-- A later range starts after the end of an earlier one.
pub after_earlier : (least : ℕ) (ranges : List IpFragRange) → AreApartFrom least ranges → (i j : ℕ) (d : IpFragRange)
    → i < j → j < length ranges → (get_or ranges i d).end < (get_or ranges j d).start
after_earlier least [] apart i j d before within = absurd (omega arith)
after_earlier least (range ∷ later) apart i zero d before within = absurd (omega arith)
after_earlier least (range ∷ later) apart zero (suc j) d before within =
    let bounds = from_at (range.end + 1) later apart.2 j d (omega arith) in
    omega (arith, bounds.0)
after_earlier least (range ∷ later) apart (suc i) (suc j) d before within =
    after_earlier (range.end + 1) later apart.2 i j d (omega arith) (omega arith)

module _ (ranges : List IpFragRange) (apart : AreSeparate ranges) where
  pub starts_rise : IsNonDecreasingBy (λ (range : IpFragRange). range.start) ranges
  starts_rise i j d before within = elim (cases_eq i j) [
    | inl same ↦ rw same (omega arith)
    | inr other ↦ omega (
      arith,
      after_earlier 0 ranges (from_apart ranges apart) i j d (omega arith) within,
      (from_at 0 ranges (from_apart ranges apart) i d (omega arith)).1,
    )
  ]

  pub ends_rise : IsNonDecreasingBy (λ (range : IpFragRange). range.end) ranges
  ends_rise i j d before within = elim (cases_eq i j) [
    | inl same ↦ rw same (omega arith)
    | inr other ↦ omega (
      arith,
      after_earlier 0 ranges (from_apart ranges apart) i j d (omega arith) within,
      (from_at 0 ranges (from_apart ranges apart) j d within).1,
    )
  ]

-- ---- sublists
-- Ranges that all start after a bound have their least position raised to it.
pub raised : (least bound more : ℕ) (ranges : List IpFragRange) → AreApartFrom least ranges
    → AllByRecursion (λ range. bound < range.start) ranges → more ≤ max least (bound + 1) → AreApartFrom more ranges
raised least bound more [] apart all within = tt
raised least bound more (range ∷ later) apart all within = (omega (arith, apart.0, all.0), apart.1, apart.2)

-- least position at which a range after these may start
abbrev pub least_after : ℕ → List IpFragRange → ℕ
least_after least [] = least
least_after least (range ∷ later) = least_after (range.end + 1) later

pub apart_parts : (least : ℕ) (earlier later : List IpFragRange) → AreApartFrom least (earlier ++ later)
    → AreApartFrom least earlier × AreApartFrom (least_after least earlier) later
apart_parts least [] later apart = (tt, apart)
apart_parts least (range ∷ earlier) later apart =
    let rest = apart_parts (range.end + 1) earlier later apart.2 in
    ((apart.0, apart.1, rest.0), rest.1)

pub apart_append : (least : ℕ) (earlier later : List IpFragRange) → AreApartFrom least earlier
    → AreApartFrom (least_after least earlier) later → AreApartFrom least (earlier ++ later)
apart_append least [] later apart following = following
apart_append least (range ∷ earlier) later apart following =
    (apart.0, apart.1, apart_append (range.end + 1) earlier later apart.2 following)

pub least_after-le : (least bound : ℕ) (ranges : List IpFragRange) → least ≤ bound
    → AllByRecursion (λ range. range.end < bound) ranges → least_after least ranges ≤ bound
least_after-le least bound [] low all = low
least_after-le least bound (range ∷ later) low all =
    least_after-le (range.end + 1) bound later (omega (arith, all.0)) all.1

-- ---- by position
-- Holds if the test is false for ranges that start after the position, as `touches` and `has_byte` at it are.
abbrev pub IsAt : ℕ → (IpFragRange → Bool) → Type 0
IsAt position test = (range : IpFragRange) → position < range.start → test range ≡ false

pub touches_at : (position : ℕ) → IsAt position (touches position)
touches_at position range before = grind (arith, nat_tests)

pub has_byte_at : (position : ℕ) → IsAt position (has_byte position)
has_byte_at position range before = grind (arith, nat_tests)

pub none_before : (position : ℕ) (test : IpFragRange → Bool) → IsAt position test → (least : ℕ)
    (ranges : List IpFragRange) → AreApartFrom least ranges → position < least → list_any test ranges ≡ false
none_before position test here least [] apart before = refl
none_before position test here least (range ∷ later) apart before =
    ap (λ t. t || list_any test later) (here range (omega (arith, apart.0)))
    ∙ none_before position test here (range.end + 1) later apart.2 (omega (arith, apart.0, apart.1))

abbrev count_at : ℕ → IpFragRange → ℕ
count_at position range = cond (touches position range) 1 0

none_counted : (position least : ℕ) (ranges : List IpFragRange) → AreApartFrom least ranges → position < least
    → count_by (touches position) ranges ≡ 0
none_counted position least [] apart before = refl
none_counted position least (range ∷ later) apart before =
    let away : count_at position range ≡ 0 = rw (touches_at position range (omega (arith, apart.0))) refl in
    omega (
      arith,
      sum_by-cons (count_at position) range later,
      away,
      none_counted position (range.end + 1) later apart.2 (omega (arith, apart.0, apart.1)),
    )

-- No position touches two of them.
pub at_most_one : (position least : ℕ) (ranges : List IpFragRange) → AreApartFrom least ranges
    → count_by (touches position) ranges ≤ 1
at_most_one position least [] apart = omega arith
at_most_one position least (range ∷ later) apart =
    let counted = sum_by-cons (count_at position) range later in
    elim (cases_lt range.end position) [
      | inl past ↦
          let away : count_at position range ≡ 0 = grind (arith, nat_tests) in
          omega (arith, counted, away, at_most_one position (range.end + 1) later apart.2)
      | inr within ↦
          let here : count_at position range ≤ 1 = grind (arith, nat_tests) in
          omega (arith, counted, here, none_counted position (range.end + 1) later apart.2 (omega arith))
    ]

pub touches_start : (range : IpFragRange) → IsOrdered range → touches range.start range ≡ true
touches_start range ordered = grind (arith, nat_tests, ordered)

-- The first range starts no later than any touched position.
first_start : (position least : ℕ) (range : IpFragRange) (later : List IpFragRange) → AreApartFrom least (range ∷ later)
    → list_any (touches position) (range ∷ later) ≡ true → range.start ≤ position
first_start position least range later apart touched = elim (cases_lt position range.start) [
  | inr after ↦ after
  | inl before ↦ absurd
      (false≢true (sym
      (none_before position (touches position) (touches_at position) range.start (range ∷ later)
      (omega arith, apart.1, apart.2) before)
      ∙ touched))
]

-- The first range does not end after that of other ranges with an equal first start and equal bytes.
first_end : (least : ℕ) (range other : IpFragRange) (later others : List IpFragRange)
    → AreApartFrom least (range ∷ later) → other.start ≡ range.start
    → list_any (has_byte range.end) (range ∷ later) ≡ list_any (has_byte range.end) (other ∷ others)
    → other.end ≤ range.end
first_end least range other later others apart same bytes = elim (cases_lt range.end other.end) [
  | inr within ↦ within
  | inl past ↦
      let here : has_byte range.end other ≡ true = grind (arith, nat_tests, same, apart.1) in
      let away : has_byte range.end range ≡ false = grind (arith, nat_tests) in
      let none = none_before range.end (has_byte range.end) (has_byte_at range.end) (range.end + 1) later apart.2
      (omega arith) in
      absurd
      (false≢true (sym (ap (λ t. t || list_any (has_byte range.end) later) away ∙ none)
      ∙ bytes
      ∙ ap (λ t. t || list_any (has_byte range.end) others) here))
]

-- If a test agrees on two lists of ranges with an equal first range, it agrees on the rest of them.
rest_alike : (position : ℕ) (test : IpFragRange → Bool) → IsAt position test → (range : IpFragRange)
    (later others : List IpFragRange) → AreApartFrom (range.end + 1) later → AreApartFrom (range.end + 1) others
    → (range.end < position → test range ≡ false)
    → list_any test (range ∷ later) ≡ list_any test (range ∷ others) → list_any test later ≡ list_any test others
rest_alike position test here range later others apart apart' past alike = elim (cases_lt range.end position) [
  | inl following ↦
      let away = past following in
      sym (ap (λ t. t || list_any test later) away) ∙ alike ∙ ap (λ t. t || list_any test others) away
  | inr within ↦
      none_before position test here (range.end + 1) later apart (omega arith)
      ∙ sym (none_before position test here (range.end + 1) others apart' (omega arith))
]

past_touches : (position : ℕ) (range : IpFragRange) → range.end < position → touches position range ≡ false
past_touches position range past = grind (arith, nat_tests)

past_has_byte : (position : ℕ) (range : IpFragRange) → range.end < position → has_byte position range ≡ false
past_has_byte position range past = grind (arith, nat_tests)

-- Ranges in order and separated are determined by the positions that they touch and those at which they have a byte.
pub same_from_positions : (least other : ℕ) (xs ys : List IpFragRange) → AreApartFrom least xs → AreApartFrom other ys
    → ((position : ℕ) → list_any (has_byte position) xs ≡ list_any (has_byte position) ys)
    → ((position : ℕ) → list_any (touches position) xs ≡ list_any (touches position) ys) → xs ≡ ys
same_from_positions least other [] [] apart apart' bytes points = refl
same_from_positions least other [] (y ∷ ys) apart apart' bytes points =
    absurd (false≢true (points y.start ∙ ap (λ t. t || list_any (touches y.start) ys) (touches_start y apart'.1)))
same_from_positions least other (x ∷ xs) [] apart apart' bytes points =
    absurd (false≢true (sym (points x.start) ∙ ap (λ t. t || list_any (touches x.start) xs) (touches_start x apart.1)))
same_from_positions least other (x ∷ xs) (y ∷ ys) apart apart' bytes points =
    let at_x : list_any (touches x.start) (x ∷ xs) ≡ true =
    ap (λ t. t || list_any (touches x.start) xs) (touches_start x apart.1) in
    let at_y : list_any (touches y.start) (y ∷ ys) ≡ true =
    ap (λ t. t || list_any (touches y.start) ys) (touches_start y apart'.1) in
    let starts : x.start ≡ y.start = omega (
      arith,
      first_start y.start least x xs apart (points y.start ∙ at_y),
      first_start x.start other y ys apart' (sym (points x.start) ∙ at_x),
    ) in
    let ends : x.end ≡ y.end = omega (
      arith,
      first_end least x y xs ys apart (sym starts) (bytes x.end),
      first_end other y x ys xs apart' starts (sym (bytes y.end)),
    ) in
    let same : x ≡ y = λ i. record { start = starts i; end = ends i } in
    let rest : AreApartFrom (x.end + 1) ys = rw ends apart'.2 in
    ap (λ first. first ∷ xs) same
    ∙ ap (λ later. y ∷ later)
    (same_from_positions (x.end + 1) (x.end + 1) xs ys apart.2 rest
    (λ position. rest_alike position (has_byte position) (has_byte_at position) x xs ys apart.2 rest
    (past_has_byte position x)
    (bytes position ∙ ap (λ first. list_any (has_byte position) (first ∷ ys)) (sym same)))
    (λ position. rest_alike position (touches position) (touches_at position) x xs ys apart.2 rest
    (past_touches position x)
    (points position ∙ ap (λ first. list_any (touches position) (first ∷ ys)) (sym same))))
