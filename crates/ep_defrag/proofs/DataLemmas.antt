-- One more fragment: its effect on covered positions, greatest end, known end and bytes of a list of fragments.
use Rattle.std.proofs.Common.{◌≡◌, ℕ, suc, zero, ◌+◌, ◌-◌, ◌<◌, ◌≤◌, max, Bool, true, false, cond, ◌||◌, ◌&&◌, ltb, leb}
use Rattle.std.proofs.Common.{List, [], ◌∷◌, ◌++◌, length, get_or, take, drop, replicate, Option, Some, None, sym, refl}
use Rattle.std.proofs.Common.{ap, ◌∙◌, inl, inr, arith}
use Rattle.std.specs.Option.{option_or, unwrap_or}
use Rattle.std.proofs.lemmas.Bool.{cases_Bool, cases_lt, false≢true, or_cases, ltb-false, lt-ltb, le-ltb, le-leb}
use Rattle.std.proofs.lemmas.Bool.{lt-leb}
use Rattle.std.proofs.lemmas.Bool.Decides.{nat_tests}
use Rattle.std.proofs.lemmas.List.{get_or_past, append-nil, append_assoc, get_or-replicate, length-replicate}
use Rattle.std.proofs.lemmas.List.{length-append, length-take-le, length-drop, get_or_append_left, get_or-append_right}
use Rattle.std.proofs.lemmas.List.{get_or-take, get_or-drop}
use Rattle.std.proofs.lemmas.List.Folds.{list_any-append}
use Rattle.std.proofs.lemmas.List.FromFn.{length-map-range_with_len, get_or-map-range_with_len, fill_by_all}
use Rattle.ep_defrag.specs.Ranges.{touches}
use Rattle.ep_defrag.specs.IpFragments.{IpFragment, fragment_start, fragment_end, range_of, covers, is_covered}
use Rattle.ep_defrag.specs.IpFragments.{is_touched, reach_of, end_of, byte_at, assembled}
use Rattle.ep_defrag.specs.FragmentRefusals.{is_unaligned, conflicts_with, ends_too_early, end_row, refusal_at_within}
use Rattle.ep_defrag.specs.FragmentRefusals.{FitsWithin, FitAfterWithin, FitInTurnWithin}
use Rattle.ep_defrag.specs.Buffers.{extended, overwritten, data_after}

or_false : (a : Bool) → (a || false) ≡ a
or_false true = refl
or_false false = refl

or_true : (a : Bool) → (a || true) ≡ true
or_true true = refl
or_true false = refl

-- ---- one more fragment at the end of the list
pub is_covered-push : (fragments : List IpFragment) (fragment : IpFragment) (position : ℕ)
    → is_covered (fragments ++ fragment ∷ []) position ≡ (is_covered fragments position || covers position fragment)
is_covered-push fragments fragment position =
    list_any-append (covers position) fragments (fragment ∷ [])
    ∙ ap (λ t. is_covered fragments position || t) (or_false (covers position fragment))

pub is_touched-push : (fragments : List IpFragment) (fragment : IpFragment) (position : ℕ)
    → is_touched (fragments ++ fragment ∷ []) position
    ≡ (is_touched fragments position || touches position (range_of fragment))
is_touched-push fragments fragment position =
    list_any-append (λ (other : IpFragment). touches position (range_of other)) fragments (fragment ∷ [])
    ∙ ap (λ t. is_touched fragments position || t) (or_false (touches position (range_of fragment)))

pub reach_of-push : (fragments : List IpFragment) (fragment : IpFragment)
    → reach_of (fragments ++ fragment ∷ []) ≡ max (reach_of fragments) (fragment_end fragment)
reach_of-push [] fragment = omega arith
reach_of-push (first ∷ fragments) fragment = omega (arith, reach_of-push fragments fragment)

-- end of a fragment if it is final
abbrev pub own_end : IpFragment → Option ℕ
own_end fragment = cond fragment.more None (Some (fragment_end fragment))

pub end_of-push : (fragments : List IpFragment) (fragment : IpFragment)
    → end_of (fragments ++ fragment ∷ []) ≡ option_or (end_of fragments) (own_end fragment)
end_of-push [] fragment = refl
end_of-push (first ∷ fragments) fragment = elim (cases_Bool first.more) [
  | inl more ↦ rw more (end_of-push fragments fragment)
  | inr last ↦ rw last refl
]

-- byte of a fragment at a position of the payload
abbrev pub own_byte : IpFragment → ℕ → ℕ
own_byte fragment position = get_or fragment.bytes (position - fragment_start fragment) 0

pub byte_at-push : (fragments : List IpFragment) (fragment : IpFragment) (position : ℕ)
    → byte_at (fragments ++ fragment ∷ []) position
    ≡ cond (covers position fragment) (own_byte fragment position) (byte_at fragments position)
byte_at-push [] fragment position = refl
byte_at-push (first ∷ fragments) fragment position =
    rw (is_covered-push fragments fragment position, byte_at-push fragments fragment position)
    (elim (cases_Bool (covers position fragment)) [
      | inl here ↦ rw (here, or_true (is_covered fragments position)) refl
      | inr away ↦ rw (away, or_false (is_covered fragments position)) refl
    ])

-- ---- positions that no fragment covers
pub byte_at-uncovered : (fragments : List IpFragment) (position : ℕ) → is_covered fragments position ≡ false
    → byte_at fragments position ≡ 0
byte_at-uncovered [] position uncovered = refl
byte_at-uncovered (fragment ∷ fragments) position uncovered = elim (cases_Bool (covers position fragment)) [
  | inl here ↦ absurd (false≢true (sym uncovered ∙ ap (λ t. t || is_covered fragments position) here))
  | inr away ↦
      let rest : is_covered fragments position ≡ false =
      sym (ap (λ t. t || is_covered fragments position) away) ∙ uncovered in
      rw (away, rest) refl
]

pub covered_below_reach : (fragments : List IpFragment) (position : ℕ) → is_covered fragments position ≡ true
    → position < reach_of fragments
covered_below_reach [] position covered = absurd (false≢true covered)
covered_below_reach (fragment ∷ fragments) position covered =
    elim (or_cases (covers position fragment) (is_covered fragments position) covered) [
      | inl here ↦ grind (arith, nat_tests)
      | inr later ↦ omega (arith, covered_below_reach fragments position later)
    ]

pub uncovered_from_reach : (fragments : List IpFragment) (position : ℕ) → reach_of fragments ≤ position
    → is_covered fragments position ≡ false
uncovered_from_reach fragments position past = elim (cases_Bool (is_covered fragments position)) [
  | inl covered ↦ absurd (omega (arith, covered_below_reach fragments position covered))
  | inr uncovered ↦ uncovered
]

-- ---- consequences of a fragment's fitting
not_some : {X : Type 0} (test : Bool) (value : X) (other : Option X) → cond test (Some value) other ≡ None
    → (test ≡ false) × (other ≡ None)
not_some true value other none = absurd (cc)
not_some false value other none = (refl, none)

pub record FitsAt (limit : ℕ) (known_end : Option ℕ) (reach : ℕ) (fragment : IpFragment) : Type 0 where
  pub short : fragment_end fragment ≤ limit
  pub aligned : is_unaligned fragment ≡ false
  pub agrees : (end_row known_end reach fragment).0 ≡ false

pub fits_at : (limit : ℕ) (known_end : Option ℕ) (reach : ℕ) (fragment : IpFragment)
    → refusal_at_within limit known_end reach fragment ≡ None → FitsAt limit known_end reach fragment
fits_at limit known_end reach fragment fits =
    let by_length = not_some (ltb limit (fragment_end fragment)) _ _ fits in
    let by_multiple = not_some (is_unaligned fragment) _ _ by_length.1 in
    let by_end = not_some (end_row known_end reach fragment).0 _ _ by_multiple.1 in
    record { short = ltb-false _ _ by_length.0; aligned = by_multiple.0; agrees = by_end.0 }

pub refusal_at-fits : (limit : ℕ) (known_end : Option ℕ) (reach : ℕ) (fragment : IpFragment)
    → FitsAt limit known_end reach fragment → refusal_at_within limit known_end reach fragment ≡ None
refusal_at-fits limit known_end reach fragment fits =
    rw (le-ltb limit (fragment_end fragment) fits.short, fits.aligned, fits.agrees) refl

pub agrees_with : (known_end : ℕ) (fragment : IpFragment) → conflicts_with known_end fragment ≡ false
    → (fragment_end fragment ≤ known_end) × (fragment.more ≡ false → fragment_end fragment ≡ known_end)
agrees_with known_end fragment no_conflict =
    (grind (arith, nat_tests, no_conflict), λ last. grind (arith, nat_tests, no_conflict, last))

pub reaches : (reach : ℕ) (fragment : IpFragment) → ends_too_early reach fragment ≡ false → fragment.more ≡ false
    → reach ≤ fragment_end fragment
reaches reach fragment not_early last = grind (arith, nat_tests, not_early, last)

pub FitAfter-push : (limit : ℕ) (earlier later : List IpFragment) (fragment : IpFragment)
    → FitAfterWithin limit earlier later → FitsWithin limit (earlier ++ later) fragment
    → FitAfterWithin limit earlier (later ++ fragment ∷ [])
FitAfter-push limit earlier [] fragment fit fits = (rw (append-nil earlier) at fits, tt)
FitAfter-push limit earlier (first ∷ later) fragment fit fits = (
  fit.0,
  FitAfter-push limit (earlier ++ first ∷ []) later fragment fit.1
      (rw (append_assoc earlier (first ∷ []) later) fits),
)

-- ---- a known end is the greatest end
-- length of the reassembled bytes of a list
abbrev pub extent_of : List IpFragment → ℕ
extent_of fragments = unwrap_or (end_of fragments) (reach_of fragments)

-- Holds if this length is the greatest end of a fragment.
abbrev pub EndIsGreatest : List IpFragment → Type 0
EndIsGreatest fragments = extent_of fragments ≡ reach_of fragments

extent_with : (limit : ℕ) (known : Option ℕ) (reach : ℕ) (fragment : IpFragment) → unwrap_or known reach ≡ reach
    → FitsAt limit known reach fragment
    → unwrap_or (option_or known (own_end fragment)) (max reach (fragment_end fragment))
    ≡ max reach (fragment_end fragment)
extent_with limit None reach fragment greatest fits = elim (cases_Bool fragment.more) [
  | inl more ↦ rw more refl
  | inr last ↦ rw last (omega (arith, reaches reach fragment fits.agrees last))
]
extent_with limit (Some end) reach fragment greatest fits =
    omega (arith, greatest, (agrees_with end fragment fits.agrees).0)

pub EndIsGreatest-push : (limit : ℕ) (fragments : List IpFragment) (fragment : IpFragment)
    → EndIsGreatest fragments → FitsWithin limit fragments fragment → EndIsGreatest (fragments ++ fragment ∷ [])
EndIsGreatest-push limit fragments fragment greatest fits =
    rw (end_of-push fragments fragment, reach_of-push fragments fragment)
    (extent_with limit (end_of fragments) (reach_of fragments) fragment greatest
    (fits_at limit (end_of fragments) (reach_of fragments) fragment fits))

greatest_after : (limit : ℕ) (earlier later : List IpFragment) → EndIsGreatest earlier
    → FitAfterWithin limit earlier later → EndIsGreatest (earlier ++ later)
greatest_after limit earlier [] greatest fit = rw (append-nil earlier) greatest
greatest_after limit earlier (fragment ∷ later) greatest fit =
    rw (append_assoc earlier (fragment ∷ []) later)
    at (greatest_after limit (earlier ++ fragment ∷ []) later (EndIsGreatest-push limit earlier fragment greatest fit.0)
    fit.1)

pub end_is_greatest : (limit : ℕ) (fragments : List IpFragment) → FitInTurnWithin limit fragments
    → EndIsGreatest fragments
end_is_greatest limit fragments fit = greatest_after limit [] fragments refl fit

-- ---- the bytes after a fragment
pub length-assembled : (fragments : List IpFragment) → length (assembled fragments) ≡ extent_of fragments
length-assembled fragments = length-map-range_with_len (byte_at fragments) 0 (extent_of fragments)

pub get_or-assembled : (fragments : List IpFragment) (position : ℕ) → position < extent_of fragments
    → get_or (assembled fragments) position 0 ≡ byte_at fragments position
get_or-assembled fragments position within =
    get_or-map-range_with_len (byte_at fragments) 0 (extent_of fragments) position position 0 within (omega arith)

-- Zeros at the end change nothing, since a position past the end reads as 0.
get_or-zeros : (count position at_end : ℕ) → at_end ≡ 0 → get_or (replicate count at_end) position at_end ≡ at_end
get_or-zeros count position at_end none = elim (cases_lt position count) [
  | inl within ↦ get_or-replicate count position at_end at_end within
  | inr past ↦ get_or_past (replicate count at_end) position at_end (omega (arith, length-replicate count at_end))
]

pub get_or-append_zeros : (contents : List ℕ) (count position : ℕ)
    → get_or (contents ++ replicate count 0) position 0 ≡ get_or contents position 0
get_or-append_zeros [] count position = get_or-zeros count position 0 refl
get_or-append_zeros (byte ∷ contents) count zero = refl
get_or-append_zeros (byte ∷ contents) count (suc position) = get_or-append_zeros contents count position

pub length-extended : (contents : List ℕ) (end : ℕ) → length (extended contents end) ≡ max (length contents) end
length-extended contents end =
    omega (
      arith,
      length-append contents (replicate (end - length contents) 0),
      length-replicate {A = ℕ} (end - length contents) 0,
    )

pub length-overwritten : (contents : List ℕ) (start : ℕ) (bytes : List ℕ) → start + length bytes ≤ length contents
    → length (overwritten contents start bytes) ≡ length contents
length-overwritten contents start bytes within =
    omega (
      arith,
      length-append (take start contents ++ bytes) (drop (start + length bytes) contents),
      length-append (take start contents) bytes,
      length-take-le start contents (omega arith),
      length-drop (start + length bytes) contents,
    )

pub get_or-overwritten : (contents : List ℕ) (start : ℕ) (bytes : List ℕ) (position : ℕ)
    → start + length bytes ≤ length contents
    → get_or (overwritten contents start bytes) position 0
    ≡ cond (leb start position && ltb position (start + length bytes)) (get_or bytes (position - start) 0)
    (get_or contents position 0)
get_or-overwritten contents start bytes position within =
    let prefix = take start contents in
    let back = drop (start + length bytes) contents in
    let first_len : length prefix ≡ start = length-take-le start contents (omega arith) in
    let both_len : length (prefix ++ bytes) ≡ start + length bytes =
    omega (arith, length-append prefix bytes, first_len) in
    elim (cases_lt position start) [
      | inl before ↦
          let test : leb start position ≡ false = lt-leb start position before in
          rw test
          (get_or_append_left (prefix ++ bytes) back 0 position (omega (arith, both_len))
          ∙ get_or_append_left prefix bytes 0 position (omega (arith, first_len))
          ∙ get_or-take start contents position 0 before)
      | inr from ↦ elim (cases_lt position (start + length bytes)) [
        | inl inside ↦
            let left : leb start position ≡ true = le-leb start position from in
            let right : ltb position (start + length bytes) ≡ true = lt-ltb position (start + length bytes) inside in
            rw (left, right)
            (get_or_append_left (prefix ++ bytes) back 0 position (omega (arith, both_len))
            ∙ get_or-append_right prefix bytes start position 0 first_len from)
        | inr after ↦
            let left : leb start position ≡ true = le-leb start position from in
            let right : ltb position (start + length bytes) ≡ false = le-ltb position (start + length bytes) after in
            let place : (start + length bytes) + (position - (start + length bytes)) ≡ position = omega arith in
            rw (left, right)
            (get_or-append_right (prefix ++ bytes) back (start + length bytes) position 0 both_len after
            ∙ get_or-drop (start + length bytes) contents (position - (start + length bytes)) 0
            ∙ ap (λ at. get_or contents at 0) place)
      ]
    ]

pub assembled-push : (limit : ℕ) (fragments : List IpFragment) (fragment : IpFragment) → EndIsGreatest fragments
    → FitsWithin limit fragments fragment
    → data_after (assembled fragments) fragment ≡ assembled (fragments ++ fragment ∷ [])
assembled-push limit fragments fragment greatest fits =
    let contents = assembled fragments in
    let start = fragment_start fragment in
    let end = fragment_end fragment in
    let reach = reach_of fragments in
    let longer = extended contents end in
    let contents_len : length contents ≡ reach = length-assembled fragments ∙ greatest in
    let longer_len : length longer ≡ max reach end =
    length-extended contents end ∙ ap (λ n. max n end) contents_len in
    let within : start + length fragment.bytes ≤ length longer = omega (arith, longer_len) in
    let before : (position : ℕ) → get_or longer position 0 ≡ byte_at fragments position = λ position.
    get_or-append_zeros contents (end - length contents) position
    ∙ elim (cases_lt position reach) [
      | inl old ↦ get_or-assembled fragments position (omega (arith, greatest, old))
      | inr past ↦
          get_or_past contents position 0 (omega (arith, contents_len, past))
          ∙ sym (byte_at-uncovered fragments position (uncovered_from_reach fragments position past))
    ] in
    let each : (position : ℕ) → position < max reach end
    → get_or (data_after contents fragment) position 0 ≡ byte_at (fragments ++ fragment ∷ []) position =
    λ position inside.
    get_or-overwritten longer start fragment.bytes position within
    ∙ ap (λ byte. cond (covers position fragment) (own_byte fragment position) byte) (before position)
    ∙ sym (byte_at-push fragments fragment position) in
    let extent : extent_of (fragments ++ fragment ∷ []) ≡ max reach end =
    EndIsGreatest-push limit fragments fragment greatest fits ∙ reach_of-push fragments fragment in
    rw extent
    (fill_by_all (byte_at (fragments ++ fragment ∷ []))
    (data_after contents fragment) (max reach end) 0
    (length-overwritten longer start fragment.bytes within ∙ longer_len) each)
