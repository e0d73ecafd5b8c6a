-- Fragments that complete a list of accepted ones.
use Rattle.std.proofs.Common.{◌≡◌, ℕ, ◌^◌, ◌<◌, ◌≤◌, max, true, false, ltb, List, [], ◌∷◌, ◌++◌, append_assoc, length}
use Rattle.std.proofs.Common.{Option, Some, None, refl, ap, ◌∙◌, inl, inr, arith}
use Rattle.std.specs.List.{AllByRecursion}
use Rattle.std.specs.Option.{option_or, unwrap_or}
use Rattle.std.proofs.lemmas.Bool.{cases_Bool, cases_lt, or_left, or_right, lt-ltb, ltb-true}
use Rattle.std.proofs.lemmas.Bool.Decides.{nat_tests}
use Rattle.std.proofs.lemmas.List.{append-nil}
use Rattle.ep_defrag.specs.IpFragments.{IpFragment, fragment_with, fragment_end, covers, is_covered, reach_of, end_of}
use Rattle.ep_defrag.specs.IpFragments.{is_complete, IsComplete}
use Rattle.ep_defrag.specs.FragmentRefusals.{end_row, FitsWithin, FitAfterWithin, FitInTurnWithin, is_unaligned}
use Rattle.ep_defrag.specs.Completing.{completed_end, split_offset, FillBoth, opening_fragment, final_fragment, is_part}
use Rattle.ep_defrag.specs.Completing.{CompleteInTurn}
use Rattle.ep_defrag.proofs.ListLemmas.{list_all-range}
use Rattle.ep_defrag.proofs.DataLemmas.{reach_of-push, end_of-push, is_covered-push, fits_at, refusal_at-fits}
use Rattle.ep_defrag.proofs.DataLemmas.{end_is_greatest}

-- ---- the greatest end of a list
reach_after : (limit : ℕ) (earlier later : List IpFragment) → reach_of earlier ≤ limit
    → FitAfterWithin limit earlier later → reach_of (earlier ++ later) ≤ limit
reach_after limit earlier [] short fit = rw (append-nil earlier) short
reach_after limit earlier (fragment ∷ later) short fit =
    let fits = fits_at limit (end_of earlier) (reach_of earlier) fragment fit.0 in
    rw (append_assoc earlier (fragment ∷ []) later)
    at (reach_after limit (earlier ++ fragment ∷ []) later
    (omega (arith, reach_of-push earlier fragment, short, fits.short)) fit.1)

pub reach_short : (limit : ℕ) (fragments : List IpFragment) → FitInTurnWithin limit fragments
    → reach_of fragments ≤ limit
reach_short limit fragments fit = reach_after limit [] fragments (omega arith) fit

-- ---- when ends agree
-- A final fragment agrees if it ends at the known end, or else not before the greatest end.
final_agrees : (known : Option ℕ) (reach entire : ℕ) (fragment : IpFragment) → reach ≤ entire
    → fragment_end fragment ≡ unwrap_or known entire → fragment.more ≡ false
    → (end_row known reach fragment).0 ≡ false
final_agrees None reach entire fragment within end last = grind (arith, nat_tests, within, end)
final_agrees (Some known) reach entire fragment within end last = grind (arith, nat_tests, end)

-- A fragment that is followed by more agrees if it does not end after the known end.
more_agrees : (known : Option ℕ) (reach entire : ℕ) (fragment : IpFragment)
    → fragment_end fragment ≤ unwrap_or known entire → fragment.more ≡ true → (end_row known reach fragment).0 ≡ false
more_agrees None reach entire fragment within more = rw more refl
more_agrees (Some known) reach entire fragment within more = rw more (grind (arith, nat_tests, within))

-- After such a final fragment the known end is the former one, or else the fragment's.
known_with : (known : Option ℕ) (entire end : ℕ) → end ≡ unwrap_or known entire
    → option_or known (Some end) ≡ Some (unwrap_or known entire)
known_with None entire end same = ap (λ (n : ℕ). Some n) same
known_with (Some known) entire end same = refl

complete_to : (fragments : List IpFragment) (end : ℕ) → end_of fragments ≡ Some end
    → ((position : ℕ) → position < end → is_covered fragments position ≡ true) → is_complete fragments ≡ true
complete_to fragments end known covered =
    rw known (list_all-range (is_covered fragments) 0 end (λ position low high. covered position (omega (arith, high))))

none_more : (known : Option ℕ) → option_or known None ≡ known
none_more None = refl
none_more (Some end) = refl

-- A fragment that ends within the known end, or else within the greatest end and 8, does not increase the greatest of
-- both.
no_further : (known : Option ℕ) (reach end : ℕ) → unwrap_or known reach ≡ reach → end ≤ unwrap_or known (max reach 8)
    → max reach end ≤ max reach 8
no_further None reach end same within = omega (arith, within)
no_further (Some known) reach end same within = omega (arith, same, within)

-- An end below 8 is a known end.
small_known : (known : Option ℕ) (reach : ℕ) → unwrap_or known (max reach 8) < 8
    → known ≡ Some (unwrap_or known (max reach 8))
small_known None reach small = absurd (omega (arith, small))
small_known (Some end) reach small = refl

small_final : (fragments : List IpFragment) (end position : ℕ) → end_of fragments ≡ Some end → end < 8
    → position < end → is_covered fragments position ≡ true
small_final [] end position known small below = absurd (cc)
small_final (fragment ∷ fragments) end position known small below = elim (cases_Bool fragment.more) [
  | inl more ↦ or_right (covers position fragment) (is_covered fragments position)
      (small_final fragments end position (rw more at known) small below)
  | inr last ↦
      let known_here : Some (fragment_end fragment) ≡ Some end = rw last at known in
      let same : fragment_end fragment ≡ end = cc in
      or_left (covers position fragment) (is_covered fragments position) (grind (arith, nat_tests, same, small, below))
]

-- ---- one fragment
module _ (limit : ℕ) (accepted : List IpFragment) (fit : FitInTurnWithin limit accepted) where
  greatest : unwrap_or (end_of accepted) (reach_of accepted) ≡ reach_of accepted
  greatest = end_is_greatest limit accepted fit

  module _ (bytes : List ℕ) (len : length bytes ≡ reach_of accepted) where
    abbrev last : IpFragment
    last = fragment_with 0 false bytes

    last_end : fragment_end last ≡ unwrap_or (end_of accepted) (reach_of accepted)
    last_end = omega (arith, len, greatest)

    pub one_fits : FitsWithin limit accepted last
    one_fits =
        refusal_at-fits limit (end_of accepted) (reach_of accepted) last
        (record {
          short = omega (arith, len, reach_short limit accepted fit);
          aligned = refl;
          agrees = final_agrees (end_of accepted) (reach_of accepted) (reach_of accepted) last (omega arith) last_end
              refl;
        })

    pub one_completes : IsComplete (accepted ++ last ∷ [])
    one_completes =
        complete_to (accepted ++ last ∷ []) (unwrap_or (end_of accepted) (reach_of accepted))
        (end_of-push accepted last ∙ known_with (end_of accepted) (reach_of accepted) (fragment_end last) last_end)
        (λ position below.
        is_covered-push accepted last position
        ∙ or_right (is_covered accepted position) (covers position last)
        (grind (arith, nat_tests, len, greatest, below)))

  -- ---- two fragments
  abbrev entire : ℕ
  entire = completed_end accepted

  complete_short : (known : Option ℕ) → unwrap_or known (reach_of accepted) ≡ reach_of accepted
      → 8 ≤ limit → unwrap_or known (max (reach_of accepted) 8) ≤ limit
  complete_short None same least = omega (arith, least, reach_short limit accepted fit)
  complete_short (Some end) same least = omega (arith, same, reach_short limit accepted fit)

  module _ (prefix back : List ℕ) (fill : FillBoth accepted prefix back) (least : 8 ≤ limit) where
    abbrev first : IpFragment
    first = opening_fragment prefix

    abbrev second : IpFragment
    second = final_fragment accepted back

    abbrev with_first : List IpFragment
    with_first = accepted ++ first ∷ []

    prefix_end : fragment_end first ≤ entire
    prefix_end = omega (arith, fill.both_len)

    short : entire ≤ limit
    short = complete_short (end_of accepted) greatest least

    aligned : is_unaligned first ≡ false
    aligned = grind (arith, nat_tests, fill.first_len)

    first_fits : FitsWithin limit accepted first
    first_fits =
        refusal_at-fits limit (end_of accepted) (reach_of accepted) first
        (record {
          short = omega (arith, prefix_end, short);
          aligned = aligned;
          agrees = more_agrees (end_of accepted) (reach_of accepted) (max (reach_of accepted) 8) first
              prefix_end refl;
        })

    -- The first fragment does not set the end.
    same_end : end_of with_first ≡ end_of accepted
    same_end = end_of-push accepted first ∙ none_more (end_of accepted)

    second_end : fragment_end second ≡ entire
    second_end = omega (arith, fill.first_len, fill.both_len)

    second_fits : FitsWithin limit with_first second
    second_fits =
        refusal_at-fits limit (end_of with_first) (reach_of with_first) second
        (record {
          short = omega (arith, second_end, short);
          aligned = refl;
          agrees =
              rw (same_end, reach_of-push accepted first)
              (final_agrees (end_of accepted) (max (reach_of accepted) (fragment_end first)) (max (reach_of accepted) 8)
              second (no_further (end_of accepted) (reach_of accepted) (fragment_end first) greatest prefix_end)
              second_end
              refl);
        })

    -- A frame can carry either fragment.
    pub parts_short : limit ≤ 65535 → (length prefix ≤ 32768) × (length back ≤ 32768) × (split_offset entire < 2 ^ 13)
    parts_short most =
        (omega (arith, fill.first_len), omega (arith, fill.first_len, fill.both_len, short, most), omega arith)

    covered : (position : ℕ) → position < entire → is_covered (with_first ++ second ∷ []) position ≡ true
    covered position below =
        is_covered-push with_first second position ∙ elim (cases_lt position (length prefix)) [
          | inl within ↦ or_left _ _
              (is_covered-push accepted first position
              ∙ or_right (is_covered accepted position) (covers position first) (grind (arith, nat_tests, within)))
          | inr after ↦ or_right (is_covered with_first position) (covers position second)
              (grind (arith, nat_tests, after, below, fill.first_len, fill.both_len))
        ]

    complete : IsComplete (accepted ++ first ∷ second ∷ [])
    complete =
        rw (append_assoc accepted (first ∷ []) (second ∷ []))
        at (complete_to (with_first ++ second ∷ []) entire
        (end_of-push with_first second ∙ ap (λ known. option_or known (Some (fragment_end second))) same_end
        ∙ known_with (end_of accepted) (max (reach_of accepted) 8) (fragment_end second) second_end)
        covered)

    -- If the second fragment would have offset 0, the end is known and below 8, and nothing is missing.
    complete_if_small : entire < 8 → is_complete with_first ≡ true
    complete_if_small small =
        let known : end_of accepted ≡ Some entire = small_known (end_of accepted) (reach_of accepted) small in
        complete_to with_first entire (same_end ∙ known)
        (λ position below.
        is_covered-push accepted first position
        ∙ or_left _ _ (small_final accepted entire position known small below))

    pub two_complete : CompleteInTurn limit accepted first second
    two_complete = record {
      first_fits = first_fits;
      second_fits = second_fits;
      complete = complete;
      first_part = refl;
      second_part = elim (cases_lt 0 (split_offset entire)) [
        | inl some ↦ inr (lt-ltb 0 (split_offset entire) some)
        | inr none ↦ inl (complete_if_small (omega (arith, none)))
      ];
      short = λ most. let parts = parts_short most in (parts.0, parts.1);
    }

-- ---- limits below 8
-- Within such a limit a fragment that a frame can carry is not final.
small_more : (limit : ℕ) (fragment : IpFragment) → limit < 8 → fragment_end fragment ≤ limit
    → is_part fragment ≡ true → fragment.more ≡ true
small_more limit fragment small short part = elim (cases_Bool fragment.more) [
  | inl more ↦ more
  | inr last ↦
      let after : ltb 0 fragment.offset ≡ true = rw last at part in
      let some : 0 < fragment.offset = ltb-true 0 fragment.offset after in
      absurd (omega (arith, small, short, some))
]

small_none : (limit : ℕ) (earlier later : List IpFragment) → limit < 8 → FitAfterWithin limit earlier later
    → AllByRecursion (λ fragment. is_part fragment ≡ true) later → end_of later ≡ None
small_none limit earlier [] small fit parts = refl
small_none limit earlier (fragment ∷ later) small fit parts =
    let fits = fits_at limit (end_of earlier) (reach_of earlier) fragment fit.0 in
    rw (small_more limit fragment small fits.short parts.0)
    (small_none limit (earlier ++ fragment ∷ []) later small fit.1 parts.1)

pub small_not_complete : (limit : ℕ) (accepted : List IpFragment) → limit < 8 → FitInTurnWithin limit accepted
    → AllByRecursion (λ fragment. is_part fragment ≡ true) accepted → is_complete accepted ≡ false
small_not_complete limit accepted small fit parts = rw (small_none limit [] accepted small fit parts) refl
