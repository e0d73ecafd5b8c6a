-- Streams under the policy `Discard`: which fragments agree with the accepted ones, and with the payload.
use Rattle.std.proofs.Common.{◌≡◌, ℕ, ◌+◌, ◌-◌, ◌<◌, ◌≤◌, Bool, true, false, ◌||◌, cond, List, []}
use Rattle.std.proofs.Common.{◌∷◌, ◌++◌, length, get_or, Option, Some, None}
use Rattle.std.proofs.Common.{sym, refl, ap, subst, ◌∙◌, ◌⊎◌, inl, inr, arith}
use Rattle.std.specs.List.{AllByRecursion, slice_range}
use Rattle.std.specs.Option.{option_or, unwrap_or}
use Rattle.std.proofs.lemmas.Bool.{cases_Bool, false≢true, and_parts, and_right, le-ltb, eqb-true}
use Rattle.std.proofs.lemmas.Bool.{not-false, not-true}
use Rattle.std.proofs.lemmas.Bool.Decides.{nat_tests}
use Rattle.std.proofs.lemmas.Grind.{same_number_lists}
use Rattle.std.proofs.lemmas.List.Edits.{get_or-between, length-between}
use Rattle.ep_defrag.specs.declared.ip_defrag_error.IpDefragError.{IpDefragError}
use Rattle.ep_defrag.specs.IpFragments.{IpFragment, is_final, fragment_start, fragment_end, covers, is_covered, reach_of}
use Rattle.ep_defrag.specs.IpFragments.{end_of, byte_at, assembled, is_complete, IsComplete}
use Rattle.ep_defrag.specs.FragmentRefusals.{ends_too_early, end_row, refusal_at_within, refusal_within, FitsWithin}
use Rattle.ep_defrag.specs.FragmentRefusals.{FitInTurnWithin}
use Rattle.ep_defrag.specs.PayloadCuts.{IsCut}
use Rattle.ep_defrag.specs.BoundedOverlaps.{shares_position, repeats_bytes, contradicts, is_conflicting_end}
use Rattle.ep_defrag.specs.BoundedRuns.{Lone, lone_open, lone_discarded, lone_complete, lone_extended, lone_with}
use Rattle.ep_defrag.specs.BoundedRuns.{lone_after}
use Rattle.ep_defrag.proofs.ListLemmas.{any_of_range, each_of_range}
use Rattle.ep_defrag.proofs.DataLemmas.{is_covered-push, reach_of-push, end_of-push, own_end, own_byte, byte_at-push}
use Rattle.ep_defrag.proofs.DataLemmas.{fits_at, refusal_at-fits, agrees_with, FitAfter-push, extent_of}
use Rattle.ep_defrag.proofs.CutLemmas.{assembled-cuts}
use Rattle.ep_defrag.proofs.DataLemmas.{EndIsGreatest, end_is_greatest, length-assembled, get_or-assembled}

-- ---- fragments that agree with accepted ones
-- Holds if the accepted fragments have the bytes of a fragment, reach to its end, and end there if it is final.
pub record IsAgreed (accepted : List IpFragment) (fragment : IpFragment) : Type 0 where
  pub covered : (position : ℕ) → covers position fragment ≡ true → is_covered accepted position ≡ true
  pub bytes : (position : ℕ) → covers position fragment ≡ true
      → byte_at accepted position ≡ own_byte fragment position
  pub end : fragment.more ≡ false → end_of accepted ≡ Some (fragment_end fragment)
  pub reach : fragment_end fragment ≤ reach_of accepted

covers_within : (position : ℕ) (fragment : IpFragment) → covers position fragment ≡ true
    → (fragment_start fragment ≤ position) × (position < fragment_start fragment + length fragment.bytes)
covers_within position fragment here = grind (arith, nat_tests, here)

-- Where a fragment that contradicts nothing shares a position, it has the byte that came.
same_byte : (accepted : List IpFragment) (fragment : IpFragment) → contradicts accepted fragment ≡ false
    → (position : ℕ) → covers position fragment ≡ true → is_covered accepted position ≡ true
    → byte_at accepted position ≡ own_byte fragment position
same_byte accepted fragment agrees position here came =
    let inside = covers_within position fragment here in
    let start = fragment_start fragment in
    let len = length fragment.bytes in
    let shares : shares_position accepted fragment ≡ true =
    any_of_range (is_covered accepted) start len position inside.0 inside.1 came in
    let repeats : repeats_bytes accepted fragment ≡ true =
    not-false (repeats_bytes accepted fragment) (rw shares at agrees) in
    eqb-true _ _ (and_parts _ _ (each_of_range _ start len repeats position inside.0 inside.1)).1

or_true : (a : Bool) → (a || true) ≡ true
or_true true = refl
or_true false = refl

pub IsAgreed-push : (accepted : List IpFragment) (fragment other : IpFragment) → contradicts accepted fragment ≡ false
    → IsAgreed accepted other → IsAgreed (accepted ++ fragment ∷ []) other
IsAgreed-push accepted fragment other agrees agreed = record {
  covered = λ position inside.
      is_covered-push accepted fragment position
      ∙ ap (λ t. t || covers position fragment) (agreed.covered position inside);
  bytes = λ position inside.
      byte_at-push accepted fragment position
      ∙ elim (cases_Bool (covers position fragment)) [
        | inl here ↦ rw here
            (sym (same_byte accepted fragment agrees position here (agreed.covered position inside))
            ∙ agreed.bytes position inside)
        | inr away ↦ rw away (agreed.bytes position inside)
      ];
  end = λ last. end_of-push accepted fragment ∙ ap (λ known. option_or known (own_end fragment)) (agreed.end last);
  reach = omega (arith, agreed.reach, reach_of-push accepted fragment);
}

end_with : (limit : ℕ) (known : Option ℕ) (reach : ℕ) (fragment : IpFragment)
    → refusal_at_within limit known reach fragment ≡ None → fragment.more ≡ false
    → option_or known (own_end fragment) ≡ Some (fragment_end fragment)
end_with limit None reach fragment fits last = rw last refl
end_with limit (Some end) reach fragment fits last =
    ap (λ (at : ℕ). Some at)
    (sym ((agrees_with end fragment (fits_at limit (Some end) reach fragment fits).agrees).1 last))

pub IsAgreed-own : (limit : ℕ) (accepted : List IpFragment) (fragment : IpFragment) → FitsWithin limit accepted fragment
    → IsAgreed (accepted ++ fragment ∷ []) fragment
IsAgreed-own limit accepted fragment fits = record {
  covered = λ position here.
      is_covered-push accepted fragment position
      ∙ ap (λ t. is_covered accepted position || t) here
      ∙ or_true (is_covered accepted position);
  bytes = λ position here.
      byte_at-push accepted fragment position
      ∙ ap (λ t. cond t (own_byte fragment position) (byte_at accepted position)) here;
  end = λ last.
      end_of-push accepted fragment
      ∙ end_with limit (end_of accepted) (reach_of accepted) fragment fits last;
  reach = omega (arith, reach_of-push accepted fragment);
}

-- A fragment that agrees with complete ones is a part of their payload.
pub IsCut-from_agreed : (entire : List IpFragment) (fragment : IpFragment) → EndIsGreatest entire
    → IsAgreed entire fragment → IsCut (assembled entire) fragment
IsCut-from_agreed entire fragment greatest agreed =
    let start = fragment_start fragment in
    let end = fragment_end fragment in
    let payload = assembled entire in
    let len : length payload ≡ extent_of entire = length-assembled entire in
    let within : end ≤ length payload = omega (arith, len, greatest, agreed.reach) in
    record {
      within = within;
      same = same_number_lists fragment.bytes (slice_range payload start end)
          (omega (arith, length-between payload start end within))
          (λ k below.
          let position = start + k in
          let here : covers position fragment ≡ true = grind (arith, nat_tests, below) in
          let place : position - start ≡ k = omega arith in
          let inside : position < extent_of entire = omega (arith, len, within) in
          sym
          (get_or-between payload start end k 0 (omega arith)
          ∙ get_or-assembled entire position inside
          ∙ agreed.bytes position here
          ∙ ap (λ at. get_or fragment.bytes at 0) place));
      last = λ final.
          sym
          (len ∙ ap (λ known. unwrap_or known (reach_of entire)) (agreed.end (not-true fragment.more final)));
    }

-- ---- one more fragment
not_alone : (limit : ℕ) (known : Option ℕ) (reach : ℕ) (fragment : IpFragment) (error : IpDefragError)
    → FitsWithin limit [] fragment → refusal_at_within limit known reach fragment ≡ Some error
    → (end_row known reach fragment).1 ≡ error
not_alone limit known reach fragment error alone refused =
    let fits = fits_at limit None 0 fragment alone in
    let row : cond (end_row known reach fragment).0 (Some (end_row known reach fragment).1) None ≡ Some error =
    rw (le-ltb limit (fragment_end fragment) fits.short, fits.aligned) at refused in
    row_error (end_row known reach fragment).0 (end_row known reach fragment).1 error row
  where
    row_error : (test : Bool) (own error : IpDefragError) → cond test (Some own) None ≡ Some error → own ≡ error
    row_error true own error same = cc
    row_error false own error same = absurd (cc)

is_conflict : (known : Option ℕ) (reach : ℕ) (fragment : IpFragment)
    → is_conflicting_end (end_row known reach fragment).1 ≡ true
is_conflict None reach fragment = refl
is_conflict (Some end) reach fragment = refl

-- A fragment that fits alone is rejected by a conflict of ends only.
conflict_when_refused : (limit : ℕ) (accepted : List IpFragment) (fragment : IpFragment) (error : IpDefragError)
    → refusal_within limit accepted fragment ≡ Some error → FitsWithin limit [] fragment
    → is_conflicting_end error ≡ true
conflict_when_refused limit accepted fragment error refused alone =
    ap is_conflicting_end
    (sym (not_alone limit (end_of accepted) (reach_of accepted) fragment error alone refused))
    ∙ is_conflict (end_of accepted) (reach_of accepted) fragment

-- A fragment that fits after others fits alone.
pub fits_alone : (limit : ℕ) (accepted : List IpFragment) (fragment : IpFragment) → FitsWithin limit accepted fragment
    → FitsWithin limit [] fragment
fits_alone limit accepted fragment fits =
    let after = fits_at limit (end_of accepted) (reach_of accepted) fragment fits in
    let late : ends_too_early 0 fragment ≡ false =
    and_right (is_final fragment) _ (le-ltb (fragment_end fragment) 0 (omega arith)) in
    refusal_at-fits limit None 0 fragment (record { short = after.short; aligned = after.aligned; agrees = late })

-- Effect of one more fragment on an open stream.
data Outcome (limit : ℕ) (accepted : List IpFragment) (fragment : IpFragment) : Type 0 where
  rejects : (FitsWithin limit [] fragment → ⊥) → lone_with limit (lone_open accepted) fragment ≡ lone_open accepted
      → Outcome limit accepted fragment
  discards : lone_with limit (lone_open accepted) fragment ≡ lone_discarded → Outcome limit accepted fragment
  accepts : FitsWithin limit accepted fragment → contradicts accepted fragment ≡ false
      → lone_with limit (lone_open accepted) fragment ≡ lone_extended (accepted ++ fragment ∷ [])
      → Outcome limit accepted fragment

outcome_by : (limit : ℕ) (accepted : List IpFragment) (fragment : IpFragment) (error : Option IpDefragError)
    → refusal_within limit accepted fragment ≡ error → Outcome limit accepted fragment
outcome_by limit accepted fragment None fits = elim (cases_Bool (contradicts accepted fragment)) [
  | inl against ↦ discards (rw (fits, against) refl)
  | inr agrees ↦ accepts fits agrees (rw (fits, agrees) refl)
]
outcome_by limit accepted fragment (Some error) refused = elim (cases_Bool (is_conflicting_end error)) [
  | inl conflict ↦ discards (rw (refused, conflict) refl)
  | inr other ↦ rejects
      (λ alone. false≢true (sym other ∙ conflict_when_refused limit accepted fragment error refused alone))
      (rw (refused, other) refl)
]

outcome_of : (limit : ℕ) (accepted : List IpFragment) (fragment : IpFragment) → Outcome limit accepted fragment
outcome_of limit accepted fragment = outcome_by limit accepted fragment (refusal_within limit accepted fragment) refl

-- A stream that ended stays as it is.
discarded_stays : (limit : ℕ) (later : List IpFragment) → lone_after limit lone_discarded later ≡ lone_discarded
discarded_stays limit [] = refl
discarded_stays limit (fragment ∷ later) = discarded_stays limit later

complete_stays : (limit : ℕ) (accepted later : List IpFragment)
    → lone_after limit (lone_complete accepted) later ≡ lone_complete accepted
complete_stays limit accepted [] = refl
complete_stays limit accepted (fragment ∷ later) = complete_stays limit accepted later

open_same : (a b : List IpFragment) → lone_open a ≡ lone_open b → a ≡ b
open_same a b same = cc

complete_same : (a b : List IpFragment) → lone_complete a ≡ lone_complete b → a ≡ b
complete_same a b same = cc

-- An extended stream has these fragments, whether it is still open or complete.
open_extended : (limit : ℕ) (entire later accepted : List IpFragment)
    → lone_after limit (lone_extended entire) later ≡ lone_open accepted
    → (is_complete entire ≡ false) × (lone_after limit (lone_open entire) later ≡ lone_open accepted)
open_extended limit entire later accepted after = elim (cases_Bool (is_complete entire)) [
  | inl complete ↦
      let ended : lone_complete entire ≡ lone_open accepted =
      sym (complete_stays limit entire later) ∙ (rw complete at after) in
      absurd (cc)
  | inr incomplete ↦ (incomplete, rw incomplete at after)
]

complete_extended : (limit : ℕ) (entire later other : List IpFragment)
    → lone_after limit (lone_extended entire) later ≡ lone_complete other
    → ((is_complete entire ≡ true) × (entire ≡ other)) ⊎ (lone_after limit (lone_open entire) later ≡ lone_complete other)
complete_extended limit entire later other after = elim (cases_Bool (is_complete entire)) [
  | inl complete ↦
      inl (complete, complete_same entire other (sym (complete_stays limit entire later) ∙ (rw complete at after)))
  | inr incomplete ↦ inr (rw incomplete at after)
]

not_open : (limit : ℕ) (later accepted : List IpFragment)
    → lone_after limit lone_discarded later ≡ lone_open accepted → ⊥
not_open limit later accepted after =
    let ended : lone_discarded ≡ lone_open accepted = sym (discarded_stays limit later) ∙ after in cc

not_complete : (limit : ℕ) (later accepted : List IpFragment)
    → lone_after limit lone_discarded later ≡ lone_complete accepted → ⊥
not_complete limit later accepted after =
    let ended : lone_discarded ≡ lone_complete accepted = sym (discarded_stays limit later) ∙ after in cc

-- ---- lists of fragments
module _ (limit : ℕ) where
  -- stream after the rest of a list, from the stream after its first fragment on
  after_first : (accepted : List IpFragment) (fragment : IpFragment) (later : List IpFragment) (lone last : Lone)
      → lone_with limit (lone_open accepted) fragment ≡ lone
      → lone_after limit (lone_open accepted) (fragment ∷ later) ≡ last → lone_after limit lone later ≡ last
  after_first accepted fragment later lone last step after =
      ap (λ (from : Lone). lone_after limit from later) (sym step) ∙ after

  -- A fragment that agrees with the accepted ones of an open stream agrees with those accepted later.
  agreed_later : (accepted given later : List IpFragment) (other : IpFragment) → IsAgreed accepted other
      → lone_after limit (lone_open accepted) given ≡ lone_open later → IsAgreed later other
  agreed_later accepted [] later other agreed after =
      subst (λ (fragments : List IpFragment). IsAgreed fragments other) (open_same accepted later after) agreed
  agreed_later accepted (fragment ∷ given) later other agreed after = elim (outcome_of limit accepted fragment) [
    | rejects alone step ↦
        agreed_later accepted given later other agreed
        (after_first accepted fragment given (lone_open accepted) (lone_open later) step after)
    | discards step ↦
        absurd (not_open limit given later
        (after_first accepted fragment given lone_discarded (lone_open later) step after))
    | accepts fits agrees step ↦
        let entire = accepted ++ fragment ∷ [] in
        agreed_later entire given later other (IsAgreed-push accepted fragment other agrees agreed)
        (open_extended limit entire given later
        (after_first accepted fragment given (lone_extended entire) (lone_open later) step after)).1
  ]

  -- All fragments that an open stream was given agree with the accepted ones, but for those that never fit.
  all_agreed : (accepted given later : List IpFragment)
      → lone_after limit (lone_open accepted) given ≡ lone_open later
      → AllByRecursion (λ fragment. FitsWithin limit [] fragment → IsAgreed later fragment) given
  all_agreed accepted [] later after = tt
  all_agreed accepted (fragment ∷ given) later after = elim (outcome_of limit accepted fragment) [
    | rejects alone step ↦ (
      λ fits. absurd (alone fits),
      all_agreed accepted given later
          (after_first accepted fragment given (lone_open accepted) (lone_open later) step after),
    )
    | discards step ↦
        absurd (not_open limit given later
        (after_first accepted fragment given lone_discarded (lone_open later) step after))
    | accepts fits agrees step ↦
        let entire = accepted ++ fragment ∷ [] in
        let rest =
        (open_extended limit entire given later
        (after_first accepted fragment given (lone_extended entire) (lone_open later) step after)).1 in (
          λ alone. agreed_later entire given later fragment (IsAgreed-own limit accepted fragment fits) rest,
          all_agreed entire given later rest,
        )
  ]

  -- The accepted fragments of an open stream fit in turn.
  fit_later : (accepted given later : List IpFragment) → FitInTurnWithin limit accepted
      → lone_after limit (lone_open accepted) given ≡ lone_open later → FitInTurnWithin limit later
  fit_later accepted [] later fit after =
      subst (λ (fragments : List IpFragment). FitInTurnWithin limit fragments) (open_same accepted later after) fit
  fit_later accepted (fragment ∷ given) later fit after = elim (outcome_of limit accepted fragment) [
    | rejects alone step ↦
        fit_later accepted given later fit
        (after_first accepted fragment given (lone_open accepted) (lone_open later) step after)
    | discards step ↦
        absurd (not_open limit given later
        (after_first accepted fragment given lone_discarded (lone_open later) step after))
    | accepts fits agrees step ↦
        let entire = accepted ++ fragment ∷ [] in
        fit_later entire given later (FitAfter-push limit [] accepted fragment fit fits)
        (open_extended limit entire given later
        (after_first accepted fragment given (lone_extended entire) (lone_open later) step after)).1
  ]

  -- The accepted fragments of a complete stream have what each given one has that fits alone, and are complete.
  complete_later : (P : IpFragment → Type 0) (accepted given other : List IpFragment) → AllByRecursion P accepted
      → AllByRecursion (λ fragment. FitsWithin limit [] fragment → P fragment) given
      → lone_after limit (lone_open accepted) given ≡ lone_complete other → AllByRecursion P other × IsComplete other
  complete_later P accepted [] other all each after =
      let still : lone_open accepted ≡ lone_complete other = after in absurd (cc)
  complete_later P accepted (fragment ∷ given) other all each after = elim (outcome_of limit accepted fragment) [
    | rejects alone step ↦
        complete_later P accepted given other all each.1
        (after_first accepted fragment given (lone_open accepted) (lone_complete other) step after)
    | discards step ↦
        absurd (not_complete limit given other
        (after_first accepted fragment given lone_discarded (lone_complete other) step after))
    | accepts fits agrees step ↦
        let entire = accepted ++ fragment ∷ [] in
        let holds = all_with P accepted fragment all (each.0 (fits_alone limit accepted fragment fits)) in
        elim (complete_extended limit entire given other
        (after_first accepted fragment given (lone_extended entire) (lone_complete other) step after)) [
          | inl ended ↦ (
            subst (λ (fragments : List IpFragment). AllByRecursion P fragments) ended.1 holds,
            subst (λ (fragments : List IpFragment). IsComplete fragments) ended.1 ended.0,
          )
          | inr later ↦ complete_later P entire given other holds each.1 later
        ]
  ]
    where
      all_with : (P : IpFragment → Type 0) (accepted : List IpFragment) (fragment : IpFragment)
          → AllByRecursion P accepted → P fragment → AllByRecursion P (accepted ++ fragment ∷ [])
      all_with P [] fragment all here = (here, tt)
      all_with P (first ∷ accepted) fragment all here = (all.0, all_with P accepted fragment all.1 here)

  module _ (given : List IpFragment) (last : IpFragment) (accepted entire : List IpFragment)
      (begun : lone_after limit (lone_open []) given ≡ lone_open accepted)
      (ended : lone_with limit (lone_open accepted) last ≡ lone_complete entire) where
    -- Each given fragment that fits alone is a part of the payload.
    pub all_cuts : AllByRecursion (λ fragment. FitsWithin limit [] fragment → IsCut (assembled entire) fragment)
        (given ++ last ∷ [])
    all_cuts = elim (outcome_of limit accepted last) [
      | rejects alone step ↦
          let still : lone_open accepted ≡ lone_complete entire = sym step ∙ ended in absurd (cc)
      | discards step ↦ let none : lone_discarded ≡ lone_complete entire = sym step ∙ ended in absurd (cc)
      | accepts fits agrees step ↦ by_last fits agrees (sym step ∙ ended)
    ]
      where
        extended_is : (all : List IpFragment) → lone_extended all ≡ lone_complete entire → all ≡ entire
        extended_is all same = elim (cases_Bool (is_complete all)) [
          | inl complete ↦ complete_same all entire (rw complete at same)
          | inr incomplete ↦
              let still : lone_open all ≡ lone_complete entire = rw incomplete at same in absurd (cc)
        ]

        cuts_of : (all others : List IpFragment) → EndIsGreatest all
            → AllByRecursion (λ fragment. FitsWithin limit [] fragment → IsAgreed all fragment) others
            → AllByRecursion (λ fragment. FitsWithin limit [] fragment → IsCut (assembled all) fragment) others
        cuts_of all [] greatest agreed = tt
        cuts_of all (other ∷ others) greatest agreed = (
          λ fits. IsCut-from_agreed all other greatest (agreed.0 fits),
          cuts_of all others greatest agreed.1,
        )

        agreed_with : (others : List IpFragment) → FitsWithin limit accepted last → contradicts accepted last ≡ false
            → AllByRecursion (λ fragment. FitsWithin limit [] fragment → IsAgreed accepted fragment) others
            → AllByRecursion (λ fragment. FitsWithin limit [] fragment → IsAgreed (accepted ++ last ∷ []) fragment)
            (others ++ last ∷ [])
        agreed_with [] fits agrees agreed = (λ alone. IsAgreed-own limit accepted last fits, tt)
        agreed_with (other ∷ others) fits agrees agreed = (
          λ alone. IsAgreed-push accepted last other agrees (agreed.0 alone),
          agreed_with others fits agrees agreed.1,
        )

        by_last : FitsWithin limit accepted last → contradicts accepted last ≡ false
            → lone_extended (accepted ++ last ∷ []) ≡ lone_complete entire
            → AllByRecursion (λ fragment. FitsWithin limit [] fragment → IsCut (assembled entire) fragment)
            (given ++ last ∷ [])
        by_last fits agrees same =
            let all = accepted ++ last ∷ [] in
            let fit = FitAfter-push limit [] accepted last (fit_later [] given accepted tt begun) fits in
            subst
            (λ (fragments : List IpFragment).
            AllByRecursion (λ fragment. FitsWithin limit [] fragment → IsCut (assembled fragments) fragment)
            (given ++ last ∷ []))
            (extended_is all same)
            (cuts_of all (given ++ last ∷ []) (end_is_greatest limit all fit)
            (agreed_with given fits agrees (all_agreed [] given accepted begun)))

    -- Another order that is complete has the payload.
    pub same_in_order : (order other : List IpFragment)
        → AllByRecursion (λ fragment. FitsWithin limit [] fragment → IsCut (assembled entire) fragment) order
        → lone_after limit (lone_open []) order ≡ lone_complete other → assembled other ≡ assembled entire
    same_in_order order other each after =
        let cuts = complete_later (IsCut (assembled entire)) [] order other tt each after in
        assembled-cuts (assembled entire) other cuts.0 cuts.1
