-- Fragments that a payload is cut into.
use Rattle.std.proofs.Common.{◌≡◌, ℕ, ◌+◌, ◌-◌, ◌%◌, ◌<◌, ◌≤◌, true, false, ◌↔◌, eqb, Option, List, [], ◌∷◌, length}
use Rattle.std.proofs.Common.{get_or, Some, None, is_some, IsTrue, sym, refl, ap, ◌∙◌, ◌⊎◌, inl, inr, arith}
use Rattle.std.specs.List.{AllByRecursion, Any, list_any}
use Rattle.std.specs.Option.{unwrap_or}
use Rattle.std.proofs.lemmas.Bool.{cases_Bool, false≢true, or_cases, and_parts, and_from, le-ltb, eq-eqb, and_left}
use Rattle.std.proofs.lemmas.Bool.{and_right, not_from_true, not_from_false, not-true, or_from}
use Rattle.std.proofs.lemmas.Bool.Decides.{nat_tests}
use Rattle.std.proofs.lemmas.List.Edits.{get_or-between}
use Rattle.std.proofs.lemmas.List.Folds.{Any-from_list_any, list_any-from_Any}
use Rattle.std.proofs.lemmas.List.FromFn.{fill_by_all}
use Rattle.ep_defrag.specs.IpFragments.{IpFragment, is_final, fragment_start, fragment_end, covers, is_covered}
use Rattle.ep_defrag.specs.IpFragments.{IsCovered, reach_of, end_of, byte_at, assembled, IsComplete}
use Rattle.ep_defrag.specs.FragmentRefusals.{is_unaligned, conflicts_with, ends_too_early, FitsWithin}
use Rattle.ep_defrag.specs.PayloadCuts.{IsCut}
use Rattle.ep_defrag.proofs.ListLemmas.{list_all-range, each_of_range}
use Rattle.ep_defrag.proofs.DataLemmas.{refusal_at-fits}

module _ (payload : List ℕ) where
  -- The known end of cuts, if any, is the end of the payload.
  end_of_cuts : (cuts : List IpFragment) → AllByRecursion (IsCut payload) cuts
      → (end_of cuts ≡ None) ⊎ (end_of cuts ≡ Some (length payload))
  end_of_cuts [] all = inl refl
  end_of_cuts (cut ∷ cuts) all = elim (cases_Bool cut.more) [
    | inl more ↦ rw more (end_of_cuts cuts all.1)
    | inr last ↦ rw last (inr (ap (λ (end : ℕ). Some end) (all.0.last (not_from_false cut.more last))))
  ]

  known_end_of_cuts : (known : Option ℕ) → (known ≡ None) ⊎ (known ≡ Some (length payload)) → is_some known ≡ true
      → unwrap_or known 0 ≡ length payload
  known_end_of_cuts known (inl unknown) some = absurd (false≢true (sym (ap is_some unknown) ∙ some))
  known_end_of_cuts known (inr is) some = ap (λ end. unwrap_or end 0) is

  -- The end is known if a final cut is among them.
  known_from_final : (cuts : List IpFragment) → list_any is_final cuts ≡ true → is_some (end_of cuts) ≡ true
  known_from_final [] final = absurd (false≢true final)
  known_from_final (cut ∷ cuts) final = elim (cases_Bool cut.more) [
    | inl more ↦ rw more (known_from_final cuts (rw more at final))
    | inr last ↦ rw last refl
  ]

  final_from_known : (cuts : List IpFragment) → is_some (end_of cuts) ≡ true → list_any is_final cuts ≡ true
  final_from_known [] known = absurd (false≢true known)
  final_from_known (cut ∷ cuts) known = elim (cases_Bool cut.more) [
    | inl more ↦ rw more (final_from_known cuts (rw more at known))
    | inr last ↦ rw last refl
  ]

  -- Cuts do not end after the payload.
  reach_of_cuts : (cuts : List IpFragment) → AllByRecursion (IsCut payload) cuts → reach_of cuts ≤ length payload
  reach_of_cuts [] all = omega arith
  reach_of_cuts (cut ∷ cuts) all = omega (arith, all.0.within, reach_of_cuts cuts all.1)

  -- A cut that is final or has a multiple of 8 bytes is not unaligned.
  unaligned_not : (cut : IpFragment) → IsTrue (is_final cut) ⊎ (length cut.bytes % 8 ≡ 0) → is_unaligned cut ≡ false
  unaligned_not cut (inl final) = and_left cut.more _ (not-true cut.more final)
  unaligned_not cut (inr multiple) =
      and_right cut.more _ (not_from_true (eqb (length cut.bytes % 8) 0) (eq-eqb (length cut.bytes % 8) 0 multiple))

  conflicts_not : (cut : IpFragment) → IsCut payload cut → conflicts_with (length payload) cut ≡ false
  conflicts_not cut is_cut =
      or_from _ _ (le-ltb (length payload) (fragment_end cut) is_cut.within)
      (elim (cases_Bool cut.more) [
        | inl more ↦ and_left _ _ (not_from_true cut.more more)
        | inr last ↦ and_right (is_final cut) _
            (not_from_true (eqb (fragment_end cut) (length payload))
            (eq-eqb _ _ (is_cut.last (not_from_false cut.more last))))
      ])

  -- A final cut does not end below the greatest end.
  early_not : (reach : ℕ) (cut : IpFragment) → reach ≤ length payload → IsCut payload cut
      → ends_too_early reach cut ≡ false
  early_not reach cut within is_cut = elim (cases_Bool cut.more) [
    | inl more ↦ and_left _ _ (not_from_true cut.more more)
    | inr last ↦ and_right (is_final cut) _
        (le-ltb (fragment_end cut) reach (omega (arith, within, is_cut.last (not_from_false cut.more last))))
  ]

  pub cut_fits_after : (limit : ℕ) (cuts : List IpFragment) (cut : IpFragment) → length payload ≤ limit
      → AllByRecursion (IsCut payload) cuts → IsCut payload cut → IsTrue (is_final cut) ⊎ (length cut.bytes % 8 ≡ 0)
      → FitsWithin limit cuts cut
  cut_fits_after limit cuts cut short all is_cut shape =
      refusal_at-fits limit (end_of cuts) (reach_of cuts) cut
      (record {
        short = omega (arith, is_cut.within);
        aligned = unaligned_not cut shape;
        agrees = elim (end_of_cuts cuts all) [
          | inl unknown ↦ rw unknown (early_not (reach_of cuts) cut (reach_of_cuts cuts all) is_cut)
          | inr known ↦ rw known (conflicts_not cut is_cut)
        ];
      })

  -- At a covered position the byte is that of the payload.
  byte_of_cuts : (cuts : List IpFragment) → AllByRecursion (IsCut payload) cuts → (position : ℕ)
      → is_covered cuts position ≡ true → byte_at cuts position ≡ get_or payload position 0
  byte_of_cuts [] all position covered = absurd (false≢true covered)
  byte_of_cuts (cut ∷ cuts) all position covered = elim (cases_Bool (is_covered cuts position)) [
    | inl later ↦ rw later (byte_of_cuts cuts all.1 position later)
    | inr not_later ↦ elim (or_cases (covers position cut) (is_covered cuts position) covered) [
      | inr later ↦ absurd (false≢true (sym not_later ∙ later))
      | inl here ↦
          let inside : (fragment_start cut ≤ position) × (position < fragment_end cut) =
          grind (arith, nat_tests, here) in
          let place : fragment_start cut + (position - fragment_start cut) ≡ position = omega arith in
          rw (not_later, here)
          (ap (λ bytes. get_or bytes (position - fragment_start cut) 0) all.0.same
          ∙ get_or-between payload (fragment_start cut) (fragment_end cut) (position - fragment_start cut) 0
          (omega arith)
          ∙ ap (λ at. get_or payload at 0) place)
    ]
  ]

  module _ (cuts : List IpFragment) (all : AllByRecursion (IsCut payload) cuts) where
    -- Cuts are complete exactly if a final one is among them and they cover the payload.
    pub complete_cuts : IsComplete cuts
        ↔ (Any (λ cut. IsTrue (is_final cut)) cuts
        × ((position : ℕ) → position < length payload → IsCovered cuts position))
    complete_cuts = (
      λ complete.
          let parts = and_parts (is_some (end_of cuts)) _ complete in
          let end = known_end_of_cuts (end_of cuts) (end_of_cuts cuts all) parts.0 in (
            Any-from_list_any is_final cuts (final_from_known cuts parts.0),
            λ position below. each_of_range (is_covered cuts) 0 (unwrap_or (end_of cuts) 0) parts.1 position
                (omega arith) (omega (arith, end, below)),
          ),
      λ both.
          let known = known_from_final cuts (list_any-from_Any is_final cuts both.0) in
          let end = known_end_of_cuts (end_of cuts) (end_of_cuts cuts all) known in
          and_from _ _ known
          (list_all-range (is_covered cuts) 0 (unwrap_or (end_of cuts) 0)
          (λ position low high. both.1 position (omega (arith, end, high)))),
    )

    -- Complete cuts reassemble to the payload.
    pub assembled-cuts : IsComplete cuts → assembled cuts ≡ payload
    assembled-cuts complete =
        let parts = and_parts (is_some (end_of cuts)) _ complete in
        let covered = (complete_cuts.0 complete).1 in
        elim (end_of_cuts cuts all) [
          | inl unknown ↦ absurd (false≢true (sym (ap is_some unknown) ∙ parts.0))
          | inr known ↦ rw known
              (sym (fill_by_all (byte_at cuts) payload (length payload) 0 refl
              (λ position below. sym (byte_of_cuts cuts all position (covered position below)))))
        ]
