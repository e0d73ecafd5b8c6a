-- The number of sections: each starts where a fragment does, at another multiple of 8.
use Rattle.std.proofs.Common.{◌≡◌, ℕ, zero, suc, ◌+◌, ◌*◌, ◌/◌, ◌<◌, ◌≤◌, true, false, ◌||◌, List, [], ◌∷◌, length}
use Rattle.std.proofs.Common.{Option, Some, None, sym, ap, ◌∙◌, inl, inr, arith}
use Rattle.std.specs.Prelude.{IfSome}
use Rattle.std.specs.List.{list_any}
use Rattle.std.proofs.lemmas.Bool.{cases_Bool, false≢true, or_cases, or_left, or_right}
use Rattle.std.proofs.lemmas.Bool.Decides.{nat_tests}
use Rattle.ep_defrag.specs.declared.ip_frag_range.IpFragRange.{IpFragRange}
use Rattle.ep_defrag.specs.declared.ip_defrag_buf.IpDefragBuf.{IpDefragBuf}
use Rattle.ep_defrag.specs.Ranges.{has_byte, touches}
use Rattle.ep_defrag.specs.IpFragments.{IpFragment, range_of, covers, is_covered, is_touched, reach_of}
use Rattle.ep_defrag.specs.FragmentRefusals.{FitInTurnWithin}
use Rattle.ep_defrag.specs.Buffers.{HoldsFragments, sections_of}
use Rattle.ep_defrag.specs.Calls.{Kept}
use Rattle.ep_defrag.specs.Pools.{Stream, HoldsEntry}
use Rattle.ep_defrag.proofs.ApartLemmas.{AreApartFrom, from_apart, none_before, has_byte_at, touches_start}
use Rattle.ep_defrag.proofs.CompleteLemmas.{touched_to_reach}
use Rattle.ep_defrag.proofs.CompletingLemmas.{reach_short}

-- If fragments touch a position and have no byte before it, one starts there, so the position is a multiple of 8.
unit_after : (fragments : List IpFragment) (before : ℕ) → is_touched fragments (suc before) ≡ true
    → is_covered fragments before ≡ false → (units : ℕ) × (suc before ≡ 8 * units)
unit_after [] before touched free = absurd (false≢true touched)
unit_after (fragment ∷ fragments) before touched free = elim (cases_Bool (covers before fragment)) [
  | inl here ↦ absurd (false≢true (sym free ∙ or_left (covers before fragment) (is_covered fragments before) here))
  | inr away ↦ elim (or_cases (touches (suc before) (range_of fragment)) (is_touched fragments (suc before)) touched) [
    | inl here ↦ (fragment.offset, grind (arith, nat_tests, away, here))
    | inr later ↦ unit_after fragments before later
        (sym (ap (λ t. t || is_covered fragments before) away) ∙ free)
  ]
]

unit_at : (fragments : List IpFragment) (position : ℕ) → is_touched fragments position ≡ true
    → ((before : ℕ) → suc before ≡ position → is_covered fragments before ≡ false)
    → (units : ℕ) × (position ≡ 8 * units)
unit_at fragments zero touched free = (0, omega arith)
unit_at fragments (suc before) touched free = unit_after fragments before touched (free before (omega arith))

past_end : (position : ℕ) (range : IpFragRange) → range.end ≤ position → has_byte position range ≡ false
past_end position range past = grind (arith, nat_tests)

module _ (fragments : List IpFragment) (bound : ℕ) (short : reach_of fragments < 8 * bound) where
  -- Bounds the number of sections from a position on, given the number of multiples of 8 before it, if they touch no
  -- other positions than the fragments and have each byte that the fragments have there.
  few : (units least : ℕ) (sections : List IpFragRange) → AreApartFrom least sections → units ≤ bound
      → 8 * units < least + 8
      → ((position : ℕ) → list_any (touches position) sections ≡ true → is_touched fragments position ≡ true)
      → ((position : ℕ) → least ≤ suc position → is_covered fragments position ≡ true
      → list_any (has_byte position) sections ≡ true)
      → units + length sections ≤ bound
  few units least [] apart within after touched bytes = omega (arith, within)
  few units least (range ∷ later) apart within after touched bytes =
      let start = range.start in
      let here = touched start
      (or_left (touches start range) (list_any (touches start) later) (touches_start range apart.1)) in
      let free : (before : ℕ) → suc before ≡ start → is_covered fragments before ≡ false =
      λ before same. elim (cases_Bool (is_covered fragments before)) [
        | inr away ↦ away
        | inl covered ↦
            let none = none_before before (has_byte before) (has_byte_at before) start (range ∷ later)
            (omega arith, apart.1, apart.2) (omega (arith, same)) in
            absurd (false≢true (sym none ∙ bytes before (omega (arith, apart.0, same)) covered))
      ] in
      let unit = unit_at fragments start here free in
      let reached = touched_to_reach fragments start here in
      let rest = few (unit.0 + 1) (range.end + 1) later apart.2 (omega (arith, unit.1, reached, short))
      (omega (arith, unit.1, apart.1))
      (λ position inside.
      touched position (or_right (touches position range) (list_any (touches position) later) inside))
      (λ position past covered.
      ap (λ t. t || list_any (has_byte position) later) (sym (past_end position range (omega (arith, past))))
      ∙ bytes position (omega (arith, apart.0, apart.1, past)) covered) in
      omega (arith, rest, unit.1, after, apart.0)

-- A buffer has at most limit / 8 + 1 sections.
pub sections_few : (limit : ℕ) (buffer : IpDefragBuf) (accepted : List IpFragment) → HoldsFragments buffer accepted
    → FitInTurnWithin limit accepted → length (sections_of buffer) ≤ limit / 8 + 1
sections_few limit buffer accepted holds fit =
    omega (
      arith,
      few accepted (limit / 8 + 1) (omega (arith, reach_short limit accepted fit)) 0 0 (sections_of buffer)
          (from_apart (sections_of buffer) buffer.in_order) (omega arith) (omega arith)
          (λ position inside. sym (holds.points position) ∙ inside)
          (λ position past covered. holds.bytes position ∙ covered),
    )

-- A stream of a pool has at most limit / 8 + 1 sections.
pub entry_few : {T C : Type 0} (limit : ℕ) (stream : Option (Stream T C)) (kept : Option (Kept T))
    → HoldsEntry limit stream kept → IfSome stream (λ s. length (sections_of s.buffer) ≤ limit / 8 + 1)
entry_few limit None kept holds = tt
entry_few limit (Some stream) None holds = absurd holds
entry_few limit (Some stream) (Some kept) holds =
    sections_few limit stream.buffer kept.accepted holds.buffer holds.within
