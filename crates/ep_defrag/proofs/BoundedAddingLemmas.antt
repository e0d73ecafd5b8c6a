-- Fates of fragments in terms of the buffer that holds the accepted ones as the policy keeps them.
use Rattle.std.proofs.Common.{◌≡◌, ℕ, ◌≤◌, max, Bool, ◌||◌, ◌&&◌, List, [], ◌∷◌, ◌++◌, length, Option}
use Rattle.std.proofs.Common.{append_assoc, append-nil, is_some, refl, sym, ap, subst, ◌∙◌, arith}
use Rattle.std.specs.List.{list_all, range_with_len}
use Rattle.std.specs.Option.{option_or, unwrap_or}
use Rattle.std.proofs.lemmas.Bool.{le-ltb}
use Rattle.ep_defrag.specs.declared.ip_defrag_error.IpDefragError.{IpDefragError}
use Rattle.ep_defrag.specs.declared.bounded_limits.DefragLimits.{DefragLimits}
use Rattle.ep_defrag.specs.declared.bounded_limits.OverlapPolicy.{OverlapPolicy}
use Rattle.ep_defrag.specs.declared.bounded_limits.OverlapPolicy.TheVariants.{LastWins, FirstWins, Discard}
use Rattle.ep_defrag.specs.Ranges.{has_byte, touches}
use Rattle.ep_defrag.specs.IpFragments.{IpFragment, fragment_end, range_of, is_covered, is_touched, reach_of, end_of}
use Rattle.ep_defrag.specs.IpFragments.{assembled, is_complete}
use Rattle.ep_defrag.specs.FragmentRefusals.{refusal_at_within, refusal_within, refusal_of, IsInPlace}
use Rattle.ep_defrag.specs.FragmentRefusals.{MayNeedMemory, MayNeedMemoryWithin}
use Rattle.ep_defrag.specs.BoundedOverlaps.{contradicts, kept_as, all_kept_after, all_kept, discards_stream}
use Rattle.ep_defrag.specs.BoundedSteps.{fate_unless, fate_after}
use Rattle.ep_defrag.proofs.DataLemmas.{is_covered-push, is_touched-push, reach_of-push, end_of-push, own_end, length-assembled}
use Rattle.ep_defrag.proofs.BoundedOverlapLemmas.{range_of-yielding}

-- ---- lists of fragments with equal ranges

-- Lists that fill and touch the same positions, with the same ends.
pub record AreAlike (a b : List IpFragment) : Type 0 where
  pub end : end_of a ≡ end_of b
  pub reach : reach_of a ≡ reach_of b
  pub covered : (position : ℕ) → is_covered a position ≡ is_covered b position
  pub touched : (position : ℕ) → is_touched a position ≡ is_touched b position

alike_same : (a : List IpFragment) → AreAlike a a
alike_same a = record { end = refl; reach = refl; covered = λ position. refl; touched = λ position. refl }

own_end-alike : (f g : IpFragment) → range_of f ≡ range_of g → f.more ≡ g.more → own_end f ≡ own_end g
own_end-alike f g range more = rw (more, ap (λ r. r.end) range) refl

alike_push : (a b : List IpFragment) (f g : IpFragment) → AreAlike a b → range_of f ≡ range_of g → f.more ≡ g.more
    → AreAlike (a ++ f ∷ []) (b ++ g ∷ [])
alike_push a b f g alike range more = record {
  end =
      end_of-push a f
      ∙ (λ i. option_or (alike.end i) (own_end-alike f g range more i))
      ∙ sym (end_of-push b g);
  reach =
      reach_of-push a f
      ∙ (λ i. max (alike.reach i) ((range i).end))
      ∙ sym (reach_of-push b g);
  covered = λ position.
      is_covered-push a f position
      ∙ (λ i. alike.covered position i || has_byte position (range i))
      ∙ sym (is_covered-push b g position);
  touched = λ position.
      is_touched-push a f position
      ∙ (λ i. alike.touched position i || touches position (range i))
      ∙ sym (is_touched-push b g position);
}

-- A kept fragment has the range and the flag of the fragment.
kept_range : (policy : OverlapPolicy) (earlier : List IpFragment) (fragment : IpFragment)
    → range_of (kept_as policy earlier fragment) ≡ range_of fragment
kept_range LastWins earlier fragment = refl
kept_range FirstWins earlier fragment = range_of-yielding earlier fragment
kept_range Discard earlier fragment = refl

kept_flag : (policy : OverlapPolicy) (earlier : List IpFragment) (fragment : IpFragment)
    → (kept_as policy earlier fragment).more ≡ fragment.more
kept_flag LastWins earlier fragment = refl
kept_flag FirstWins earlier fragment = refl
kept_flag Discard earlier fragment = refl

alike_kept-after : (policy : OverlapPolicy) (earlier other later : List IpFragment) → AreAlike earlier other
    → AreAlike (all_kept_after policy earlier later) (other ++ later)
alike_kept-after policy earlier other [] alike = subst (AreAlike earlier) (sym (append-nil other)) alike
alike_kept-after policy earlier other (fragment ∷ later) alike =
    let kept = kept_as policy earlier fragment in
    subst (AreAlike (all_kept_after policy (earlier ++ kept ∷ []) later)) (append_assoc other (fragment ∷ []) later)
    (alike_kept-after policy (earlier ++ kept ∷ []) (other ++ fragment ∷ []) later
    (alike_push earlier other kept fragment alike (kept_range policy earlier fragment)
    (kept_flag policy earlier fragment)))

-- The kept fragments fill and touch the positions of the accepted ones.
pub alike_kept : (policy : OverlapPolicy) (accepted : List IpFragment) → AreAlike (all_kept policy accepted) accepted
alike_kept policy accepted = alike_kept-after policy [] [] accepted (alike_same [])

-- One more accepted fragment is kept after the earlier ones.
pub all_kept-push : (policy : OverlapPolicy) (earlier later : List IpFragment) (fragment : IpFragment)
    → all_kept_after policy earlier (later ++ fragment ∷ [])
    ≡ all_kept_after policy earlier later ++ kept_as policy (all_kept_after policy earlier later) fragment ∷ []
all_kept-push policy earlier [] fragment = refl
all_kept-push policy earlier (first ∷ later) fragment =
    all_kept-push policy (earlier ++ kept_as policy earlier first ∷ []) later fragment

pub complete-alike : (a b : List IpFragment) → AreAlike a b → is_complete a ≡ is_complete b
complete-alike a b alike = λ i.
    is_some (alike.end i) && list_all (λ position. alike.covered position i)
    (range_with_len 0 (unwrap_or (alike.end i) 0))

refusal-alike : (limit : ℕ) (a b : List IpFragment) (fragment : IpFragment) → AreAlike a b
    → refusal_within limit a fragment ≡ refusal_within limit b fragment
refusal-alike limit a b fragment alike = λ i. refusal_at_within limit (alike.end i) (alike.reach i) fragment

len-alike : (a b : List IpFragment) → AreAlike a b → length (assembled a) ≡ length (assembled b)
len-alike a b alike =
    length-assembled a ∙ (λ i. unwrap_or (alike.end i) (alike.reach i)) ∙ sym (length-assembled b)

in_place-alike : (a b : List IpFragment) (fragment : IpFragment) → AreAlike a b → IsInPlace a fragment
    → IsInPlace b fragment
in_place-alike a b fragment alike placed = record {
  within = subst (λ (len : ℕ). fragment_end fragment ≤ len) (len-alike a b alike) placed.within;
  touching = (
    placed.touching.0,
    placed.touching.1,
    sym (alike.touched placed.touching.0) ∙ placed.touching.2,
  );
}

-- ---- fates

-- A fragment within the limit is refused as within 65535 bytes.
pub refusal-within : (limit : ℕ) (accepted : List IpFragment) (fragment : IpFragment) → fragment_end fragment ≤ limit
    → limit ≤ 65535 → refusal_within limit accepted fragment ≡ refusal_of accepted fragment
refusal-within limit accepted fragment short limited =
    rw (le-ltb limit (fragment_end fragment) short, le-ltb 65535 (fragment_end fragment) (omega arith)) refl

pub refusal-kept : (limits : DefragLimits) (accepted : List IpFragment) (fragment : IpFragment)
    → fragment_end fragment ≤ limits.payload → limits.payload ≤ 65535
    → refusal_within limits.payload accepted fragment ≡ refusal_of (all_kept limits.overlap accepted) fragment
refusal-kept limits accepted fragment short limited =
    refusal-within limits.payload accepted fragment short limited
    ∙ sym (refusal-alike 65535 (all_kept limits.overlap accepted) accepted fragment
    (alike_kept limits.overlap accepted))

-- Fate of a fragment within the limit, by what the buffer returns.
pub fate_is : (limits : DefragLimits) (accepted : List IpFragment) (fragment : IpFragment)
    (error : Option IpDefragError)
    (discarding : Bool) → fragment_end fragment ≤ limits.payload → limits.payload ≤ 65535
    → discarding ≡ discards_stream limits.overlap (refusal_of (all_kept limits.overlap accepted) fragment)
    (contradicts (all_kept limits.overlap accepted) fragment)
    → refusal_of (all_kept limits.overlap accepted) fragment ≡ error
    → fate_after limits accepted fragment ≡ fate_unless discarding error
fate_is limits accepted fragment error discarding short limited is refuses =
    let kept = all_kept limits.overlap accepted in
    ap (λ e. fate_unless (discards_stream limits.overlap e (contradicts kept fragment)) e)
    (refusal-kept limits accepted fragment short limited)
    ∙ ap (λ d. fate_unless d (refusal_of kept fragment)) (sym is)
    ∙ ap (fate_unless discarding) refuses

-- An allocation for the buffer may fail only where one for the accepted fragments may.
pub memory_kept : (limits : DefragLimits) (accepted : List IpFragment) (fragment : IpFragment)
    → fragment_end fragment ≤ limits.payload → limits.payload ≤ 65535
    → MayNeedMemory (all_kept limits.overlap accepted) fragment
    → MayNeedMemoryWithin limits.payload accepted fragment
memory_kept limits accepted fragment short limited needs = (
  refusal-kept limits accepted fragment short limited ∙ needs.0,
  λ placed.
      needs.1
      (in_place-alike accepted (all_kept limits.overlap accepted) fragment
      (flipped (alike_kept limits.overlap accepted))
      placed),
)
  where
    flipped : {a b : List IpFragment} → AreAlike a b → AreAlike b a
    flipped alike = record {
      end = sym alike.end;
      reach = sym alike.reach;
      covered = λ position. sym (alike.covered position);
      touched = λ position. sym (alike.touched position);
    }
