-- How a stream changes by a fragment, from what its buffer returns.
use Rattle.std.proofs.Common.{◌≡◌, ℕ, ◌+◌, ◌*◌, ◌≤◌, ◌⊎◌, Bool, true, false, List, [], ◌∷◌, ◌++◌, Option, Some, None, is_some, IsTrue}
use Rattle.std.proofs.Common.{refl, sym, ap, subst, ◌∙◌, inl, inr}
use Rattle.ep_defrag.specs.declared.ip_defrag_buf.IpDefragBuf.{IpDefragBuf}
use Rattle.ep_defrag.specs.declared.ip_defrag_error.IpDefragError.{IpDefragError}
use Rattle.ep_defrag.specs.declared.ip_defrag_error.IpDefragError.TheVariants.{AllocationFailure}
use Rattle.ep_defrag.specs.declared.bounded_limits.DefragLimits.{DefragLimits}
use Rattle.ep_defrag.specs.declared.bounded_defrag_error.BoundedDefragError.TheVariants.{Rejected}
use Rattle.ep_defrag.specs.declared.held_stream.HeldStream.{HeldStream}
use Rattle.ep_defrag.specs.IpFragments.{IpFragment, fragment_end, is_complete, IsComplete}
use Rattle.ep_defrag.specs.FragmentRefusals.{refusal_of, Fits, RefusesFragment, MayNeedMemory}
use Rattle.ep_defrag.specs.Buffers.{HoldsFragments, IsUnchanged}
use Rattle.ep_defrag.specs.Capacities.{SameCapacity}
use Rattle.ep_defrag.specs.BoundedOverlaps.{contradicts, discards_stream, kept_as, all_kept}
use Rattle.ep_defrag.specs.BoundedSteps.{fate_in, discards}
use Rattle.ep_defrag.specs.BoundedNames.{HoldsState}
use Rattle.ep_defrag.specs.BoundedAdding.{RejectsOrStarves, StreamRejects, StreamDiscards, StreamAccepts}
use Rattle.ep_defrag.proofs.DataLemmas.{FitAfter-push}
use Rattle.ep_defrag.proofs.BufferLemmas.{HoldsFragments-same}
use Rattle.ep_defrag.proofs.BoundedAddingLemmas.{alike_kept, all_kept-push, complete-alike, refusal-kept, fate_is, memory_kept}

same_truth : (a b : Bool) → (a ≡ true → b ≡ true) → (b ≡ true → a ≡ true) → b ≡ a
same_truth true b f g = f refl
same_truth false true f g = sym (g refl)
same_truth false false f g = refl

module _ (limits : DefragLimits) (old : HeldStream) (buffer : IpDefragBuf) (fragment : IpFragment)
    (is : old.buffer ≡ Some buffer) (short : fragment_end fragment ≤ limits.payload) (limited : limits.payload ≤ 65535)
    (discarding : Bool)
    (says : (accepted : List IpFragment) → HoldsFragments buffer accepted
    → discarding ≡ discards_stream limits.overlap (refusal_of accepted fragment) (contradicts accepted fragment)) where
  state_is : (accepted : Option (List IpFragment)) → HoldsState limits old.buffer accepted
      → HoldsState limits (Some buffer) accepted
  state_is accepted holds_state = subst (λ (b : Option IpDefragBuf). HoldsState limits b accepted) is holds_state

  pub stream_discards : discarding ≡ true
      → StreamDiscards limits old (record { buffer = None; first = old.first; last = old.last }) fragment
  stream_discards discarded = record {
    why = λ accepted holds_state. why accepted (state_is accepted holds_state);
    was_open = ap is_some is;
    freed = refl;
    first = refl;
    last = refl;
  }
    where
      why : (accepted : Option (List IpFragment)) → HoldsState limits (Some buffer) accepted
          → fate_in limits accepted fragment ≡ discards
      why None holds_state = absurd holds_state
      why (Some accepted) holds_state =
          fate_is limits accepted fragment (refusal_of (all_kept limits.overlap accepted) fragment) true short limited
          (sym discarded ∙ says (all_kept limits.overlap accepted) holds_state.contents) refl

  pub stream_rejects : discarding ≡ false → (new : IpDefragBuf) (error : IpDefragError)
      → ((accepted : List IpFragment) → HoldsFragments buffer accepted → RefusesFragment accepted fragment error
      ⊎ (MayNeedMemory accepted fragment × (error ≡ AllocationFailure (fragment_end fragment))))
      → IsUnchanged buffer new → SameCapacity buffer new
      → StreamRejects limits old (record { buffer = Some new; first = old.first; last = old.last }) fragment
      (Rejected error)
  stream_rejects stays_open new error refused same capacity = record {
    why = λ accepted holds_state. why accepted (state_is accepted holds_state);
    keeps = λ accepted holds_state. keeps accepted (state_is accepted holds_state);
    state = sym (ap is_some is);
    room = rw is (λ i. capacity.data_capacity i + 4 * capacity.sections_capacity i);
    first = refl;
    last = refl;
  }
    where
      why : (accepted : Option (List IpFragment)) → HoldsState limits (Some buffer) accepted
          → RejectsOrStarves limits accepted fragment (Rejected error)
      why None holds_state = absurd holds_state
      why (Some accepted) holds_state =
          let kept = all_kept limits.overlap accepted in
          let stays = sym stays_open ∙ says kept holds_state.contents in
          elim (refused kept holds_state.contents) [
            | inl refuses ↦ inl (fate_is limits accepted fragment (Some error) false short limited stays refuses)
            | inr starves ↦ inr (
              fate_is limits accepted fragment None false short limited stays starves.0.0,
              memory_kept limits accepted fragment short limited starves.0,
              ap (λ e. Rejected e) starves.1,
            )
          ]

      keeps : (accepted : Option (List IpFragment)) → HoldsState limits (Some buffer) accepted
          → HoldsState limits (Some new) accepted
      keeps None holds_state = holds_state
      keeps (Some accepted) holds_state = record {
        contents = HoldsFragments-same buffer new (all_kept limits.overlap accepted) holds_state.contents same.contents
            same.sections same.end;
        within = holds_state.within;
      }

  pub stream_accepts : discarding ≡ false → (new : IpDefragBuf) (now : ℕ) (entire : Bool)
      → ((accepted : List IpFragment) → HoldsFragments buffer accepted → Fits accepted fragment)
      → ((accepted : List IpFragment) → HoldsFragments buffer accepted
      → HoldsFragments new (accepted ++ kept_as limits.overlap accepted fragment ∷ []))
      → ((accepted : List IpFragment) → HoldsFragments new accepted
      → (IsTrue entire → IsComplete accepted) × (IsComplete accepted → IsTrue entire))
      → StreamAccepts limits old (record { buffer = Some new; first = old.first; last = now }) fragment now entire
  stream_accepts stays_open new now entire fits holds complete = record {
    why = λ accepted holds_state.
        let state = state_is (Some accepted) holds_state in
        let kept = all_kept limits.overlap accepted in
        fate_is limits accepted fragment None false short limited (sym stays_open ∙ says kept state.contents)
        (fits kept state.contents);
    holds = λ accepted holds_state.
        let state = state_is (Some accepted) holds_state in
        let kept = all_kept limits.overlap accepted in
        record {
          contents = rw (all_kept-push limits.overlap [] accepted fragment) (holds kept state.contents);
          within = FitAfter-push limits.payload [] accepted fragment state.within
              (refusal-kept limits accepted fragment short limited ∙ fits kept state.contents);
        };
    complete = λ accepted holds_state.
        let state = state_is (Some accepted) holds_state in
        let kept = all_kept limits.overlap accepted in
        let all = holds kept state.contents in
        let ends = complete (kept ++ kept_as limits.overlap kept fragment ∷ []) all in
        let alike = complete-alike (all_kept limits.overlap (accepted ++ fragment ∷ [])) (accepted ++ fragment ∷ [])
        (alike_kept limits.overlap (accepted ++ fragment ∷ [])) in
        sym alike ∙ rw (all_kept-push limits.overlap [] accepted fragment)
        (same_truth entire (is_complete (kept ++ kept_as limits.overlap kept fragment ∷ [])) ends.0 ends.1);
    was_open = ap is_some is;
    is_open = refl;
    first = refl;
    last = refl;
  }
