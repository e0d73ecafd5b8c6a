-- Frames that complete a stream, and the answers of a pool to them.
use Rattle.std.proofs.Common.{◌≡◌, ◌≤◌, ℕ, Bool, true, false, List, [], ◌∷◌, ◌++◌, append_assoc, length, Option, Some}
use Rattle.std.proofs.Common.{None, sym, ◌∙◌, inl, inr, arith}
use Rattle.std.specs.Prelude.{IfSome}
use Rattle.std.specs.Cmp.{IsEquivalence}
use Rattle.std.proofs.lemmas.Bool.{cases_Bool, false≢true}
use Rattle.ep_base.specs.Bytes.{AreBytes}
use Rattle.ep_defrag.specs.declared.ip_frag_id.IpFragId.{IpFragId}
use Rattle.ep_defrag.specs.IpFragments.{IpFragment, is_complete}
use Rattle.ep_defrag.specs.FragmentRefusals.{FitsWithin, FitInTurn, FitInTurnWithin}
use Rattle.ep_defrag.specs.Buffers.{data_of}
use Rattle.ep_defrag.specs.Calls.{Kept, accepted_in, no_payload, answer_to_frame, table_with_frame}
use Rattle.ep_defrag.specs.Pools.{Stream, HoldsEntry}
use Rattle.ep_defrag.specs.Completing.{FillBoth, opening_fragment, final_fragment, is_part, CarryingFrame, given_by}
use Rattle.ep_defrag.specs.Completing.{name_in, CarriesOf, ReturnsAll, FramesComplete}
use Rattle.ep_defrag.proofs.StreamLemmas.{same_stream_laws}
use Rattle.ep_defrag.proofs.OneFragmentLemmas.{kept_more, answer_complete, answer_nothing}
use Rattle.ep_defrag.proofs.CompletingLemmas.{reach_short, two_complete, parts_short}
use Rattle.ep_defrag.proofs.BufferLemmas.{data_len}
use Rattle.ep_defrag.proofs.CarryingLemmas.{carrying}

-- The accepted fragments of a stream fit in turn, within the limit of the pool and within that of a buffer.
pub entry_in_turn : {T C : Type 0} (limit : ℕ) (stream : Option (Stream T C)) (kept : Option (Kept T))
    → HoldsEntry limit stream kept → FitInTurnWithin limit (accepted_in kept) × FitInTurn (accepted_in kept)
entry_in_turn limit None None holds = (tt, tt)
entry_in_turn limit None (Some kept) holds = absurd holds
entry_in_turn limit (Some stream) None holds = absurd holds
entry_in_turn limit (Some stream) (Some kept) holds = (holds.within, holds.buffer.in_turn)

-- A stream's data is no longer than the limit.
pub entry_data : {T C : Type 0} (limit : ℕ) (stream : Option (Stream T C)) (kept : Option (Kept T))
    → HoldsEntry limit stream kept → IfSome stream (λ s. length (data_of s.buffer) ≤ limit)
entry_data limit None kept holds = tt
entry_data limit (Some stream) None holds = absurd holds
entry_data limit (Some stream) (Some kept) holds =
    omega (arith, data_len stream.buffer kept.accepted holds.buffer, reach_short limit kept.accepted holds.within)

module _ {T C : Type 0} (limit : ℕ) (eq : C → C → Bool) (laws : IsEquivalence eq) (seen : CarryingFrame) (channel : C)
  where
    -- Given the entry of the stream in the table.
    module _ (table : IpFragId C → Option (Kept T)) (kept : Option (Kept T)) (has : table (name_in seen channel) ≡ kept)
        (wanted : IpFragment) (frame : CarryingFrame) (is : CarriesOf seen wanted frame) where
      returns_all : FitsWithin limit (accepted_in kept) wanted → is_complete (accepted_in kept ++ wanted ∷ []) ≡ true
          → ReturnsAll limit table frame channel (accepted_in kept ++ wanted ∷ [])
      returns_all fits entire =
          rw (frame.carries, is, has)
          (sym (answer_complete limit (name_in seen channel) kept wanted fits entire))

      hands_nothing : FitsWithin limit (accepted_in kept) wanted → is_complete (accepted_in kept ++ wanted ∷ []) ≡ false
          → answer_to_frame limit table (given_by frame) channel ≡ no_payload
      hands_nothing fits partly =
          rw (frame.carries, is, has)
          (sym (answer_nothing limit (name_in seen channel) kept wanted fits partly))

      keeps : (timestamp : T) → FitsWithin limit (accepted_in kept) wanted
          → is_complete (accepted_in kept ++ wanted ∷ []) ≡ false
          → table_with_frame limit eq table (given_by frame) timestamp channel (name_in seen channel)
          ≡ Some (record { accepted = accepted_in kept ++ wanted ∷ []; timestamp = timestamp })
      keeps timestamp fits partly =
          rw (frame.carries, is, (same_stream_laws eq laws).refl (name_in seen channel), has)
          (kept_more limit kept wanted timestamp fits partly)

    pub frames_complete : (table : IpFragId C → Option (Kept T)) (kept : Option (Kept T))
        → table (name_in seen channel) ≡ kept → FitInTurnWithin limit (accepted_in kept) → FitInTurn (accepted_in kept)
        → 8 ≤ limit → (prefix back : List ℕ)
        → FillBoth (accepted_in kept) prefix back → AreBytes prefix → AreBytes back → (timestamp : T)
        → FramesComplete limit eq table seen channel timestamp (accepted_in kept) (opening_fragment prefix)
        (final_fragment (accepted_in kept) back)
    frames_complete table kept has fit short least prefix back fill prefix_bytes back_bytes timestamp =
        let accepted = accepted_in kept in
        let first = opening_fragment prefix in
        let second = final_fragment accepted back in
        let two = two_complete limit accepted fit prefix back fill least in
        let lens = parts_short 65535 accepted short prefix back fill (omega arith) (omega arith) in
        let carried = carrying seen first (omega arith) lens.0 prefix_bytes two.first_part in
        elim (cases_Bool (is_complete (accepted ++ first ∷ []))) [
          | inl entire ↦ record {
            frame = carried.0;
            is_first = carried.1;
            returns_all = inl (returns_all table kept has first carried.0 carried.1 two.first_fits entire);
          }
          | inr partly ↦
              let part : is_part second ≡ true = elim (two.second_part) [
                | inl entire ↦ absurd (false≢true (sym partly ∙ entire))
                | inr part ↦ part
              ] in
              let last = carrying seen second lens.2 lens.1 back_bytes part in
              let now : Kept T = record { accepted = accepted ++ first ∷ []; timestamp = timestamp } in
              let same = append_assoc accepted (first ∷ []) (second ∷ []) in
              let entire : is_complete ((accepted ++ first ∷ []) ++ second ∷ []) ≡ true = rw same (two.complete) in
              let out =
              returns_all (table_with_frame limit eq table (given_by carried.0) timestamp channel) (Some now)
              (keeps table kept has first carried.0 carried.1 timestamp two.first_fits partly) second last.0 last.1
              two.second_fits entire in
              record {
                frame = carried.0;
                is_first = carried.1;
                returns_all = inr (
                  hands_nothing table kept has first carried.0 carried.1 two.first_fits partly,
                  (last.0, last.1, rw same at out),
                );
              }
        ]
