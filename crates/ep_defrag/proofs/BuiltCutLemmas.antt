-- Frames built from cuts of a payload reassemble to the payload.
use Rattle.std.proofs.Common.{◌≡◌, ℕ, zero, suc, ◌^◌, ◌<◌, ◌≤◌, Bool, true, false, cond, List, [], ◌∷◌, ◌++◌, length}
use Rattle.std.proofs.Common.{map, Option, Some, None, option_map, slice_get, refl, ap, ◌∙◌, inl, inr}
use Rattle.std.specs.List.{AllByRecursion}
use Rattle.std.specs.Cmp.{IsEquivalence}
use Rattle.std.proofs.lemmas.Bool.{cases_Bool, and_parts, eqb-true, false≢true}
use Rattle.ep_base.specs.Bytes.{AreBytes}
use Rattle.ep_base.specs.Readings.{slices}
use Rattle.ep_base.specs.Tables.{IsDecided}
use Rattle.ep_base.specs.declared.ip_number.IpNumber.{IpNumber}
use Rattle.ep_build.specs.BuildErrors.{IsBuildable}
use Rattle.ep_build.specs.BuiltFragments.{IsFragmentReadBack}
use Rattle.ep_build.specs.BuiltFrames.{built_frame, ip_frame_headers}
use Rattle.ep_build.specs.Fits.{FitsLink}
use Rattle.ep_build.specs.declared.link_part.LinkPart.{LinkPart}
use Rattle.ep_packet.specs.FrameFragments.{FrameFragment, fragment_of}
use Rattle.ep_packet.specs.Frame.{IsFrame}
use Rattle.ep_packet.specs.IpHeaders.{FitIpHeaders}
use Rattle.ep_packet.specs.FrameRefusals.{RefusesFrame}
use Rattle.ep_packet.specs.declared.entry.Entry.{Entry}
use Rattle.ep_packet.specs.declared.ip_headers.IpHeaders.{IpHeaders}
use Rattle.ep_defrag.specs.declared.ip_defrag_error.IpDefragError.{IpDefragError}
use Rattle.ep_defrag.specs.declared.ip_frag_id.IpFragId.{IpFragId}
use Rattle.ep_defrag.specs.declared.ip_frag_id.IpFragVersionSpecId.{IpFragVersionSpecId}
use Rattle.ep_defrag.specs.declared.ip_frag_id.IpFragVersionSpecId.TheVariants.{Ipv4, Ipv6}
use Rattle.ep_defrag.specs.IpFragments.{IpFragment, assembled, is_complete}
use Rattle.ep_defrag.specs.FragmentRefusals.{refusal_within}
use Rattle.ep_defrag.specs.PayloadCuts.{IsCut}
use Rattle.ep_defrag.specs.Streams.{PacketFragment, name_of, packet_fragment, same_stream, same_version, source_of}
use Rattle.ep_defrag.specs.Calls.{Call, gives_frame, drops_streams, returns_buffer, Kept, accepted_in, kept_of}
use Rattle.ep_defrag.specs.Calls.{kept_unless, table_after, Payload, payload_of, payload_returned, no_payload}
use Rattle.ep_defrag.specs.Calls.{Answer, answer_unless, answer_to, answers_after}
use Rattle.ep_defrag.specs.BuiltCuts.{BuiltCut, IsBuiltCut, IsUnder, answers_to_frames, cut_answers, cut_call}
use Rattle.ep_defrag.specs.BuiltCuts.{cut_fragment, cut_frame, frames_to, gives_to, complete_payload_of}
use Rattle.ep_defrag.proofs.CutLemmas.{cut_fits_after, assembled-cuts}
use Rattle.ep_defrag.proofs.CallLemmas.{after_one_more}
use Rattle.ep_defrag.proofs.AloneLemmas.{answer_alone, all_more, kept_cuts}
use Rattle.ep_defrag.proofs.OpenLemmas.{drop_keeps, StaysAfter, stays_here, stays_later}

-- ---- the returned payload has the protocol number and the length source of the identifier

pub same_source : (a b : IpFragVersionSpecId) → same_version a b ≡ true → source_of a ≡ source_of b
same_source (Ipv4 source destination number) (Ipv4 source' destination' number') same = refl
same_source (Ipv6 source destination number) (Ipv6 source' destination' number') same = refl
same_source (Ipv4 source destination number) (Ipv6 source' destination' number') same = absurd (false≢true same)
same_source (Ipv6 source destination number) (Ipv4 source' destination' number') same = absurd (false≢true same)

module _ {C : Type 0} (eq : C → C → Bool) (name : IpFragId C) (payload : List ℕ) where
  handed_is : (id : IpFragId C) (accepted : List IpFragment) → same_stream eq id name ≡ true
      → assembled accepted ≡ payload → payload_of id accepted ≡ complete_payload_of name payload
  handed_is id accepted alike same =
      let first = and_parts _ _ alike in
      let second = and_parts _ _ first.0 in
      let third = and_parts _ _ second.0 in
      let number : id.payload_ip_number.0 ≡ name.payload_ip_number.0 = eqb-true _ _ second.1 in
      let source : source_of id.ip ≡ source_of name.ip = same_source id.ip name.ip third.1 in
      λ i. record { ip_number = record { 0 = number i }; len_source = source i; bytes = same i }

  -- A cut that fits is answered with the payload if it is then complete, and with nothing otherwise.
  answer_cut : (id : IpFragId C) (accepted : List IpFragment) → same_stream eq id name ≡ true
      → AllByRecursion (IsCut payload) accepted → answer_unless None id accepted
      ≡ cond (is_complete accepted) (payload_returned (complete_payload_of name payload)) no_payload
  answer_cut id accepted alike cuts = elim (cases_Bool (is_complete accepted)) [
    | inl now ↦ rw now
        (ap (λ (handed : Payload). payload_returned handed)
        (handed_is id accepted alike (assembled-cuts payload accepted cuts now)))
    | inr not_yet ↦ rw not_yet refl
  ]

-- ---- a built frame carries the fragment that it was built from

-- Holds if built frames are read back.
abbrev AreReadBack : Type 0
AreReadBack = (part : LinkPart) (headers : IpHeaders) (last : IpNumber) (payload : List ℕ) → FitsLink part
    → FitIpHeaders headers → last.0 < 2 ^ 8 → IsBuildable (ip_frame_headers part headers last) (length payload)
    → IsFragmentReadBack part headers last payload

-- Holds if built frames consist of bytes.
abbrev HaveBytes : Type 0
HaveBytes = (part : LinkPart) (headers : IpHeaders) (last : IpNumber) (payload : List ℕ) → FitsLink part
    → FitIpHeaders headers → last.0 < 2 ^ 8 → IsBuildable (ip_frame_headers part headers last) (length payload)
    → AreBytes payload → AreBytes (built_frame (ip_frame_headers part headers last) payload)

-- Holds if bytes are either one frame or rejected with one error.
abbrev AreDecided : Type 0
AreDecided = (entry : Entry) (bytes : List ℕ) → AreBytes bytes
    → IsDecided (IsFrame entry bytes) (RefusesFrame entry bytes)

module _ (read_back : AreReadBack) (have_bytes : HaveBytes) (decided : AreDecided) where
  carries : {T C : Type 0} (payload : List ℕ) (cut : BuiltCut T C) → IsBuiltCut payload cut
      → fragment_of cut.layers ≡ Some cut.found
  carries payload cut is =
      let back = read_back cut.link cut.headers cut.last cut.bytes is.fits_link is.fit is.number is.buildable cut.found
      is.built is.ends slices cut.entry is.of in
      let bytes : AreBytes (cut_frame cut) =
      have_bytes cut.link cut.headers cut.last cut.bytes is.fits_link is.fit is.number is.buildable is.are_bytes in
      let same : cut.layers ≡ back.layers =
      (decided cut.entry (cut_frame cut) bytes).one_value cut.layers back.layers is.is back.is in
      ap fragment_of same ∙ back.carries

  module _ {T C V : Type 0} (limit : ℕ) (eq : C → C → Bool) (keep : V → T → Bool) (name : IpFragId C)
      (payload : List ℕ) where
    abbrev call_of : BuiltCut T C → Call T C V
    call_of cut = gives_frame (Some (packet_fragment cut.found)) cut.timestamp cut.channel

    call_is : (cut : BuiltCut T C) → IsBuiltCut payload cut → cut_call cut ≡ call_of cut
    call_is cut is =
        ap (λ (found : Option FrameFragment).
        gives_frame (option_map packet_fragment found) cut.timestamp cut.channel)
        (carries payload cut is)

    -- ---- all calls are such frames
    gives_all : (cut : BuiltCut T C) → IsBuiltCut payload cut → IsUnder eq name cut
        → gives_to eq name (cut_call {V = V} cut) ≡ true
    gives_all cut is under = ap (gives_to eq name) (call_is cut is) ∙ under

    pub frames_all : (cuts : List (BuiltCut T C)) → AllByRecursion (IsBuiltCut payload) cuts
        → AllByRecursion (IsUnder eq name) cuts → frames_to eq name (map (cut_call {V = V}) cuts) ≡ map cut_call cuts
    frames_all [] is under = refl
    frames_all (cut ∷ cuts) is under =
        let gives = gives_all cut is.0 under.0 in
        rw gives (ap (λ (calls : List (Call T C V)). cut_call cut ∷ calls) (frames_all cuts is.1 under.1))

    pub answers_all : (earlier : List (Call T C V)) (cuts : List (BuiltCut T C))
        → AllByRecursion (IsBuiltCut payload) cuts → AllByRecursion (IsUnder eq name) cuts
        → answers_to_frames {V = V} eq name (map cut_call cuts)
        (answers_after limit eq keep earlier (map cut_call cuts))
        ≡ answers_after limit eq keep earlier (map cut_call cuts)
    answers_all earlier [] is under = refl
    answers_all earlier (cut ∷ cuts) is under =
        let gives = gives_all cut is.0 under.0 in
        let call : Call T C V = cut_call cut in
        rw gives
        (ap (λ (answers : List Answer). answer_to limit (table_after limit eq keep earlier) call ∷ answers)
        (answers_all (earlier ++ call ∷ []) cuts is.1 under.1))

    -- None of the calls is a drop.
    no_drop : (cuts : List (BuiltCut T C)) (at : ℕ) (value : V)
        → slice_get (map (cut_call {V = V}) cuts) at ≡ Some (drops_streams value) → ⊥
    no_drop [] at value is = cc
    no_drop (cut ∷ cuts) zero value is = cc
    no_drop (cut ∷ cuts) (suc at) value is = no_drop cuts at value is

    pub stays_all : (cuts : List (BuiltCut T C)) → StaysAfter limit eq keep name [] (map cut_call cuts)
    stays_all cuts at value is = absurd (no_drop cuts at value is)

    -- ---- other calls between them
    module _ (laws : IsEquivalence eq) (short : length payload ≤ limit) where
      -- expected answers, after calls that leave the stream in this state
      abbrev expected : Option (Kept T) → List (BuiltCut T C) → List Answer
      expected kept cuts = cut_answers (complete_payload_of name payload) (accepted_in kept) (map cut_fragment cuts)

      pub come : (earlier calls : List (Call T C V)) (cuts : List (BuiltCut T C))
          → AllByRecursion (IsCut payload) (accepted_in (table_after limit eq keep earlier name))
          → AllByRecursion (IsBuiltCut payload) cuts → StaysAfter limit eq keep name earlier calls
          → frames_to eq name calls ≡ map cut_call cuts
          → answers_to_frames eq name calls (answers_after limit eq keep earlier calls)
          ≡ expected (table_after limit eq keep earlier name) cuts
      come earlier [] [] kept built stays same = refl
      come earlier [] (cut ∷ cuts) kept built stays same = absurd (cc)
      come earlier (gives_frame None timestamp channel ∷ calls) cuts kept built stays same =
          let call : Call T C V = gives_frame None timestamp channel in
          let unchanged = after_one_more limit eq keep earlier call name false refl in
          come (earlier ++ call ∷ []) calls cuts (rw unchanged kept) built
          (stays_later limit eq keep name earlier calls call stays) same
          ∙ ap (λ (k : Option (Kept T)). expected k cuts) unchanged
      come earlier (drops_streams value ∷ calls) cuts kept built stays same =
          let call : Call T C V = drops_streams value in
          let unchanged = after_one_more limit eq keep earlier call name true refl
          ∙ drop_keeps (keep value) (table_after limit eq keep earlier name)
          (stays_here limit eq keep name earlier calls value stays) in
          come (earlier ++ call ∷ []) calls cuts (rw unchanged kept) built
          (stays_later limit eq keep name earlier calls call stays) same
          ∙ ap (λ (k : Option (Kept T)). expected k cuts) unchanged
      come earlier (returns_buffer ∷ calls) cuts kept built stays same =
          let call : Call T C V = returns_buffer in
          let unchanged = after_one_more limit eq keep earlier call name false refl in
          come (earlier ++ call ∷ []) calls cuts (rw unchanged kept) built
          (stays_later limit eq keep name earlier calls call stays) same
          ∙ ap (λ (k : Option (Kept T)). expected k cuts) unchanged
      come earlier (gives_frame (Some carried) timestamp channel ∷ calls) [] kept built stays same =
          let call : Call T C V = gives_frame (Some carried) timestamp channel in
          elim (cases_Bool (same_stream eq (name_of carried channel) name)) [
            | inl does ↦
                let never : call ∷ frames_to eq name calls ≡ [] = rw does at same in absurd (cc)
            | inr not ↦
                let unchanged = after_one_more limit eq keep earlier call name false not in
                rw not
                (come (earlier ++ call ∷ []) calls [] (rw unchanged kept) built
                (stays_later limit eq keep name earlier calls call stays) (rw not at same)
                ∙ ap (λ (k : Option (Kept T)). expected k []) unchanged)
          ]
      come earlier (gives_frame (Some carried) timestamp channel ∷ calls) (cut ∷ cuts) kept built stays same =
          let call : Call T C V = gives_frame (Some carried) timestamp channel in
          elim (cases_Bool (same_stream eq (name_of carried channel) name)) [
            | inl does ↦
                let here : call ∷ frames_to eq name calls ≡ cut_call cut ∷ map cut_call cuts = rw does at same in
                let is_call : call ≡ cut_call cut = cc in
                let later : frames_to eq name calls ≡ map cut_call cuts = cc in
                let is_call_of : call ≡ call_of cut = is_call ∙ call_is cut built.0 in
                let is_carried : carried ≡ packet_fragment cut.found = cc in
                let part = carried.fragment in
                let is_part : part ≡ cut_fragment cut = ap (λ (c : PacketFragment). c.fragment) is_carried in
                let before = table_after limit eq keep earlier name in
                let after = accepted_in before ++ part ∷ [] in
                let part_cut : IsCut payload part = rw is_part built.0.is_cut in
                let fits : refusal_within limit (accepted_in before) part ≡ None =
                cut_fits_after payload limit (accepted_in before) part short kept part_cut (rw is_part built.0.shape) in
                let more =
                all_more limit eq keep payload short (IsCut payload) (accepted_in before) part kept part_cut in
                let table : table_after limit eq keep (earlier ++ call ∷ []) name ≡ kept_of after timestamp =
                after_one_more limit eq keep earlier call name true does
                ∙ ap (λ (r : Option IpDefragError). kept_unless r before part timestamp) fits in
                let answer : answer_to limit (table_after limit eq keep earlier) call
                ≡ cond (is_complete after) (payload_returned (complete_payload_of name payload)) no_payload =
                answer_alone limit eq keep laws earlier name call does
                ∙ ap (λ (r : Option IpDefragError). answer_unless r (name_of carried channel) after) fits
                ∙ answer_cut eq name payload (name_of carried channel) after does more in
                let rest = come (earlier ++ call ∷ []) calls cuts
                (rw table (kept_cuts limit eq keep payload short after timestamp more)) built.1
                (stays_later limit eq keep name earlier calls call stays) later
                ∙ ap (λ (k : Option (Kept T)). expected k cuts) table in
                let goal : answers_to_frames eq name (call ∷ calls) (answers_after limit eq keep earlier (call ∷ calls))
                ≡ cut_answers (complete_payload_of name payload) (accepted_in before) (part ∷ map cut_fragment cuts) =
                elim (cases_Bool (is_complete after)) [
                  | inl now ↦ rw (does, now, answer) (rw now (ap (λ (answers : List Answer).
                      payload_returned (complete_payload_of name payload) ∷ answers) (rw now at rest)))
                  | inr not_yet ↦ rw (does, not_yet, answer) (rw not_yet (ap (λ (answers : List Answer).
                      no_payload ∷ answers) (rw not_yet at rest)))
                ] in
                goal ∙ ap (λ (f : IpFragment).
                cut_answers (complete_payload_of name payload) (accepted_in before) (f ∷ map cut_fragment cuts)) is_part
            | inr not ↦
                let unchanged = after_one_more limit eq keep earlier call name false not in
                rw not
                (come (earlier ++ call ∷ []) calls (cut ∷ cuts) (rw unchanged kept) built
                (stays_later limit eq keep name earlier calls call stays) (rw not at same)
                ∙ ap (λ (k : Option (Kept T)). expected k (cut ∷ cuts)) unchanged)
          ]
