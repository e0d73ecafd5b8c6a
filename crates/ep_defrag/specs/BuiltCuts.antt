-- Frames built from cuts of a payload, and the answers of a pool to them.
use Rattle.std.specs.Prelude.{◌≡◌, ◌⊎◌, ℕ, ◌%◌, ◌<◌, ◌^◌, Bool, false, IsTrue, if◌then◌else◌, Some, None, option_map}
use Rattle.std.specs.Prelude.{List, [], ◌∷◌, ◌++◌, length, map}
use Rattle.std.specs.List.{filter, items_where_true}
use Rattle.ep_base.specs.Bytes.{AreBytes}
use Rattle.ep_base.specs.declared.ip_number.IpNumber.{IpNumber}
use Rattle.ep_build.specs.BuildErrors.{IsBuildable}
use Rattle.ep_build.specs.BuiltFragments.{built_fragment}
use Rattle.ep_build.specs.BuiltFrames.{built_frame, ip_frame_headers, ip_packet}
use Rattle.ep_build.specs.Fits.{FitsLink}
use Rattle.ep_build.specs.ReadBack.{IsEntryOf}
use Rattle.ep_build.specs.declared.link_part.LinkPart.{LinkPart}
use Rattle.ep_packet.specs.FrameFragments.{FrameFragment, fragment_of}
use Rattle.ep_packet.specs.Frame.{IsFrame}
use Rattle.ep_packet.specs.IpHeaders.{EndsExtensions, FitIpHeaders}
use Rattle.ep_packet.specs.Layers.{Layers}
use Rattle.ep_packet.specs.declared.entry.Entry.{Entry}
use Rattle.ep_packet.specs.declared.ip_headers.IpHeaders.{IpHeaders}
use Rattle.ep_defrag.specs.declared.ip_frag_id.IpFragId.{IpFragId}
use Rattle.ep_defrag.specs.IpFragments.{IpFragment, is_final, is_complete}
use Rattle.ep_defrag.specs.PayloadCuts.{IsCut}
use Rattle.ep_defrag.specs.Streams.{name_of, packet_fragment, same_stream, source_of}
use Rattle.ep_defrag.specs.Calls.{Call, gives_frame, drops_streams, returns_buffer, Payload, Answer, payload_returned}
use Rattle.ep_defrag.specs.Calls.{no_payload}

-- ---- a frame built from a cut

-- A frame built from a cut of a payload: the layers before the network layer, the IP headers, the protocol number of
-- the payload, and the bytes of the cut; the fragment that they form; the entry of the frame and the layers read from
-- it; and the timestamp and the channel that are passed to a pool with it.
pub record BuiltCut (T C : Type 0) : Type 0 where
  pub link : LinkPart
  pub headers : IpHeaders
  pub last : IpNumber
  pub bytes : List ℕ
  pub found : FrameFragment
  pub entry : Entry
  pub layers : Layers
  pub timestamp : T
  pub channel : C

-- bytes of the frame
abbrev pub cut_frame : {T C : Type 0} → BuiltCut T C → List ℕ
cut_frame cut = built_frame (ip_frame_headers cut.link cut.headers cut.last) cut.bytes

-- fragment of the frame, as the pool sees it
abbrev pub cut_fragment : {T C : Type 0} → BuiltCut T C → IpFragment
cut_fragment cut = (packet_fragment cut.found).fragment

-- call that passes the frame's layers to a pool
abbrev pub cut_call : {T C V : Type 0} → BuiltCut T C → Call T C V
cut_call cut = gives_frame (option_map packet_fragment (fragment_of cut.layers)) cut.timestamp cut.channel

-- Holds if the frame is built from a cut of the payload.
pub record IsBuiltCut {T C : Type 0} (payload : List ℕ) (cut : BuiltCut T C) : Type 0 where
  -- The fields fit their widths, and the builder accepts the frame.
  pub fits_link : FitsLink cut.link
  pub fit : FitIpHeaders cut.headers
  pub number : cut.last.0 < 2 ^ 8
  pub are_bytes : AreBytes cut.bytes
  pub buildable : IsBuildable (ip_frame_headers cut.link cut.headers cut.last) (length cut.bytes)
  -- The headers mark a fragment, and the protocol number is not that of an extension header.
  pub built : built_fragment cut.link cut.headers cut.last cut.bytes ≡ Some cut.found
  pub ends : EndsExtensions cut.headers cut.last.0
  -- The layers are those of the frame's bytes, read by an entry of its first layer.
  pub of : IsEntryOf cut.link (ip_packet cut.headers cut.last) cut.entry
  pub is : IsFrame cut.entry (cut_frame cut) cut.layers
  -- The fragment is a cut of the payload, and it is final or its length is a multiple of 8.
  pub is_cut : IsCut payload (cut_fragment cut)
  pub shape : IsTrue (is_final (cut_fragment cut)) ⊎ (length (cut_fragment cut).bytes % 8 ≡ 0)

-- Holds if the fragment belongs to the stream of this identifier.
abbrev pub IsUnder : {T C : Type 0} → (C → C → Bool) → IpFragId C → BuiltCut T C → Type 0
IsUnder eq name cut = IsTrue (same_stream eq (name_of (packet_fragment cut.found) cut.channel) name)

-- ---- calls and answers

-- whether a call passes a frame with a fragment of a stream
abbrev pub gives_to : {T C V : Type 0} → (C → C → Bool) → IpFragId C → Call T C V → Bool
gives_to eq name (gives_frame None timestamp channel) = false
gives_to eq name (gives_frame (Some carried) timestamp channel) = same_stream eq (name_of carried channel) name
gives_to eq name (drops_streams value) = false
gives_to eq name returns_buffer = false

-- calls of a list that pass frames with a fragment of a stream
abbrev pub frames_to : {T C V : Type 0} → (C → C → Bool) → IpFragId C → List (Call T C V) → List (Call T C V)
frames_to eq name calls = filter (gives_to eq name) calls

-- answers to these calls, among the answers to all calls
abbrev pub answers_to_frames : {T C V : Type 0} → (C → C → Bool) → IpFragId C → List (Call T C V) → List Answer
    → List Answer
answers_to_frames eq name calls answers = items_where_true (map (gives_to eq name) calls) answers

-- complete payload, as a pool returns it for an identifier
abbrev pub complete_payload_of : {C : Type 0} → IpFragId C → List ℕ → Payload
complete_payload_of name payload = record {
  ip_number = name.payload_ip_number;
  len_source = source_of name.ip;
  bytes = payload;
}

-- answers to cuts in turn, after the cuts `given` since the payload was last returned: the payload exactly at each cut
-- that completes it, and then the list of cuts starts anew
abbrev pub cut_answers : Payload → List IpFragment → List IpFragment → List Answer
cut_answers whole given [] = []
cut_answers whole given (cut ∷ cuts) =
    if is_complete (given ++ cut ∷ [])
    then payload_returned whole ∷ cut_answers whole [] cuts
    else no_payload ∷ cut_answers whole (given ++ cut ∷ []) cuts
