-- Fragments that complete a stream, and frames that carry them: no stream gets stuck.
use Rattle.std.specs.Prelude.{◌≡◌, ◌⊎◌, ℕ, ◌+◌, ◌*◌, ◌/◌, ◌≤◌, min, max, Bool, true, false, ◌||◌, nat_lt, IsTrue}
use Rattle.std.specs.Prelude.{unwrap_or, Option, Some, List, [], ◌∷◌, ◌++◌, length}
use Rattle.std.specs.Option.{option_map}
use Rattle.ep_base.specs.Bytes.{AreBytes}
use Rattle.ep_packet.specs.declared.entry.Entry.{Entry}
use Rattle.ep_packet.specs.FrameFragments.{FrameFragment, fragment_of}
use Rattle.ep_packet.specs.Frame.{IsFrame}
use Rattle.ep_packet.specs.Layers.{Layers}
use Rattle.ep_defrag.specs.declared.ip_frag_id.IpFragId.{IpFragId}
use Rattle.ep_defrag.specs.IpFragments.{IpFragment, fragment_with, reach_of, end_of, is_complete, IsComplete}
use Rattle.ep_defrag.specs.FragmentRefusals.{FitsWithin}
use Rattle.ep_defrag.specs.Streams.{PacketFragment, packet_fragment, name_of}
use Rattle.ep_defrag.specs.Calls.{Kept, payload_of, payload_returned, no_payload, answer_to_frame}
use Rattle.ep_defrag.specs.Calls.{table_with_frame}

-- ---- two fragments

-- end at which a list is completed: its known end, or if there is none, the greater of its greatest end and 8
abbrev pub completed_end : List IpFragment → ℕ
completed_end accepted = unwrap_or (end_of accepted) (max (reach_of accepted) 8)

-- offset in units of 8 bytes at which the first of two fragments ends and the second starts: as close to that end as
-- possible, but at most at 32768 bytes, so that a frame can carry either
abbrev pub split_offset : ℕ → ℕ
split_offset end = min 4096 (end / 8)

-- Holds if the bytes have the lengths of the two fragments.
pub record FillBoth (accepted : List IpFragment) (front back : List ℕ) : Type 0 where
  pub first_len : length front ≡ 8 * split_offset (completed_end accepted)
  pub both_len : length front + length back ≡ completed_end accepted

-- first of the two fragments, which is followed by more
abbrev pub opening_fragment : List ℕ → IpFragment
opening_fragment front = fragment_with 0 true front

-- second of the two fragments, which is final
abbrev pub final_fragment : List IpFragment → List ℕ → IpFragment
final_fragment accepted back = fragment_with (split_offset (completed_end accepted)) false back

-- whether a frame can carry it as a fragment: more fragments follow, or it does not begin the payload
abbrev pub is_part : IpFragment → Bool
is_part fragment = fragment.more || nat_lt 0 fragment.offset

-- Holds if both fragments fit in turn and complete the list. A frame can carry the first as a fragment, and the second
-- too, unless the first alone completes the list. Within a limit of at most 65535 neither has more than 32768 bytes.
pub record CompleteInTurn (limit : ℕ) (accepted : List IpFragment) (first second : IpFragment) : Type 0 where
  pub first_fits : FitsWithin limit accepted first
  pub second_fits : FitsWithin limit (accepted ++ first ∷ []) second
  pub complete : IsComplete (accepted ++ first ∷ second ∷ [])
  pub first_part : IsTrue (is_part first)
  pub second_part : IsTrue (is_complete (accepted ++ first ∷ [])) ⊎ IsTrue (is_part second)
  pub short : limit ≤ 65535 → (length first.bytes ≤ 32768) × (length second.bytes ≤ 32768)

-- ---- frames that carry them

-- a frame of bytes that carries a fragment
pub record CarryingFrame : Type 0 where
  pub entry : Entry
  pub bytes : List ℕ
  pub are_bytes : AreBytes bytes
  pub layers : Layers
  pub is : IsFrame entry bytes layers
  pub found : FrameFragment
  pub carries : fragment_of layers ≡ Some found

-- fragment of the frame, as passed to a pool
abbrev pub given_by : CarryingFrame → Option PacketFragment
given_by frame = option_map packet_fragment (fragment_of frame.layers)

-- identifier of the frame's stream on a channel
abbrev pub name_in : {C : Type 0} → CarryingFrame → C → IpFragId C
name_in frame channel = name_of (packet_fragment frame.found) channel

-- Holds if `frame` carries this fragment of the stream of `seen`.
abbrev pub CarriesOf : CarryingFrame → IpFragment → CarryingFrame → Type 0
CarriesOf seen fragment frame =
    frame.found ≡ record seen.found { offset = fragment.offset; more = fragment.more; bytes = fragment.bytes }

-- Holds if the answer to a frame is the payload reassembled from these fragments of its stream.
abbrev pub ReturnsAll : {T C : Type 0} → ℕ → (IpFragId C → Option (Kept T)) → CarryingFrame → C → List IpFragment
    → Type 0
ReturnsAll limit table frame channel fragments =
    answer_to_frame limit table (given_by frame) channel
    ≡ payload_returned (payload_of (name_in frame channel) fragments)

-- Holds if a frame that carries the first fragment returns the payload, or returns nothing and a frame that carries the
-- second does. The payload is the accepted bytes, overwritten by those of the first fragment, or of both in turn.
pub record FramesComplete {T C : Type 0} (limit : ℕ) (eq : C → C → Bool) (table : IpFragId C → Option (Kept T))
    (seen : CarryingFrame) (channel : C) (timestamp : T) (accepted : List IpFragment) (first second : IpFragment)
    : Type 0 where
  pub frame : CarryingFrame
  pub is_first : CarriesOf seen first frame
  pub returns_all : ReturnsAll limit table frame channel (accepted ++ first ∷ [])
      ⊎ ((answer_to_frame limit table (given_by frame) channel ≡ no_payload)
      × ((last : CarryingFrame) × CarriesOf seen second last
      × ReturnsAll limit (table_with_frame limit eq table (given_by frame) timestamp channel) last channel
      (accepted ++ first ∷ second ∷ [])))
