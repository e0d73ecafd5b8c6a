-- Consecutive frames that are sliced one after the other.
use Rattle.std.proofs.Common.{◌≡◌, ◌≢◌, ◌<◌, ◌≤◌, ◌+◌, ℕ, List, length, drop, arith, refl, sym, ap, add-one, ◌∙◌}
use Rattle.std.specs.Prelude.{slice_set}
use Rattle.std.specs.List.{slice_range}
use Rattle.std.proofs.Math.ListN.{length-set}
use Rattle.std.proofs.lemmas.List.{drop-set-lt, drop-drop, get_or-set_other, get_or-set_same}
use Rattle.std.proofs.lemmas.Option.{get_or_from_slice_get, slice_get_read}
use borrow.Author.Count.{below_more}
use Rattle.etherparse_c.specs.ManyAnswers.{AreSliced, FrameAnswers, IsSlicedAt, frame_start, frame_end}
use Rattle.etherparse_c.specs.declared.packet.Packet.{Packet}

-- Loop invariant: the frames before an index are sliced, and the frame at the index starts at `start`.
pub record Slicing (IsAnswer : FrameAnswers) (bytes ends : List ℕ) (old new : List Packet) (start index sliced : ℕ)
    : Type 0 where
  pub are : AreSliced IsAnswer bytes ends old new index
  pub begun : start ≡ frame_start ends index
  pub described : sliced ≡ index

-- Writing the packet at an index does not change a packet before it.
kept : (IsAnswer : FrameAnswers) (bytes ends : List ℕ) (packets : List Packet) (packet : Packet) (index before : ℕ)
    → before < index → index < length packets → IsSlicedAt IsAnswer bytes ends packets before
    → IsSlicedAt IsAnswer bytes ends (slice_set packets index packet) before
kept IsAnswer bytes ends packets packet index before above within is =
    let other : before ≢ index = λ same. omega arith in
    let here : before < length packets = omega arith in
    let read = get_or_from_slice_get packets before is.packet is.packet is.stored in
    record {
      packet = is.packet;
      status = is.status;
      stored = slice_get_read (slice_set packets index packet) (length packets) before is.packet
          (sym (length-set packets index packet)) here
          (sym (get_or-set_other packets index before packet is.packet other ∙ read));
      ascends = is.ascends;
      within = is.within;
      answer = is.answer;
    }

-- Slicing one more frame preserves the loop invariant.
pub one_more : (IsAnswer : FrameAnswers) (bytes ends : List ℕ) (old new : List Packet) (packet : Packet)
    (start index sliced status : ℕ) → Slicing IsAnswer bytes ends old new start index sliced → index < length ends
    → index < length new → start ≤ frame_end ends index → frame_end ends index ≤ length bytes
    → IsAnswer (slice_range bytes start (frame_end ends index)) status packet
    → Slicing IsAnswer bytes ends old (slice_set new index packet) (frame_end ends index) (index + 1) (index + 1)
one_more IsAnswer bytes ends old new packet start index sliced status before more in_packets ascends within answer =
    let now = slice_set new index packet in
    let here : IsSlicedAt IsAnswer bytes ends now index = record {
      packet = packet;
      status = status;
      stored = slice_get_read now (length new) index packet (sym (length-set new index packet)) in_packets
          (sym (get_or-set_same new index packet packet in_packets));
      ascends = rw (← before.begun) ascends;
      within = within;
      answer = rw (← before.begun) answer;
    } in
    record {
      are = record {
        most = omega arith;
        each = below_more (IsSlicedAt IsAnswer bytes ends now) index
            (λ earlier above. kept IsAnswer bytes ends new packet index earlier above in_packets
            (before.are.each earlier above))
            here;
        others = drop-set-lt (index + 1) new index packet (omega arith)
            ∙ sym (drop-drop 1 index new) ∙ ap (drop 1) before.are.others ∙ drop-drop 1 index old;
      };
      begun = rw add-one refl;
      described = refl;
    }
