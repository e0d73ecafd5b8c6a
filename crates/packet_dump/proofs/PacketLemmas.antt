-- Lists of decoded packets, with one more item of the capture.
use Rattle.std.proofs.Common.{◌≡◌, ℕ, ◌+◌, arith, List, [], ◌∷◌, ◌++◌, Option, Some, None, refl, sym, ap, subst, ◌∙◌}
use Rattle.std.proofs.Common.{append_assoc, length, length-append}
use Rattle.std.proofs.lemmas.List.{append-nil}
use Rattle.capture_reader.specs.Captures.{Item, PlainShown, Stage, shown_in, stage_after, stage_after_items}
use Rattle.packet_dump.specs.DecodedPackets.{AreDecoded, DecodedPacket, IsItemDecoded, Progress, none_read, packets_in}
use Rattle.packet_dump.specs.DecodedPackets.{progress_after, progress_after_items, progress_with}
use Rattle.packet_dump.specs.Dumps.{AreLines}
use Rattle.packet_dump.specs.PacketCalls.{PoolHistory}
use Rattle.packet_dump.specs.PacketLines.{line_of}
use Rattle.packet_dump.specs.PoolLines.{PassesPacket}
use Rattle.packet_dump.specs.declared.dump_options.DumpOptions.{DumpOptions}

-- The stage after one more item.
pub stage_more : (items : List Item) (stage : Stage) (item : Item)
    → stage_after_items stage (items ++ item ∷ []) ≡ stage_after (stage_after_items stage items) item
stage_more [] stage item = refl
stage_more (first ∷ items) stage item = stage_more items (stage_after stage first) item

-- Progress after one more item.
pub progress_more : (items : List Item) (before : Progress) (item : Item)
    → progress_after_items before (items ++ item ∷ []) ≡ progress_after (progress_after_items before items) item
progress_more [] before item = refl
progress_more (first ∷ items) before item = progress_more items (progress_after before first) item

-- The packets of one more item come after those of the others.
pub decoded_more : (options : DumpOptions) (items : List Item) (before : Progress) (item : Item)
    (packets one : List DecodedPacket) → AreDecoded options before items packets
    → IsItemDecoded options (progress_after_items before items)
    (shown_in (progress_after_items before items).stage item) one
    → AreDecoded options before (items ++ item ∷ []) (packets ++ one)
decoded_more options [] before item packets one none is =
    (one, [], is, ap (λ (p : List DecodedPacket). p ++ one) none ∙ sym (append-nil one), refl)
decoded_more options (first ∷ items) before item packets one (prefix, rest, of_first, parts, others) is = (
  prefix,
  rest ++ one,
  of_first,
  ap (λ (p : List DecodedPacket). p ++ one) parts ∙ append_assoc prefix rest one,
  decoded_more options items (progress_after before first) item rest one others is,
)

-- The lines of one more packet come after those of the others.
pub lines_more : (options : DumpOptions) (packets : List DecodedPacket) (pool next after : PoolHistory)
    (one : DecodedPacket) (text answer : List ℕ) → AreLines options pool packets text next
    → PassesPacket options next one answer after
    → AreLines options pool (packets ++ one ∷ []) (text ++ line_of options one ++ answer) after
lines_more options [] pool next after one text answer (none, same) passes = (
  answer,
  [],
  after,
  subst (λ p. PassesPacket options p one answer after) same passes,
  rw (none, append-nil),
  (refl, refl),
)
lines_more options (first ∷ packets) pool next after one text answer (prefix, rest, middle, of_first, parts, others)
    passes = (
      prefix,
      rest ++ line_of options one ++ answer,
      middle,
      of_first,
      rw parts (simp append_assoc),
      lines_more options packets middle next after one rest answer others passes,
    )

-- ---- the number of packets

item_len : (options : DumpOptions) (before : Progress) (item : Item) (found : Option PlainShown)
    (packets : List DecodedPacket) → IsItemDecoded options before found packets
    → before.number + length packets ≡ (progress_with before item found).number
item_len options before item (Some shown) packets (one, is, decoded, parts) = omega (arith, ap length parts)
item_len options before item None packets none = omega (arith, ap length none)

len_from : (options : DumpOptions) (before : Progress) (items : List Item) (packets : List DecodedPacket)
    → AreDecoded options before items packets
    → before.number + length packets ≡ (progress_after_items before items).number
len_from options before [] packets none = omega (arith, ap length none)
len_from options before (item ∷ items) packets (one, others, is, parts, rest) =
    omega (
      arith,
      ap length parts ∙ length-append one others,
      item_len options before item (shown_in before.stage item) one is,
      len_from options (progress_after before item) items others rest,
    )

-- The number of decoded packets is the number of packets in the items.
pub packets_len : (options : DumpOptions) (items : List Item) (packets : List DecodedPacket)
    → AreDecoded options none_read items packets → length packets ≡ packets_in items
packets_len options items packets are = omega (arith, len_from options none_read items packets are)
