-- Lines of reassembled payloads, of fragments that the pool rejects, and of streams that it evicts or discards.
use Rattle.std.specs.Prelude.{◌≡◌, ℕ, ◌/◌, nat_lt, if◌then◌else◌, ◌&&◌, Bool, false, List, [], ◌∷◌, ◌++◌, Option, Some, None, codes}
use Rattle.etherparse.specs.Readings.{slices}
use Rattle.etherparse.specs.Types.TcpHeaderSliceError.{HeaderSliceError}
use Rattle.etherparse.specs.Types.TcpHeaderSliceError.TheVariants as header_error
use Rattle.etherparse.specs.Types.BoundedDefragError.{BoundedDefragError}
use Rattle.etherparse.specs.BoundedErrorTexts.{bounded_error_text}
use Rattle.etherparse.specs.BoundedSteps.{BoundedAnswer, fragment_rejected, nothing_complete, payload_complete}
use Rattle.etherparse.specs.IpFragments.{IpFragment}
use Rattle.etherparse.specs.Types.IpFragId.{IpFragId}
use Rattle.etherparse.specs.Types.SliceError.{SliceError}
use Rattle.etherparse.specs.Types.SliceError.TheVariants as slice_error
use Rattle.etherparse.specs.Layers.{Layers}
use Rattle.etherparse.specs.TransportParts.{TransportLayer, IsTransportPart, RefusesTransportPart, payload_in}
use Rattle.line_io.specs.Lines.{line_feed}
use Rattle.packet_filter.specs.Packets.{Packet, reassembled_packet}
use Rattle.packet_dump.specs.DecodedPackets.{DecodedPacket}
use Rattle.packet_dump.specs.PacketContents.{bytes_text, filtered_packet, header_kind, meets, shows_line}
use Rattle.packet_dump.specs.PacketLines.{line_start}
use Rattle.packet_text.specs.LayerTexts.{outer_text, protocol_text}
use Rattle.packet_dump.specs.PacketCalls.{KeepsMemory, PoolHistory, expiry_step, fragment_call, fragment_in_frame}
use Rattle.packet_dump.specs.PacketCalls.{step_of, with_eviction, with_expiry, with_step}
use Rattle.packet_dump.specs.EvictionLines.{gone_lines, moment_of, cleared_text}
use Rattle.packet_text.specs.SliceErrorTexts.{refusal_text}
use Rattle.packet_text.specs.Transports.{len_text, transport_text}
use Rattle.packet_dump.specs.declared.dump_options.Kind.{Kind}
use Rattle.packet_dump.specs.declared.dump_options.Kind.TheVariants.{Refused}
use Rattle.packet_dump.specs.declared.dump_options.DumpOptions.{DumpOptions}

-- ---- content of a payload

-- the transport layer of a payload, none if its protocol is not parsed, or the error of the layer
pub data Inner : Type 0 where
  part : Option TransportLayer → Inner
  unread : HeaderSliceError → Inner

-- The bytes of a payload of this protocol have this content.
abbrev pub IsInner : ℕ → List ℕ → Inner → Type 0
IsInner number bytes (part layer) = IsTransportPart slices number false bytes layer
IsInner number bytes (unread error) = RefusesTransportPart slices number false bytes error

-- the error of a transport layer as the error of a frame
abbrev pub frame_error : HeaderSliceError → SliceError
frame_error (header_error.Len error) = slice_error.Len error
frame_error (header_error.Content error) = slice_error.Tcp error

-- the text of a content
abbrev pub inner_text : ℕ → List ℕ → Inner → List ℕ
inner_text number bytes (part (Some layer)) = transport_text layer
inner_text number bytes (part None) = protocol_text number ++ len_text bytes
inner_text number bytes (unread error) = refusal_text (frame_error error)

-- the kind of a content, if it has one
abbrev pub inner_kind : Inner → Option Kind
inner_kind (part (Some layer)) = Some (header_kind layer.header)
inner_kind (part None) = None
inner_kind (unread error) = Some Refused

-- the payload of the transport layer, or all bytes if there is none
abbrev pub inner_bytes : List ℕ → Inner → List ℕ
inner_bytes bytes (part layer) = payload_in bytes layer
inner_bytes bytes (unread error) = bytes

-- ---- lines

-- the start of a line that follows the line of a packet: the start of that line, and the layers outside the IP payload
abbrev pub opening_text : List ℕ → Layers → List ℕ
opening_text start layers = start ++ outer_text layers

-- the end of such a line: the bytes if they are wanted, and a line feed
abbrev pub closing_text : Bool → List ℕ → List ℕ
closing_text hex bytes = bytes_text hex bytes ++ line_feed ∷ []

-- True if the line of a payload of this kind is shown: its kind is, and the filter matches this packet.
abbrev pub shows_payload : DumpOptions → Option Kind → Packet → Bool
shows_payload options kind matched = shows_line options kind && meets options.filter matched

-- the line, if it is shown
abbrev pub further_line : DumpOptions → List ℕ → Layers → Option Kind → Packet → List ℕ → List ℕ → List ℕ
further_line options start layers kind matched said bytes =
    if shows_payload options kind matched
    then opening_text start layers ++ said ++ closing_text options.hex bytes else []

-- a packet with a reassembled payload in place of its fragment
abbrev pub with_payload : Packet → ℕ → List ℕ → Packet
with_payload whole number bytes = reassembled_packet whole.layers whole.bytes whole.len number bytes

-- the text of a reassembled payload
abbrev pub payload_text : ℕ → List ℕ → Inner → List ℕ
payload_text number bytes inner = codes " reassembled" ++ inner_text number bytes inner

-- the text of a reassembled payload whose transport layer is rejected
abbrev pub unread_text : HeaderSliceError → List ℕ
unread_text error = codes " reassembled" ++ refusal_text (frame_error error)

-- the line of a payload that is complete with a packet, which filters are matched against with this payload
abbrev pub payload_line : DumpOptions → List ℕ → Layers → Packet → ℕ → List ℕ → Inner → List ℕ
payload_line options start layers whole number bytes inner =
    further_line options start layers (inner_kind inner) (with_payload whole number bytes)
    (payload_text number bytes inner) (inner_bytes bytes inner)

-- the reason for which the pool rejects a fragment
abbrev pub pool_refusal_text : BoundedDefragError → List ℕ
pool_refusal_text error = codes " not reassembled: " ++ bounded_error_text error

-- the line of a rejected fragment in a packet, which filters are matched against
abbrev pub refused_line : DumpOptions → List ℕ → Layers → Packet → BoundedDefragError → List ℕ
refused_line options start layers whole error =
    further_line options start layers (Some Refused) whole (pool_refusal_text error) []

-- The text is the line of the pool's answer to a frame of these layers, which filters are matched against as `whole`.
abbrev pub IsAnswerText : DumpOptions → List ℕ → Layers → Packet → BoundedAnswer → List ℕ → Type 0
IsAnswerText options start layers whole (payload_complete payload) text =
    (inner : Inner) × IsInner payload.ip_number.0 payload.bytes inner
    × (text ≡ payload_line options start layers whole payload.ip_number.0 payload.bytes inner)
IsAnswerText options start layers whole (fragment_rejected error) text =
    text ≡ refused_line options start layers whole error
IsAnswerText options start layers whole nothing_complete text = text ≡ []

-- ---- packets

-- the second of the capture in which a packet is read
abbrev pub second_of : DecodedPacket → ℕ
second_of one = one.latest / 1000000000

-- True if streams are checked for expiry at a packet: a second has begun that is later than that of the last check.
abbrev pub begins_second : PoolHistory → DecodedPacket → Bool
begins_second before one = nat_lt before.swept (second_of one)

-- the history after the expiry of old streams, if a new second has begun
abbrev pub swept_at : DumpOptions → PoolHistory → DecodedPacket → PoolHistory
swept_at options before one =
    if begins_second before one then with_expiry options before (second_of one) one.latest one.number else before

-- the lines of the streams that expire
abbrev pub expired_text : DumpOptions → PoolHistory → DecodedPacket → List ℕ
expired_text options before one =
    if begins_second before one
    then gone_lines options (moment_of options one) (expiry_step options before one.latest one.number).gone else []

-- The fragment of a frame is passed to the pool, for which the allocator grants this memory. The text is the lines of the
-- streams that are evicted or discarded, and that of the answer.
abbrev pub PassesFragment : DumpOptions → PoolHistory → DecodedPacket → Layers → IpFragId ℕ × IpFragment → ℕ → List ℕ
    → PoolHistory → Type 0
PassesFragment options before one layers given room text after =
    let call = fragment_call given one.latest in
    let step = step_of before call one.number (Some room) in
    (answer : List ℕ)
    × IsAnswerText options (line_start options.time one) layers (filtered_packet one.shown one.content) step.answer answer
    × KeepsMemory options step.gone
    × (text ≡ gone_lines options (moment_of options one) step.gone ++ answer
    ++ cleared_text options (moment_of options one) given.0 step.answer)
    × (after ≡ with_eviction options (with_step before call step) one.number)

-- The fragment of a frame is passed to the pool, if it carries one.
abbrev pub PassesIfFragment : DumpOptions → PoolHistory → DecodedPacket → Layers → Option (IpFragId ℕ × IpFragment)
    → List ℕ → PoolHistory → Type 0
PassesIfFragment options before one layers (Some given) text after =
    (room : ℕ) × PassesFragment options before one layers given room text after
PassesIfFragment options before one layers None text after = (text ≡ []) × (after ≡ before)

-- The fragment of a frame is passed to the pool after old streams have expired. The text is the lines of both.
abbrev pub PassesFrame : DumpOptions → PoolHistory → DecodedPacket → Layers → List ℕ → PoolHistory → Type 0
PassesFrame options before one layers text after =
    (rest : List ℕ)
    × PassesIfFragment options (swept_at options before one) one layers (fragment_in_frame layers) rest after
    × (text ≡ expired_text options before one ++ rest)

-- A frame is passed to the pool, if there is one.
abbrev pub PassesIfFrame : DumpOptions → PoolHistory → DecodedPacket → Option Layers → List ℕ → PoolHistory → Type 0
PassesIfFrame options before one (Some layers) text after = PassesFrame options before one layers text after
PassesIfFrame options before one None text after = (text ≡ []) × (after ≡ before)

-- The packet is passed to the pool if it is a frame, the text is the lines of what the pool does, and `after` is the
-- state of the pool. A packet that is no frame changes nothing.
abbrev pub PassesPacket : DumpOptions → PoolHistory → DecodedPacket → List ℕ → PoolHistory → Type 0
PassesPacket options before one text after = PassesIfFrame options before one one.frame text after
