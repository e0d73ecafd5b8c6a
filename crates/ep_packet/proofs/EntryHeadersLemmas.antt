-- Decoding a frame from each entry, and the place of the payload in its bytes.
use Rattle.std.proofs.Common.{◌≡◌, ℕ, ◌-◌, length, inr, List, [], ◌∷◌, ◌++◌, map, Option, Some, None, Result, Ok, Err, refl, sym, ap, subst, ◌∙◌, append_assoc}
use Rattle.std.specs.Prelude.{IfErr, IfSome, IsOkAnd, OnOk}
use Rattle.std.specs.Option.{option_map}
use Rattle.ep_base.specs.Bytes.{AreBytes}
use Rattle.ep_base.specs.Readings.{headers}
use Rattle.ep_base.specs.Tables.{IsDecided, Parts}
use Rattle.ep_base.specs.declared.ether_type.EtherType.{EtherType}
use Rattle.ep_base.specs.declared.len_source.LenSource.{LenSource}
use Rattle.ep_base.specs.declared.len_source.LenSource.TheVariants as source
use Rattle.ep_link.specs.declared.link.ethernet2_header.Ethernet2Header.{Ethernet2Header}
use Rattle.ep_link.specs.declared.link.link_header.LinkHeader.{LinkHeader}
use Rattle.ep_link.specs.declared.link.link_header.LinkHeader.TheVariants as link
use Rattle.ep_link.specs.Ethernet2.{ethernet2_header_len, IsEthernet2}
use Rattle.ep_link.specs.Ethernet2Slices.{ethernet2_slice_header, ethernet2_slice_parts, ethernet2_slice_payload}
use Rattle.ep_link.specs.declared.link.ethernet2_slice.Ethernet2Slice.{Ethernet2Slice}
use Rattle.ep_base.specs.declared.ether_payload_slice.EtherPayloadSlice.{EtherPayloadSlice}
use Rattle.ep_link.specs.EtherPayloads.{EtherPayload, ether_payload_of}
use Rattle.ep_link.specs.LinkSlices.{LinkLayer, ethernet2, linux_sll, ether_payload, linux_sll_payload, link_ether_payload, link_layer_payload, unlimited_ether_payload}
use Rattle.ep_link.specs.LinkExtensions.{LinkExtension, vlan, macsec, extension_ether_payload, extension_header, extension_payload}
use Rattle.ep_link.specs.LinuxSll.{linux_sll_header_len, IsLinuxSll, protocol_ether_type}
use Rattle.ep_link.specs.LinuxSllSlices.{linux_sll_slice_header, linux_sll_slice_parts, linux_sll_slice_payload}
use Rattle.ep_link.specs.declared.link.linux_sll_header.LinuxSllHeader.{LinuxSllHeader}
use Rattle.ep_link.specs.declared.link.linux_sll_slice.LinuxSllSlice.{LinuxSllSlice}
use Rattle.ep_link.specs.Macsec.{unmodified, modified}
use Rattle.ep_transport.specs.TransportParts.{TransportLayer}
use Rattle.ep_transport.specs.declared.transport_header.TransportHeader.{TransportHeader}
use Rattle.ep_transport.specs.declared.transport_header.TransportHeader.TheVariants as header
use Rattle.ep_packet.specs.declared.err.slice_error.SliceError.{SliceError}
use Rattle.ep_packet.specs.declared.packet_headers.PacketHeaders.{PacketHeaders}
use Rattle.ep_packet.specs.declared.entry.Entry.{Entry}
use Rattle.ep_packet.specs.declared.entry.Entry.TheVariants.{Ethernet as ethernet, LinuxSll as cooked, EtherType as ether_type, Ip as ip}
use Rattle.ep_packet.specs.Layers.{Layers, NetLayer, ipv4, ipv6, arp}
use Rattle.ep_packet.specs.Frame.{any_ip, IsFrameIn, IsInside, most_link_exts}
use Rattle.ep_packet.specs.FrameBytes.{inner_payload, last_payload, link_payload, payload_after_exts}
use Rattle.ep_packet.specs.PacketHeaders.{Headers, IsSubsliceOf, headers_in, headers_of, net_header_in, transport_header_in}
use Rattle.ep_packet.specs.PayloadParts.{PayloadPart, empty, macsec_modified, transport_payload_part, innermost_part, open_part, open_part_in, payload_part_bytes, payload_part_in, payload_part_of}
use Rattle.ep_packet.specs.Payloads.{ether_payload_after, ether_payload_of_parts, extensions_len_source}
use Rattle.ep_packet.specs.FrameRefusals.{RefusesFrameIn, RefusesInside}
use Rattle.ep_packet.specs.HeadersWalk.{FillsInside, FillsNet, begun, open_after, with_net}
use Rattle.ep_packet.proofs.FrameLemmas.{frames_decided}
use Rattle.ep_packet.proofs.LayerLawLemmas.{layer_laws}
use Rattle.ep_packet.proofs.FrameBytesLemmas.{frame_in_order}
use Rattle.ep_packet.proofs.HeadersLemmas.{net_innermost}

-- Bytes are one frame in the reading as headers, or are rejected.
pub headers_law : (entry : Entry) (bytes : List ℕ) → AreBytes bytes
    → IsDecided (IsFrameIn headers entry bytes) (RefusesFrameIn headers entry bytes)
headers_law entry bytes fits = frames_decided layer_laws headers entry bytes fits

-- ---- bytes of the payload

-- If a payload of known type has the given bytes, `open_part` has them too.
open_part_bytes : (found : Option EtherPayload) (bytes : List ℕ) → IfSome found (λ payload. payload.bytes ≡ bytes)
    → payload_part_bytes (open_part found bytes) ≡ bytes
open_part_bytes None bytes same = refl
open_part_bytes (Some payload) bytes same = same

-- A payload has its bytes with any source of its end.
with_source_bytes : (set : LenSource) (found : Option EtherPayload) (bytes : List ℕ)
    → IfSome found (λ payload. payload.bytes ≡ bytes)
    → IfSome (option_map (λ (payload : EtherPayload). record payload { len_source = set }) found)
    (λ payload. payload.bytes ≡ bytes)
with_source_bytes set None bytes same = tt
with_source_bytes set (Some payload) bytes same = same

-- The payload of a link extension of known type has the bytes of the link extension's payload.
extension_bytes_are : (extension : LinkExtension)
    → IfSome (extension_ether_payload extension) (λ payload. payload.bytes ≡ extension_payload extension)
extension_bytes_are (vlan tag payload) = refl
extension_bytes_are (macsec tag (unmodified type source bytes)) = refl
extension_bytes_are (macsec tag (modified bytes)) = tt

-- The payload after link extensions of known type has the bytes after them.
after_bytes_are : (found : Option EtherPayload) (bytes : List ℕ) (extensions : List LinkExtension)
    → IfSome found (λ payload. payload.bytes ≡ bytes)
    → IfSome (ether_payload_after found extensions) (λ payload. payload.bytes ≡ payload_after_exts bytes extensions)
after_bytes_are found bytes [] same = same
after_bytes_are found bytes (extension ∷ others) same =
    after_bytes_are (extension_ether_payload extension) (extension_payload extension) others
    (extension_bytes_are extension)

protocol_bytes_are : (type : Option EtherType) (bytes : List ℕ)
    → IfSome (option_map (unlimited_ether_payload bytes) type) (λ payload. payload.bytes ≡ bytes)
protocol_bytes_are None bytes = tt
protocol_bytes_are (Some type) bytes = refl

-- The payload of a link layer of known type has the bytes of the link layer's payload.
link_bytes_are : (layer : LinkLayer)
    → IfSome (link_ether_payload layer) (λ payload. payload.bytes ≡ link_layer_payload layer)
link_bytes_are (ethernet2 frame payload) = refl
link_bytes_are (linux_sll frame payload) = protocol_bytes_are (protocol_ether_type frame.protocol_type) payload
link_bytes_are (ether_payload type source payload) = refl
link_bytes_are (linux_sll_payload protocol payload) = protocol_bytes_are (protocol_ether_type protocol) payload

-- The payload after the link layer and its extensions, if its type is known, has the bytes after them.
parts_bytes_are : (layer : Option LinkLayer) (extensions : List LinkExtension)
    → IfSome (ether_payload_of_parts layer extensions)
    (λ payload. payload.bytes ≡ payload_after_exts (link_payload layer) extensions)
parts_bytes_are None [] = tt
parts_bytes_are (Some layer) [] = link_bytes_are layer
parts_bytes_are layer (extension ∷ others) =
    with_source_bytes (extensions_len_source (extension ∷ others))
    (ether_payload_after (extension_ether_payload extension) others)
    (payload_after_exts (extension_payload extension) others)
    (after_bytes_are (extension_ether_payload extension) (extension_payload extension)
    others (extension_bytes_are extension))

-- The payload of a transport header has the given bytes.
header_bytes_are : (read : TransportHeader) (bytes : List ℕ)
    → payload_part_bytes (transport_payload_part read bytes) ≡ bytes
header_bytes_are (header.Udp datagram) bytes = refl
header_bytes_are (header.Tcp segment) bytes = refl
header_bytes_are (header.Icmpv4 message) bytes = refl
header_bytes_are (header.Icmpv6 message) bytes = refl

-- The payload of the last layer has its bytes.
innermost_bytes_are : (unread : PayloadPart) (bytes : List ℕ) (net : Option NetLayer)
    (transport : Option TransportLayer)
    → payload_part_bytes unread ≡ bytes
    → payload_part_bytes (innermost_part unread net transport) ≡ inner_payload bytes net transport
innermost_bytes_are unread bytes net (Some layer) same = header_bytes_are layer.header layer.payload
innermost_bytes_are unread bytes None None same = same
innermost_bytes_are unread bytes (Some (ipv4 read extensions payload)) None same = refl
innermost_bytes_are unread bytes (Some (ipv6 read extensions payload)) None same = refl
innermost_bytes_are unread bytes (Some (arp packet)) None same = refl

-- The payload after the headers of a frame has the bytes of the last payload.
payload_bytes_are : (layers : Layers) → payload_part_bytes (payload_part_in layers) ≡ last_payload layers
payload_bytes_are layers =
    innermost_bytes_are (open_part_in layers) (payload_after_exts (link_payload layers.link) layers.link_exts)
    layers.net layers.transport
    (open_part_bytes (ether_payload_of_parts layers.link layers.link_exts)
    (payload_after_exts (link_payload layers.link) layers.link_exts)
    (parts_bytes_are layers.link layers.link_exts))

-- The payload after the headers of a frame is a contiguous part of the frame.
pub payload_lies : (entry : Entry) (bytes : List ℕ) (packet : PacketHeaders) (layers : Layers)
    → IsFrameIn headers entry bytes layers → headers_of packet ≡ headers_in layers
    → IsSubsliceOf (payload_part_bytes (payload_part_of packet.payload)) bytes
payload_lies entry bytes packet layers is same =
    let order = frame_in_order layer_laws headers entry bytes layers is in
    let payload : payload_part_bytes (payload_part_of packet.payload) ≡ last_payload layers =
    ap (λ (h : Headers). payload_part_bytes h.payload) same ∙ payload_bytes_are layers in
    let prefix = order.link ++ (order.tags ++ (order.net ++ order.transport)) in
    let grouped : bytes ≡ prefix ++ (last_payload layers ++ order.left) = order.parts ∙ (simp append_assoc) in
    (prefix, order.left, grouped ∙ ap (λ (b : List ℕ). prefix ++ (b ++ order.left)) (sym payload))

-- ---- entries

-- Headers with a link header only.
abbrev pub link_alone : Option LinkHeader → Headers
link_alone read = record { link = read; link_exts = []; net = None; transport = None; payload = empty }

-- The payload after link extensions is the payload after the link layer and its extensions.
open_in_ethernet : (frame : Ethernet2Header) (payload : List ℕ) (extensions : List LinkExtension)
    → open_after (unlimited_ether_payload payload frame.ether_type) extensions
    ≡ open_part (ether_payload_of_parts (Some (ethernet2 frame payload)) extensions)
    (payload_after_exts (link_payload (Some (ethernet2 frame payload))) extensions)
open_in_ethernet frame payload [] = refl
open_in_ethernet frame payload (extension ∷ others) = refl

open_in_payload : (type : EtherType) (payload : List ℕ) (extensions : List LinkExtension)
    → open_after (unlimited_ether_payload payload type) extensions
    ≡ open_part (ether_payload_of_parts (Some (ether_payload type source.Slice payload)) extensions)
    (payload_after_exts (link_payload (Some (ether_payload type source.Slice payload))) extensions)
open_in_payload type payload [] = refl
open_in_payload type payload (extension ∷ others) = refl

-- Headers with the layers found after the link layer.
abbrev filled_with : Headers → PayloadPart → List LinkExtension → Option NetLayer → Option TransportLayer → Headers
filled_with old unread extensions net transport =
    with_net (record old { link_exts = old.link_exts ++ map extension_header extensions }) unread net transport

-- With a network layer, the last payload does not depend on `unread`.
some_innermost : (unread other : PayloadPart) (net : Option NetLayer) (transport : Option TransportLayer)
    (layer : NetLayer)
    → net ≡ Some layer → innermost_part unread net transport ≡ innermost_part other net transport
some_innermost unread other net transport layer same =
    subst (λ (n : Option NetLayer). innermost_part unread n transport ≡ innermost_part other n transport) (sym same)
    (net_innermost layer transport unread other)

-- The bytes are a frame with these headers.
abbrev pub IsFilled : Entry → List ℕ → Headers → Type 0
IsFilled entry bytes read = (layers : Layers) × IsFrameIn headers entry bytes layers × (read ≡ headers_in layers)

-- Layers decoded after an Ethernet II header are those of the frame.
pub ethernet_fills : (bytes : List ℕ) (frame : Parts Ethernet2Header) (base old new : Headers) → IsEthernet2 bytes frame
    → old ≡ begun base (Some (link.Ethernet2 frame.header))
    → FillsInside most_link_exts (unlimited_ether_payload frame.payload frame.header.ether_type) old new
    → IsFilled ethernet bytes new
ethernet_fills bytes frame base old new is alone fills = (
  record {
    link = Some (ethernet2 frame.header frame.payload);
    link_exts = fills.extensions;
    net = fills.net;
    transport = fills.transport;
  },
  (frame, is, refl, fills.inside),
  fills.filled
      ∙ ap (λ (h : Headers). filled_with h (open_after (unlimited_ether_payload frame.payload frame.header.ether_type)
      fills.extensions) fills.extensions fills.net fills.transport) alone
      ∙ ap (λ (p : PayloadPart). filled_with (link_alone (Some (link.Ethernet2 frame.header)))
      p fills.extensions fills.net fills.transport)
      (open_in_ethernet frame.header frame.payload fills.extensions),
)

open_in_sll : (frame : LinuxSllHeader) (type : EtherType) (payload : List ℕ) (extensions : List LinkExtension)
    → protocol_ether_type frame.protocol_type ≡ Some type
    → open_after (unlimited_ether_payload payload type) extensions
    ≡ open_part (ether_payload_of_parts (Some (linux_sll frame payload)) extensions)
    (payload_after_exts (link_payload (Some (linux_sll frame payload))) extensions)
open_in_sll frame type payload [] typed =
    ap (λ (t : Option EtherType). open_part (option_map (unlimited_ether_payload payload) t) payload) (sym typed)
open_in_sll frame type payload (extension ∷ others) typed = refl

-- Layers decoded after the header of a Linux cooked capture whose protocol is an ether type are those of the frame.
sll_fills : (bytes : List ℕ) (frame : Parts LinuxSllHeader) (type : EtherType) (base old new : Headers)
    → IsLinuxSll bytes frame → protocol_ether_type frame.header.protocol_type ≡ Some type
    → old ≡ begun base (Some (link.LinuxSll frame.header))
    → FillsInside most_link_exts (unlimited_ether_payload frame.payload type) old new → IsFilled cooked bytes new
sll_fills bytes frame type base old new is typed alone fills = (
  record {
    link = Some (linux_sll frame.header frame.payload);
    link_exts = fills.extensions;
    net = fills.net;
    transport = fills.transport;
  },
  (
    frame,
    is,
    refl,
    subst (λ (t : Option EtherType). IsInside headers most_link_exts t frame.payload fills.extensions fills.net
        fills.transport) (sym typed) fills.inside,
  ),
  fills.filled
      ∙ ap (λ (h : Headers). filled_with h (open_after (unlimited_ether_payload frame.payload type) fills.extensions)
      fills.extensions fills.net fills.transport) alone
      ∙ ap (λ (p : PayloadPart). filled_with (link_alone (Some (link.LinuxSll frame.header)))
      p fills.extensions fills.net fills.transport)
      (open_in_sll frame.header type frame.payload fills.extensions typed),
)

-- A Linux cooked capture whose protocol is no ether type has a payload of unknown type.
sll_open : (bytes : List ℕ) (frame : Parts LinuxSllHeader) (base old new : Headers) → IsLinuxSll bytes frame
    → protocol_ether_type frame.header.protocol_type ≡ None → old ≡ begun base (Some (link.LinuxSll frame.header))
    → new ≡ record old { net = None; transport = None; payload = macsec_modified frame.payload }
    → IsFilled cooked bytes new
sll_open bytes frame base old new is none alone filled = (
  record { link = Some (linux_sll frame.header frame.payload); link_exts = []; net = None; transport = None },
  (
    frame,
    is,
    refl,
    subst (λ (t : Option EtherType). IsInside headers most_link_exts t frame.payload [] None None) (sym none)
        (refl, refl, refl),
  ),
  filled
      ∙ ap (λ (h : Headers). record h { net = None; transport = None; payload = macsec_modified frame.payload }) alone
      ∙ ap (λ (t : Option EtherType). record (link_alone (Some (link.LinuxSll frame.header))) {
        payload = open_part (option_map (unlimited_ether_payload frame.payload) t) frame.payload;
      }) (sym none),
)

-- Layers decoded in the payload of a link layer are those of the frame.
pub ether_payload_fills : (bytes : List ℕ) (type : EtherType) (base old new : Headers) → old ≡ begun base None
    → FillsInside most_link_exts (unlimited_ether_payload bytes type) old new → IsFilled (ether_type type) bytes new
ether_payload_fills bytes type base old new alone fills = (
  record {
    link = Some (ether_payload type source.Slice bytes);
    link_exts = fills.extensions;
    net = fills.net;
    transport = fills.transport;
  },
  (refl, fills.inside),
  fills.filled
      ∙ ap (λ (h : Headers). filled_with h (open_after (unlimited_ether_payload bytes type) fills.extensions)
      fills.extensions fills.net fills.transport) alone
      ∙ ap (λ (p : PayloadPart). filled_with (link_alone None) p fills.extensions fills.net fills.transport)
      (open_in_payload type bytes fills.extensions),
)

-- Layers decoded in an IP packet without a link layer are those of the frame.
pub ip_fills : (bytes : List ℕ) (base old new : Headers) → old ≡ begun base None
    → FillsNet (Some any_ip) bytes empty old new → IsFilled ip bytes new
ip_fills bytes base old new alone fills = (
  record { link = None; link_exts = []; net = fills.net; transport = fills.transport },
  (refl, refl, fills.part),
  fills.filled
      ∙ ap (λ (h : Headers). with_net h empty fills.net fills.transport) alone
      ∙ ap (λ (p : PayloadPart). record (link_alone None) {
        net = option_map net_header_in fills.net;
        transport = option_map transport_header_in fills.transport;
        payload = p;
      }) (some_innermost empty (macsec_modified []) fills.net fills.transport fills.part.0 fills.part.2),
)

-- ---- conclusions from the contracts

-- Before the first link extension the full capacity is free.
pub full_capacity : (packet : PacketHeaders) (base : Headers) (read : Option LinkHeader)
    → headers_of packet ≡ begun base read → most_link_exts - length packet.link_exts.items ≡ most_link_exts
full_capacity packet base read alone = ap (λ (h : Headers). most_link_exts - length h.link_exts) alone

pub ether_payload_filled : (bytes : List ℕ) (type : EtherType) (base : Headers) (packet new : PacketHeaders)
    → headers_of packet ≡ begun base None
    → FillsInside (most_link_exts - length packet.link_exts.items) (unlimited_ether_payload bytes type) (headers_of packet)
    (headers_of new)
    → IsFilled (ether_type type) bytes (headers_of new)
ether_payload_filled bytes type base packet new alone fills =
    ether_payload_fills bytes type base (headers_of packet) (headers_of new) alone
    (subst (λ (n : ℕ). FillsInside n (unlimited_ether_payload bytes type) (headers_of packet) (headers_of new))
    (full_capacity packet base None alone) fills)

-- A payload slice with this ether type and these bytes, limited only by the end of the slice, shows that payload.
complete_shown : (slice : EtherPayloadSlice) (type : EtherType) (bytes : List ℕ) → slice.ether_type ≡ type
    → slice.len_source ≡ source.Slice → slice.payload.now ≡ bytes
    → ether_payload_of slice ≡ unlimited_ether_payload bytes type
complete_shown slice type bytes same_type complete same_bytes =
    λ i. record { ether_type = same_type i; len_source = complete i; bytes = same_bytes i }

pub ethernet_filled : (bytes left : List ℕ) (frame : Ethernet2Slice) (read : Ethernet2Header)
    (payload : EtherPayloadSlice)
    (base : Headers) (packet new : PacketHeaders)
    → IsEthernet2 bytes (ethernet2_slice_parts frame left) → read ≡ ethernet2_slice_header frame
    → payload.ether_type ≡ (ethernet2_slice_header frame).ether_type → payload.len_source ≡ source.Slice
    → payload.payload.now ≡ ethernet2_slice_payload frame
    → headers_of packet ≡ begun base (Some (link.Ethernet2 read))
    → FillsInside (most_link_exts - length packet.link_exts.items) (ether_payload_of payload) (headers_of packet)
    (headers_of new)
    → IsFilled ethernet bytes (headers_of new)
ethernet_filled bytes left frame read payload base packet new is header_is same_type complete same_bytes alone fills =
    let parts = ethernet2_slice_parts frame left in
    let shown = complete_shown payload parts.header.ether_type parts.payload same_type complete same_bytes in
    ethernet_fills bytes parts base (headers_of packet) (headers_of new) is
    (alone ∙ ap (λ (h : Ethernet2Header). begun base (Some (link.Ethernet2 h))) header_is)
    (subst (λ (p : EtherPayload). FillsInside most_link_exts p (headers_of packet) (headers_of new)) shown
    (subst (λ (n : ℕ). FillsInside n (ether_payload_of payload) (headers_of packet) (headers_of new))
    (full_capacity packet base (Some (link.Ethernet2 read)) alone) fills))

pub ethernet_after_refused : (bytes left : List ℕ) (frame : Ethernet2Slice) (payload : EtherPayloadSlice)
    (base : Headers) (packet : PacketHeaders) (read : Option LinkHeader) (error : SliceError)
    → IsEthernet2 bytes (ethernet2_slice_parts frame left)
    → payload.ether_type ≡ (ethernet2_slice_header frame).ether_type
    → payload.payload.now ≡ ethernet2_slice_payload frame → headers_of packet ≡ begun base read
    → RefusesInside headers (most_link_exts - length packet.link_exts.items) ethernet2_header_len
    (Some payload.ether_type) payload.payload.now error
    → RefusesFrameIn headers ethernet bytes error
ethernet_after_refused bytes left frame payload base packet read error is same_type same_bytes alone refused =
    let parts = ethernet2_slice_parts frame left in
    inr (
      parts,
      is,
      subst (λ (b : List ℕ). RefusesInside headers most_link_exts ethernet2_header_len
          (Some parts.header.ether_type) b error)
          same_bytes
          (subst (λ (t : EtherType). RefusesInside headers most_link_exts ethernet2_header_len
          (Some t) payload.payload.now error)
          same_type
          (subst (λ (n : ℕ). RefusesInside headers n ethernet2_header_len (Some payload.ether_type)
          payload.payload.now error)
          (full_capacity packet base read alone) refused)),
    )

pub sll_filled : (bytes left shown : List ℕ) (frame : LinuxSllSlice) (read : LinuxSllHeader) (type : EtherType)
    (payload : EtherPayloadSlice) (base : Headers) (packet new : PacketHeaders)
    → IsLinuxSll bytes (linux_sll_slice_parts frame left) → read ≡ linux_sll_slice_header frame
    → protocol_ether_type (linux_sll_slice_header frame).protocol_type ≡ Some type
    → ether_payload_of payload ≡ unlimited_ether_payload shown type → shown ≡ linux_sll_slice_payload frame
    → headers_of packet ≡ begun base (Some (link.LinuxSll read))
    → FillsInside (most_link_exts - length packet.link_exts.items) (ether_payload_of payload) (headers_of packet)
    (headers_of new)
    → IsFilled cooked bytes (headers_of new)
sll_filled bytes left shown frame read type payload base packet new is header_is typed complete same_bytes alone fills =
    sll_fills bytes (linux_sll_slice_parts frame left) type base (headers_of packet) (headers_of new) is typed
    (alone ∙ ap (λ (h : LinuxSllHeader). begun base (Some (link.LinuxSll h))) header_is)
    (subst (λ (p : EtherPayload). FillsInside most_link_exts p (headers_of packet) (headers_of new))
    (complete ∙ ap (λ (b : List ℕ). unlimited_ether_payload b type) same_bytes)
    (subst (λ (n : ℕ). FillsInside n (ether_payload_of payload) (headers_of packet) (headers_of new))
    (full_capacity packet base (Some (link.LinuxSll read)) alone) fills))

pub sll_left_open : (bytes left shown : List ℕ) (frame : LinuxSllSlice) (read : LinuxSllHeader)
    (base middle new : Headers)
    → IsLinuxSll bytes (linux_sll_slice_parts frame left) → read ≡ linux_sll_slice_header frame
    → protocol_ether_type (linux_sll_slice_header frame).protocol_type ≡ None → shown ≡ linux_sll_slice_payload frame
    → middle ≡ begun base (Some (link.LinuxSll read))
    → new ≡ record middle { net = None; transport = None; payload = macsec_modified shown }
    → IsFilled cooked bytes new
sll_left_open bytes left shown frame read base middle new is header_is none same_bytes alone filled =
    sll_open bytes (linux_sll_slice_parts frame left) base middle new is none
    (alone ∙ ap (λ (h : LinuxSllHeader). begun base (Some (link.LinuxSll h))) header_is)
    (filled
    ∙ ap (λ (b : List ℕ). record middle { net = None; transport = None; payload = macsec_modified b }) same_bytes)

pub sll_after_refused : (bytes left shown : List ℕ) (frame : LinuxSllSlice) (type : EtherType)
    (payload : EtherPayloadSlice) (base : Headers) (packet : PacketHeaders) (read : Option LinkHeader)
    (error : SliceError)
    → IsLinuxSll bytes (linux_sll_slice_parts frame left)
    → protocol_ether_type (linux_sll_slice_header frame).protocol_type ≡ Some type
    → ether_payload_of payload ≡ unlimited_ether_payload shown type → shown ≡ linux_sll_slice_payload frame
    → headers_of packet ≡ begun base read
    → RefusesInside headers (most_link_exts - length packet.link_exts.items) linux_sll_header_len
    (Some payload.ether_type) payload.payload.now error
    → RefusesFrameIn headers cooked bytes error
sll_after_refused bytes left shown frame type payload base packet read error is typed complete same_bytes alone refused =
    let parts = linux_sll_slice_parts frame left in
    inr (
      parts,
      is,
      subst (λ (t : Option EtherType). RefusesInside headers most_link_exts linux_sll_header_len t parts.payload error)
          (sym typed)
          (subst (λ (b : List ℕ). RefusesInside headers most_link_exts linux_sll_header_len
          (Some type) b error) same_bytes
          (subst (λ (p : EtherPayload). RefusesInside headers most_link_exts linux_sll_header_len
          (Some p.ether_type) p.bytes error)
          complete
          (subst (λ (n : ℕ). RefusesInside headers n linux_sll_header_len (Some payload.ether_type)
          payload.payload.now error)
          (full_capacity packet base read alone) refused))),
    )

-- ---- results of the entries

-- If decoding returned a frame or an error of the bytes, it returned each frame that the bytes are.
pub filled_only : {A : Type 0} (entry : Entry) (bytes : List ℕ) → AreBytes bytes → (answer : Result A SliceError)
    (new : PacketHeaders) → OnOk answer (IsFilled entry bytes (headers_of new))
    → IfErr answer (RefusesFrameIn headers entry bytes)
    → (layers : Layers) → IsFrameIn headers entry bytes layers
    → IsOkAnd answer (λ _. headers_of new ≡ headers_in layers)
filled_only entry bytes fits (Ok done) new ok err layers is =
    ok.2 ∙ ap headers_in ((headers_law entry bytes fits).one_value ok.0 layers ok.1 is)
filled_only entry bytes fits (Err error) new ok err layers is =
    absurd ((headers_law entry bytes fits).not_both layers error is err)

-- The payload of a decoded frame is a contiguous part of the bytes.
pub filled_bytes : {A : Type 0} (entry : Entry) (bytes : List ℕ) (answer : Result A SliceError) (new : PacketHeaders)
    → OnOk answer (IsFilled entry bytes (headers_of new))
    → OnOk answer (IsSubsliceOf (payload_part_bytes (payload_part_of new.payload)) bytes)
filled_bytes entry bytes (Ok done) new ok = payload_lies entry bytes new ok.0 ok.1 ok.2
filled_bytes entry bytes (Err error) new ok = tt
