-- Bytes that the reading as headers rejects are rejected alike by the reading as slices; and the errors of the reading
-- as slices alone.
use Rattle.std.proofs.Common.{◌≡◌, ◌⊎◌, ℕ, zero, suc, ◌+◌, Bool, true, List, [], ◌∷◌, Option, Some, None, sym, ap, subst, inl, inr, arith}
use Rattle.std.proofs.lemmas.Grind.{common_steps}
use Rattle.ep_base.specs.Bytes.{AreBytes}
use Rattle.ep_base.specs.IpPayload.{IpPayload}
use Rattle.ep_base.specs.Readings.{Reading, slices, headers, limited_by}
use Rattle.ep_base.specs.Tables.{Parts}
use Rattle.ep_base.proofs.BytesLemmas.{AreBytes-payload}
use Rattle.ep_base.specs.declared.ether_type.EtherType.{EtherType}
use Rattle.ep_base.specs.declared.err.ipv4.SliceError.{SliceError as Ipv4SliceError}
use Rattle.ep_base.specs.declared.err.ipv6.SliceError.{SliceError as Ipv6SliceError}
use Rattle.ep_base.specs.declared.err.ip.SliceError.{SliceError as IpSliceError}
use Rattle.ep_base.specs.declared.err.ipv6_exts.HeaderSliceError.{HeaderSliceError as ExtsSliceError}
use Rattle.ep_base.specs.declared.err.tcp.HeaderSliceError.{HeaderSliceError as TransportError}
use Rattle.ep_base.specs.declared.err.tcp.HeaderSliceError.TheVariants as transport_error
use Rattle.ep_base.specs.declared.len_source.LenSource.{LenSource}
use Rattle.ep_ext.specs.Chains.{IpVersion, ipv4 as version_4, ipv6 as version_6, ExtensionChain, IsExtensionChain, RefusesExtensionChain, StopsAtSecond, chain_of, is_ipv6_extension}
use Rattle.ep_ext.specs.ExtensionParts.{auth_refusal}
use Rattle.ep_ip.specs.declared.ipv4_header.Ipv4Header.{Ipv4Header}
use Rattle.ep_ip.specs.declared.ipv6_header.Ipv6Header.{Ipv6Header}
use Rattle.ep_ip.specs.IpPackets.{IpPacket, ipv4_part, ipv6_part, IsIpv4, IsIpv6, RefusesIp, RefusesIpv4, RefusesIpv6}
use Rattle.ep_link.specs.declared.link.ethernet2_header.Ethernet2Header.{Ethernet2Header}
use Rattle.ep_link.specs.declared.link.linux_sll_header.LinuxSllHeader.{LinuxSllHeader}
use Rattle.ep_link.specs.Ethernet2.{ethernet2_bytes, ethernet2_header_len}
use Rattle.ep_link.specs.LinuxSll.{linux_sll_bytes, linux_sll_header_len, protocol_ether_type}
use Rattle.ep_link.specs.LinkExtensions.{LinkExtension, extension_header, extension_payload, extension_type, link_ext_header_len}
use Rattle.ep_transport.specs.TransportParts.{TransportLayer, HasNoHeader, IsUdpLengthError, RefusesTransportPart}
use Rattle.ep_packet.specs.declared.entry.Entry.{Entry}
use Rattle.ep_packet.specs.declared.entry.Entry.TheVariants.{Ethernet as ethernet, LinuxSll as linux_sll, EtherType as ether_type, Ip as ip}
use Rattle.ep_packet.specs.declared.err.slice_error.SliceError.{SliceError}
use Rattle.ep_packet.specs.Layers.{NetLayer, ipv4, ipv6, arp, Layers, ipv6_layer, net_payload}
use Rattle.ep_packet.specs.Frame.{NetKind, only_ipv4, only_ipv6, only_arp, any_ip, net_kind, most_link_exts, IsFrameIn, IsInside, IsNetLayer, IsNetPart}
use Rattle.ep_packet.specs.FrameRefusals.{RefusesFrameIn, RefusesInside, RefusesNetLayer, RefusesNetPart, RefusesTransportAfterNet, net_payload_offset, transport_refusal}
use Rattle.ep_packet.specs.TwoParsers.{IsUdpLengthRefusal, StopsAtSecondKind}
use Rattle.ep_packet.proofs.DeciderLemmas.{Deciders, ExtensionPart}
use Rattle.ep_packet.proofs.NetLemmas.{layer_decided, net_decided}

-- The laws about the two readings of extension chains and transport layers.
pub record ReadingLaws : Type 0 where
  pub chain : (version : IpVersion) (number : ℕ) (bytes : List ℕ) (chain : ExtensionChain)
      → IsExtensionChain version headers number bytes chain → IsExtensionChain version slices number bytes chain
      ⊎ ((version ≡ version_6) × StopsAtSecond [] chain.parts chain.last × (is_ipv6_extension chain.last ≡ true))
  pub chain_refused : (version : IpVersion) (number : ℕ) (bytes : List ℕ) (error : ExtsSliceError)
      → RefusesExtensionChain version headers number bytes error
      → RefusesExtensionChain version slices number bytes error
  pub refused : (number : ℕ) (fragmented : Bool) (bytes : List ℕ) (error : TransportError)
      → RefusesTransportPart headers number fragmented bytes error
      → RefusesTransportPart slices number fragmented bytes error
  pub alone : (number : ℕ) (fragmented : Bool) (bytes : List ℕ) (error : TransportError)
      → RefusesTransportPart slices number fragmented bytes error
      → RefusesTransportPart headers number fragmented bytes error ⊎ IsUdpLengthError error
  pub none : (reading : Reading) (number : ℕ) (fragmented : Bool) (bytes : List ℕ) (error : TransportError)
      → HasNoHeader number → RefusesTransportPart reading number fragmented bytes error → ⊥

-- ---- network layer

-- An IPv6 network layer whose extension headers stop at a second one of a kind.
abbrev Stops : NetLayer → Type 0
Stops (ipv4 header extensions payload) = ⊥
Stops (ipv6 header extensions payload) =
    StopsAtSecond [] extensions payload.number × (is_ipv6_extension payload.number ≡ true)
Stops (arp packet) = ⊥

stops_at_second : (layer : NetLayer) → Stops layer → StopsAtSecondKind (Some layer)
stops_at_second (ipv4 header extensions payload) stops = stops
stops_at_second (ipv6 header extensions payload) stops = stops.0
stops_at_second (arp packet) stops = stops

ipv4_in_slices : ReadingLaws → (bytes : List ℕ) (packet : IpPacket Ipv4Header) → IsIpv4 headers bytes packet
    → IsIpv4 slices bytes packet
ipv4_in_slices laws bytes packet is = record {
  content = is.content;
  cut = is.cut;
  chain = elim (laws.chain version_4 packet.header.protocol.0 is.content
      (chain_of packet.extensions packet.payload.number packet.payload.bytes) is.chain) [
        | inl chain ↦ chain
        | inr second ↦ absurd (let one = second.0 in cc)
      ];
  fragmented = is.fragmented;
  source = is.source;
}

ipv6_in_slices : ReadingLaws → (bytes : List ℕ) (packet : IpPacket Ipv6Header) → IsIpv6 headers bytes packet
    → IsIpv6 slices bytes packet ⊎ Stops (ipv6_layer packet)
ipv6_in_slices laws bytes packet is =
    elim (laws.chain version_6 packet.header.next_header.0 is.content
    (chain_of packet.extensions packet.payload.number packet.payload.bytes) is.chain) [
      | inl chain ↦ inl (record {
        content = is.content;
        cut = is.cut;
        chain = chain;
        fragmented = is.fragmented;
        source = is.source;
      })
      | inr second ↦ inr (second.1, second.2)
    ]

-- A network layer in the reading as headers is one in the reading as slices, or stops at a second header of a kind.
layer_in_slices : ReadingLaws → (kind : NetKind) (bytes : List ℕ) (layer : NetLayer)
    → IsNetLayer headers kind bytes layer → IsNetLayer slices kind bytes layer ⊎ Stops layer
layer_in_slices laws only_ipv4 bytes layer is = inl (is.0, ipv4_in_slices laws bytes is.0 is.1, is.2)
layer_in_slices laws only_ipv6 bytes layer is =
    elim (ipv6_in_slices laws bytes is.0 is.1) [
      | inl also ↦ inl (is.0, also, is.2)
      | inr stops ↦ inr (subst Stops (sym is.2) stops)
    ]
layer_in_slices laws only_arp bytes layer is = inl is
layer_in_slices laws any_ip bytes layer (ipv4_part packet, is, same) =
    inl (ipv4_part packet, ipv4_in_slices laws bytes packet is, same)
layer_in_slices laws any_ip bytes layer (ipv6_part packet, is, same) =
    elim (ipv6_in_slices laws bytes packet is) [
      | inl also ↦ inl (ipv6_part packet, also, same)
      | inr stops ↦ inr (subst Stops (sym same) stops)
    ]

ipv4_refused : ReadingLaws → (bytes : List ℕ) (error : Ipv4SliceError) → RefusesIpv4 headers bytes error
    → RefusesIpv4 slices bytes error
ipv4_refused laws bytes error (inl refused) = inl refused
ipv4_refused laws bytes error (inr refused) = inr (
  refused.0,
  refused.1,
  (
    refused.2.0,
    laws.chain_refused version_4 refused.0.header.protocol.0 refused.0.payload (auth_refusal refused.2.0) refused.2.1,
    refused.2.2,
  ),
)

ipv6_refused : ReadingLaws → (bytes : List ℕ) (error : Ipv6SliceError) → RefusesIpv6 headers bytes error
    → RefusesIpv6 slices bytes error
ipv6_refused laws bytes error (inl refused) = inl refused
ipv6_refused laws bytes error (inr refused) = inr (
  refused.0,
  refused.1,
  (
    refused.2.0,
    laws.chain_refused version_6 refused.0.header.next_header.0 refused.0.payload refused.2.0 refused.2.1,
    refused.2.2,
  ),
)

ip_refused : ReadingLaws → (bytes : List ℕ) (error : IpSliceError) → RefusesIp headers bytes error
    → RefusesIp slices bytes error
ip_refused laws bytes error (inl refused) = inl refused
ip_refused laws bytes error (inr (inl refused)) =
    inr (inl (refused.0, (refused.1.0, ipv4_refused laws bytes refused.1.0 refused.1.1, refused.1.2)))
ip_refused laws bytes error (inr (inr refused)) =
    inr (inr (refused.0, (refused.1.0, ipv6_refused laws bytes refused.1.0 refused.1.1, refused.1.2)))

layer_refused : ReadingLaws → (kind : NetKind) (offset : ℕ) (bytes : List ℕ) (error : SliceError)
    → RefusesNetLayer headers kind offset bytes error → RefusesNetLayer slices kind offset bytes error
layer_refused laws only_ipv4 offset bytes error refused =
    (refused.0, ipv4_refused laws bytes refused.0 refused.1, refused.2)
layer_refused laws only_ipv6 offset bytes error refused =
    (refused.0, ipv6_refused laws bytes refused.0 refused.1, refused.2)
layer_refused laws only_arp offset bytes error refused = refused
layer_refused laws any_ip offset bytes error refused =
    (refused.0, ip_refused laws bytes refused.0 refused.1, refused.2)

-- ---- transport layer

after_refused : ReadingLaws → (offset : ℕ) (payload : Option IpPayload) (error : SliceError)
    → RefusesTransportAfterNet headers offset payload error → RefusesTransportAfterNet slices offset payload error
after_refused laws offset None error refused = refused
after_refused laws offset (Some payload) error refused =
    (refused.0, laws.refused payload.number payload.fragmented payload.bytes refused.0 refused.1, refused.2)

length_refusal : (offset : ℕ) (limit : LenSource) (error : TransportError) → IsUdpLengthError error
    → IsUdpLengthRefusal (transport_refusal offset limit error)
length_refusal offset limit (transport_error.Len error) (inl source) =
    inl (ap (λ (s : LenSource). limited_by limit s) source)
length_refusal offset limit (transport_error.Len error) (inr layer) = inr layer
length_refusal offset limit (transport_error.Content error) never = absurd never

after_alone : ReadingLaws → (offset : ℕ) (payload : Option IpPayload) (error : SliceError)
    → RefusesTransportAfterNet slices offset payload error
    → RefusesTransportAfterNet headers offset payload error ⊎ IsUdpLengthRefusal error
after_alone laws offset None error refused = inl refused
after_alone laws offset (Some payload) error refused =
    elim (laws.alone payload.number payload.fragmented payload.bytes refused.0 refused.1) [
      | inl also ↦ inl (refused.0, also, refused.2)
      | inr alone ↦ inr (subst IsUdpLengthRefusal (sym refused.2)
          (length_refusal offset payload.source refused.0 alone))
    ]

-- The number of an IPv6 extension header is no number of a transport layer.
no_header : (number : ℕ) → is_ipv6_extension number ≡ true → HasNoHeader number
no_header number extension = (
  λ same. is_udp number extension same,
  λ same. is_tcp number extension same,
  λ same. is_icmpv4 number extension same,
  λ same. is_icmpv6 number extension same,
)
  where
    is_udp : (number : ℕ) → is_ipv6_extension number ≡ true → number ≡ 17 → ⊥
    is_udp number extension same = grind (arith, common_steps)

    is_tcp : (number : ℕ) → is_ipv6_extension number ≡ true → number ≡ 6 → ⊥
    is_tcp number extension same = grind (arith, common_steps)

    is_icmpv4 : (number : ℕ) → is_ipv6_extension number ≡ true → number ≡ 1 → ⊥
    is_icmpv4 number extension same = grind (arith, common_steps)

    is_icmpv6 : (number : ℕ) → is_ipv6_extension number ≡ true → number ≡ 58 → ⊥
    is_icmpv6 number extension same = grind (arith, common_steps)

-- After a network layer that stops at a second header of a kind, no transport layer is rejected.
none_after : ReadingLaws → (reading : Reading) (offset : ℕ) (layer : NetLayer) (error : SliceError) → Stops layer
    → RefusesTransportAfterNet reading offset (net_payload layer) error → ⊥
none_after laws reading offset (ipv4 header extensions payload) error stops refused = stops
none_after laws reading offset (ipv6 header extensions payload) error stops refused =
    laws.none reading payload.number payload.fragmented payload.bytes refused.0 (no_header payload.number stops.1)
    refused.1
none_after laws reading offset (arp packet) error stops refused = stops

-- ---- errors in the reading as headers

net_refused : ReadingLaws → (offset : ℕ) (kind : Option NetKind) (bytes : List ℕ) (error : SliceError)
    → RefusesNetPart headers offset kind bytes error → RefusesNetPart slices offset kind bytes error
net_refused laws offset None bytes error refused = refused
net_refused laws offset (Some kind) bytes error (inl refused) =
    inl (layer_refused laws kind offset bytes error refused)
net_refused laws offset (Some kind) bytes error (inr refused) =
    elim (layer_in_slices laws kind bytes refused.0 refused.1) [
      | inl is ↦ inr (
        refused.0,
        is,
        after_refused laws (offset + net_payload_offset refused.0) (net_payload refused.0) error refused.2,
      )
      | inr stops ↦ absurd (none_after laws headers (offset + net_payload_offset refused.0) refused.0 error stops
          refused.2)
    ]

inside_refused : ReadingLaws → (space offset : ℕ) (type : Option EtherType) (bytes : List ℕ) (error : SliceError)
    → RefusesInside headers space offset type bytes error → RefusesInside slices space offset type bytes error
inside_refused laws space offset None bytes error refused = refused
inside_refused laws zero offset (Some type) bytes error refused =
    net_refused laws offset (net_kind type) bytes error refused
inside_refused laws (suc space) offset (Some type) bytes error (inl refused) =
    inl (refused.0, net_refused laws offset (net_kind type) bytes error refused.1)
inside_refused laws (suc space) offset (Some type) bytes error (inr (inl refused)) = inr (inl refused)
inside_refused laws (suc space) offset (Some type) bytes error (inr (inr refused)) = inr (inr (
  refused.0,
  refused.1,
  refused.2,
  inside_refused laws space (offset + link_ext_header_len (extension_header refused.0)) (extension_type refused.0)
      (extension_payload refused.0) error refused.3,
))

-- A frame that the reading as headers rejects is rejected with an equal error by the reading as slices.
pub frame_refused : ReadingLaws → (entry : Entry) (bytes : List ℕ) (error : SliceError)
    → RefusesFrameIn headers entry bytes error → RefusesFrameIn slices entry bytes error
frame_refused laws ethernet bytes error (inl refused) = inl refused
frame_refused laws ethernet bytes error (inr refused) = inr (
  refused.0,
  refused.1,
  inside_refused laws most_link_exts ethernet2_header_len (Some refused.0.header.ether_type) refused.0.payload error
      refused.2,
)
frame_refused laws linux_sll bytes error (inl refused) = inl refused
frame_refused laws linux_sll bytes error (inr refused) = inr (
  refused.0,
  refused.1,
  inside_refused laws most_link_exts linux_sll_header_len (protocol_ether_type refused.0.header.protocol_type)
      refused.0.payload error refused.2,
)
frame_refused laws (ether_type type) bytes error refused =
    inside_refused laws most_link_exts 0 (Some type) bytes error refused
frame_refused laws ip bytes error refused = net_refused laws 0 (Some any_ip) bytes error refused

-- ---- errors in the reading as slices alone

abbrev IsAlone : SliceError → Option NetLayer → Type 0
IsAlone error net = IsUdpLengthRefusal error ⊎ StopsAtSecondKind net

net_alone : ReadingLaws → Deciders → (offset : ℕ) (kind : Option NetKind) (bytes : List ℕ) → AreBytes bytes
    → (error : SliceError) → RefusesNetPart slices offset kind bytes error
    → (net : Option NetLayer) (transport : Option TransportLayer) → IsNetPart headers kind bytes net transport
    → IsAlone error net
net_alone laws deciders offset None bytes fits error refused net transport is = absurd refused
net_alone laws deciders offset (Some kind) bytes fits error refused net transport is =
    elim (layer_in_slices laws kind bytes is.0 is.1) [
      | inl also ↦ elim refused [
        | inl none ↦ absurd ((layer_decided deciders slices kind offset bytes fits).not_both is.0 error also none)
        | inr after ↦ elim (after_alone laws (offset + net_payload_offset after.0) (net_payload after.0) error
            after.2) [
              | inl both ↦
                  let same = (layer_decided deciders slices kind offset bytes fits).one_value after.0 is.0 after.1
                  also in
                  absurd ((net_decided deciders headers offset (Some kind) bytes fits).not_both (net, transport) error is
                  (inr (
                    is.0,
                    is.1,
                    subst (λ (layer : NetLayer). RefusesTransportAfterNet headers (offset + net_payload_offset layer)
                        (net_payload layer) error) same both,
                  )))
              | inr alone ↦ inl alone
            ]
      ]
      | inr stops ↦ inr (subst StopsAtSecondKind (sym is.2) (stops_at_second is.0 stops))
    ]

inside_alone : ReadingLaws → Deciders → (space offset : ℕ) (type : Option EtherType) (bytes : List ℕ)
    → AreBytes bytes → (error : SliceError) → RefusesInside slices space offset type bytes error
    → (extensions : List LinkExtension) (net : Option NetLayer) (transport : Option TransportLayer)
    → IsInside headers space type bytes extensions net transport → IsAlone error net
inside_alone laws deciders space offset None bytes fits error refused extensions net transport is = absurd refused
inside_alone laws deciders zero offset (Some type) bytes fits error refused [] net transport is =
    net_alone laws deciders offset (net_kind type) bytes fits error refused net transport is
inside_alone laws deciders zero offset (Some type) bytes fits error refused (extension ∷ others) net transport is =
    absurd is
inside_alone laws deciders (suc space) offset (Some type) bytes fits error (inl refused) [] net transport is =
    net_alone laws deciders offset (net_kind type) bytes fits error refused.1 net transport is.1
inside_alone laws deciders (suc space) offset (Some type) bytes fits error (inr (inl refused)) [] net transport is =
    absurd (is.0 (deciders.extension.refused type bytes refused.0 refused.1))
inside_alone laws deciders (suc space) offset (Some type) bytes fits error (inr (inr refused)) [] net transport is =
    absurd (is.0 (deciders.extension.begins type bytes (refused.0, refused.1) refused.2))
inside_alone laws deciders (suc space) offset (Some type) bytes fits error (inl refused) (extension ∷ others) net
    transport is =
    absurd (refused.0 (deciders.extension.begins type bytes (extension, is.0.0) is.0.1))
inside_alone laws deciders (suc space) offset (Some type) bytes fits error (inr (inl refused)) (extension ∷ others) net
    transport is =
    let begins = deciders.extension.begins type bytes (extension, is.0.0) is.0.1 in
    absurd ((deciders.extension.decided type bytes fits begins).not_both (extension, is.0.0) refused.0 is.0.1
    refused.1)
inside_alone laws deciders (suc space) offset (Some type) bytes fits error (inr (inr refused)) (extension ∷ others) net
    transport is =
    let begins = deciders.extension.begins type bytes (extension, is.0.0) is.0.1 in
    let same = (deciders.extension.decided type bytes fits begins).one_value (refused.0, refused.1)
    (extension, is.0.0) refused.2 is.0.1 in
    let parts = deciders.extension.bytes type bytes (extension, is.0.0) is.0.1 in
    inside_alone laws deciders space (offset + link_ext_header_len (extension_header extension))
    (extension_type extension) (extension_payload extension)
    (AreBytes-payload bytes parts.0 (extension_payload extension) is.0.0 fits parts.2) error
    (subst (λ (part : ExtensionPart). RefusesInside slices space
    (offset + link_ext_header_len (extension_header part.0)) (extension_type part.0) (extension_payload part.0) error)
    same refused.3)
    others net transport is.1

-- An error in the reading as slices alone is one of the UDP length field, or the reading as headers stops at a second
-- extension header of a kind.
pub frame_alone : ReadingLaws → Deciders → (entry : Entry) (bytes : List ℕ) → AreBytes bytes → (error : SliceError)
    → RefusesFrameIn slices entry bytes error → (layers : Layers) → IsFrameIn headers entry bytes layers
    → IsAlone error layers.net
frame_alone laws deciders ethernet bytes fits error (inl refused) layers is =
    absurd ((deciders.ethernet2 bytes fits).not_both is.0 refused.0 is.1 refused.1)
frame_alone laws deciders ethernet bytes fits error (inr refused) layers is =
    let same = (deciders.ethernet2 bytes fits).one_value refused.0 is.0 refused.1 is.1 in
    inside_alone laws deciders most_link_exts ethernet2_header_len (Some is.0.header.ether_type) is.0.payload
    (AreBytes-payload bytes (ethernet2_bytes is.0.header) is.0.payload is.0.left fits is.1.parts) error
    (subst (λ (frame : Parts Ethernet2Header). RefusesInside slices most_link_exts ethernet2_header_len
    (Some frame.header.ether_type) frame.payload error) same refused.2)
    layers.link_exts layers.net layers.transport is.3
frame_alone laws deciders linux_sll bytes fits error (inl refused) layers is =
    absurd ((deciders.linux_sll bytes fits).not_both is.0 refused.0 is.1 refused.1)
frame_alone laws deciders linux_sll bytes fits error (inr refused) layers is =
    let same = (deciders.linux_sll bytes fits).one_value refused.0 is.0 refused.1 is.1 in
    inside_alone laws deciders most_link_exts linux_sll_header_len (protocol_ether_type is.0.header.protocol_type)
    is.0.payload
    (AreBytes-payload bytes (linux_sll_bytes is.0.header) is.0.payload is.0.left fits is.1.parts) error
    (subst (λ (frame : Parts LinuxSllHeader). RefusesInside slices most_link_exts linux_sll_header_len
    (protocol_ether_type frame.header.protocol_type) frame.payload error) same refused.2)
    layers.link_exts layers.net layers.transport is.3
frame_alone laws deciders (ether_type type) bytes fits error refused layers is =
    inside_alone laws deciders most_link_exts 0 (Some type) bytes fits error refused layers.link_exts layers.net
    layers.transport is.1
frame_alone laws deciders ip bytes fits error refused layers is =
    net_alone laws deciders 0 (Some any_ip) bytes fits error refused layers.net layers.transport is.2
