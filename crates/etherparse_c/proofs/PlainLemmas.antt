-- Plain frames are frames, and their description is that of the frame.
use Rattle.std.proofs.Common.{◌≡◌, ℕ, ◌+◌, ◌*◌, ◌-◌, ◌≤◌, false, List, [], ◌∷◌, ◌++◌, length, take, drop, Option, Some, None, refl, sym, ap, subst, ◌∙◌, ◌⊎◌, inl, inr, arith}
use Rattle.std.specs.Prelude.{suc}
use Rattle.std.proofs.lemmas.Option.{none-some}
use Rattle.std.proofs.lemmas.List.{append_assoc, drop_at, drop-drop, take-append-drop, length-append, length-take, length-drop}
use Rattle.etherparse.specs.Bytes.{bit}
use Rattle.etherparse.specs.EtherTypes.{ipv4_type, ipv6_type}
use Rattle.etherparse.specs.IpNumbers.{authentication_number, icmpv6_number, tcp_number, udp_number}
use Rattle.etherparse.specs.IpPayload.{IpPayload}
use Rattle.etherparse.specs.Readings.{limited_by, slices}
use Rattle.etherparse.specs.Tables.{parts_of}
use Rattle.etherparse.specs.Types.EtherType.{EtherType}
use Rattle.etherparse.specs.Types.LenSource.{LenSource}
use Rattle.etherparse.specs.Types.LenSource.TheVariants as source
use Rattle.etherparse.specs.Chains.{ipv4 as ipv4_chain, ipv6 as ipv6_chain, demand_of, ends}
use Rattle.etherparse.specs.Types.Ipv4Header.{Ipv4Header}
use Rattle.etherparse.specs.Types.Ipv6Header.{Ipv6Header}
use Rattle.etherparse.specs.Ipv4.{IsIpv4Header, IsIpv4Packet, ipv4_header_len, is_ipv4_fragment}
use Rattle.etherparse.specs.Ipv6.{IsIpv6Packet, ipv6_payload_source}
use Rattle.etherparse.specs.IpPackets.{IpPacket, IsIpv4, IsIpv6, ipv4_part, ipv6_part}
use Rattle.etherparse.specs.Types.Ethernet2Slice.{Ethernet2Slice}
use Rattle.etherparse.specs.Types.SingleVlanSlice.{SingleVlanSlice}
use Rattle.etherparse.specs.Ethernet2.{IsEthernet2}
use Rattle.etherparse.specs.Ethernet2Slices.{ethernet2_slice_header, ethernet2_slice_parts, ethernet2_slice_payload}
use Rattle.etherparse.specs.LinkExtensions.{LinkExtension, vlan, BeginsLinkExtension, IsVlanType}
use Rattle.etherparse.specs.LinkSlices.{LinkLayer, ethernet2}
use Rattle.etherparse.specs.Vlan.{IsVlan}
use Rattle.etherparse.specs.VlanSlices.{vlan_slice_header, vlan_slice_parts, vlan_slice_payload}
use Rattle.etherparse.specs.Types.Entry.TheVariants.{Ethernet as ethernet_entry}
use Rattle.etherparse.specs.Frame.{NetKind, any_ip, only_ipv4, only_ipv6, net_kind, most_link_exts, IsFrame, IsInside, IsNetPart, IsTransportAfterNet, IsTransportIn}
use Rattle.etherparse.specs.FrameBytes.{after_net, link_payload, payload_after_exts}
use Rattle.etherparse.specs.Layers.{Layers, NetLayer, arp, ipv4, ipv6, net_payload}
use Rattle.etherparse.specs.Payloads.{extensions_len_source}
use Rattle.etherparse.specs.TransportParts.{TransportLayer}
use Rattle.etherparse_c.specs.declared.packet.Ip.{Ip}
use Rattle.etherparse_c.specs.declared.packet.Packet.{Packet}
use Rattle.etherparse_c.specs.declared.packet.Part.{Part}
use Rattle.etherparse_c.specs.declared.plain.PlainIp.{PlainIp}
use Rattle.etherparse_c.specs.declared.vlans.PayloadAfterVlans.{PayloadAfterVlans}
use Rattle.etherparse_c.specs.Description.{description, ip_in, link_len, link_part, net_end, net_kind as kind_number, net_len, no_refusal, part, tag_slots, tags_len}
use Rattle.etherparse_c.specs.Plain.{HasPlainIp, HasVlans, IsPlainIp, IsPlainNet, net_description, plain_ip, plain_payload, plain_description, transport_description}

-- ---- tags

-- A VLAN tag before other layers.
vlan_before : (type : EtherType) (bytes left : List ℕ) (tag : SingleVlanSlice) (most : ℕ) (others : List LinkExtension)
    (net : Option NetLayer) (transport : Option TransportLayer) → IsVlanType type
    → IsVlan bytes (vlan_slice_parts tag left)
    → IsInside slices most (Some (vlan_slice_header tag).ether_type) (vlan_slice_payload tag) others net transport
    → IsInside slices (suc most) (Some type) bytes (vlan (vlan_slice_header tag) (vlan_slice_payload tag) ∷ others) net
    transport
vlan_before type bytes left tag most others net transport of_type is inside = ((left, (of_type, is)), inside)

-- One VLAN tag meets `HasVlans`.
pub one_vlan : (type : EtherType) (bytes left : List ℕ) (tag : SingleVlanSlice) (untagged : PayloadAfterVlans)
    → IsVlanType type → IsVlan bytes (vlan_slice_parts tag left) → untagged.offset ≡ 18
    → untagged.ether_type ≡ (vlan_slice_header tag).ether_type → untagged.slice.now ≡ vlan_slice_payload tag
    → HasVlans type bytes (vlan (vlan_slice_header tag) (vlan_slice_payload tag) ∷ []) untagged
one_vlan type bytes left tag untagged of_type is place same_type same = record {
  offset = place;
  bound = omega (arith, place);
  unlimited = refl;
  holds = λ none net transport part. vlan_before type bytes left tag 2 [] net transport of_type is (
    subst (λ (t : EtherType). ¬ BeginsLinkExtension t) same_type none,
    subst (λ (t : EtherType). IsNetPart slices (net_kind t) (vlan_slice_payload tag) net transport) same_type
        (subst (λ (b : List ℕ). IsNetPart slices (net_kind untagged.ether_type) b net transport) same part),
  );
}

-- Two VLAN tags meet `HasVlans`.
pub two_vlans : (type : EtherType) (bytes left rest : List ℕ) (outer inner : SingleVlanSlice)
    (untagged : PayloadAfterVlans) → IsVlanType type → IsVlan bytes (vlan_slice_parts outer left)
    → IsVlanType (vlan_slice_header outer).ether_type
    → IsVlan (vlan_slice_payload outer) (vlan_slice_parts inner rest) → untagged.offset ≡ 22
    → untagged.ether_type ≡ (vlan_slice_header inner).ether_type → untagged.slice.now ≡ vlan_slice_payload inner
    → HasVlans type bytes (vlan (vlan_slice_header outer) (vlan_slice_payload outer)
    ∷ vlan (vlan_slice_header inner) (vlan_slice_payload inner) ∷ []) untagged
two_vlans type bytes left rest outer inner untagged of_type is of_inner_type is_inner place same_type same = record {
  offset = place;
  bound = omega (arith, place);
  unlimited = refl;
  holds = λ none net transport part. vlan_before type bytes left outer 2
      (vlan (vlan_slice_header inner) (vlan_slice_payload inner) ∷ []) net transport of_type is
      (vlan_before (vlan_slice_header outer).ether_type (vlan_slice_payload outer) rest inner 1 [] net transport
      of_inner_type is_inner (
        subst (λ (t : EtherType). ¬ BeginsLinkExtension t) same_type none,
        subst (λ (t : EtherType). IsNetPart slices (net_kind t) (vlan_slice_payload inner) net transport) same_type
            (subst (λ (b : List ℕ). IsNetPart slices (net_kind untagged.ether_type) b net transport) same part),
      ));
}

-- ---- IP

-- An IPv4 chain of extension headers is empty, unless its first number is that of an authentication header.
ipv4_chain_ends : (number : ℕ) → (number ≡ authentication_number → ⊥) → demand_of ipv4_chain slices [] number ≡ ends
ipv4_chain_ends number other = grind (arith, other)

-- An IPv6 chain of extension headers is empty if its first number is UDP, TCP or ICMPv6.
ipv6_chain_ends : (number : ℕ) → (number ≡ udp_number) ⊎ (number ≡ tcp_number) ⊎ (number ≡ icmpv6_number)
    → demand_of ipv6_chain slices [] number ≡ ends
ipv6_chain_ends number (inl is) = ap (λ (n : ℕ). demand_of ipv6_chain slices [] n) is
ipv6_chain_ends number (inr (inl is)) = ap (λ (n : ℕ). demand_of ipv6_chain slices [] n) is
ipv6_chain_ends number (inr (inr is)) = ap (λ (n : ℕ). demand_of ipv6_chain slices [] n) is

-- Bytes are a header of n bytes, a payload up to byte t, and the bytes after it.
split_bytes : (bytes header rest : List ℕ) (n t : ℕ) → bytes ≡ header ++ rest → length header ≡ n → n ≤ t
    → bytes ≡ (header ++ take (t - n) (drop n bytes)) ++ drop t bytes
split_bytes bytes header rest n t parts len enough =
    let payload = take (t - n) (drop n bytes) in
    let left : drop t bytes ≡ drop (t - n) (drop n bytes) =
    ap (λ (k : ℕ). drop k bytes) (omega arith) ∙ sym (drop-drop (t - n) n bytes) in
    let payload_and_left : payload ++ drop t bytes ≡ rest =
    ap (λ (s : List ℕ). payload ++ s) left ∙ take-append-drop (t - n) (drop n bytes)
    ∙ ap (λ (s : List ℕ). drop n s) parts ∙ drop_at header rest n len in
    parts ∙ ap (λ (s : List ℕ). header ++ s) (sym payload_and_left) ∙ sym (append_assoc header payload (drop t bytes))

-- Bytes that start with an IPv4 header and reach to its total length are an IPv4 packet.
pub limited_packet : (bytes rest : List ℕ) (header : Ipv4Header) (n t : ℕ) → IsIpv4Header bytes (header, rest)
    → n ≡ ipv4_header_len header → n + length rest ≡ length bytes → t ≡ header.total_len → n ≤ t → t ≤ length bytes
    → IsIpv4Packet bytes (parts_of header (take (t - n) (drop n bytes)) (drop t bytes))
limited_packet bytes rest header n t is of_header len same enough most =
    let encoded_len : n ≡ length is.encoded =
    omega (arith, ap length is.parts, length-append is.encoded rest, len) in
    record {
      encoded = is.encoded;
      encodes = is.encodes;
      parts = split_bytes bytes is.encoded rest n t is.parts (sym encoded_len) enough;
      cut = omega (arith, same, encoded_len, enough, most, length-take (t - n) (drop n bytes), length-drop n bytes);
    }

-- An IPv4 header that is not of a fragment has offset 0 and no more fragments.
pub unfragmented_header : (header : Ipv4Header) → is_ipv4_fragment header ≡ false
    → (header.more_fragments ≡ false) × (header.fragment_offset ≡ 0)
unfragmented_header header unfragmented = grind (arith, unfragmented)

-- An unfragmented IPv4 packet without an authentication header is a plain IP packet.
pub has_ipv4 : (bytes left : List ℕ) (header : Ipv4Header) (ip : PlainIp)
    → IsIpv4Packet bytes (parts_of header ip.payload.now left) → (header.protocol.0 ≡ authentication_number → ⊥)
    → is_ipv4_fragment header ≡ false → ip.version ≡ 4 → ip.len ≡ ipv4_header_len header
    → ip.identification ≡ header.identification → ip.number ≡ header.protocol → ip.end ≡ source.Ipv4HeaderTotalLen
    → HasPlainIp (Some only_ipv4) bytes ip
has_ipv4 bytes left header ip cut other unfragmented version len identification number end =
    let payload : IpPayload = record {
      number = header.protocol.0;
      fragmented = is_ipv4_fragment header;
      source = source.Ipv4HeaderTotalLen;
      bytes = ip.payload.now;
    } in
    let packet : IpPacket Ipv4Header =
    record { header = header; extensions = []; payload = payload; left = left } in
    let is : IsIpv4 slices bytes packet = record {
      content = ip.payload.now;
      cut = cut;
      chain = (ipv4_chain_ends header.protocol.0 other, refl, refl);
      fragmented = refl;
      source = refl;
    } in
    let no_fragment = unfragmented_header header unfragmented in
    record {
      layer = ipv4 header [] payload;
      is = (packet, is, refl);
      fields = record {
        kind = sym version;
        len = omega (arith, len);
        most = omega (arith, len, cut.encodes.fits.options_len);
        ip_fields = λ i. record {
          version = sym version i;
          number = (sym number i).0;
          fragmented = bit (unfragmented i);
          more_fragments = bit (no_fragment.0 i);
          fragment_offset = 8 * no_fragment.1 i;
          identification = sym identification i;
          header_len = sym len i;
        };
        end = sym end;
        payload = λ i. Some (record {
          number = (sym number i).0;
          fragmented = unfragmented i;
          source = sym end i;
          bytes = ip.payload.now;
        });
      };
    }

-- An IPv6 packet with UDP, TCP or ICMPv6 directly after its header is a plain IP packet.
pub has_ipv6 : (bytes left : List ℕ) (header : Ipv6Header) (ip : PlainIp)
    → IsIpv6Packet bytes (parts_of header ip.payload.now left)
    → (header.next_header.0 ≡ udp_number) ⊎ (header.next_header.0 ≡ tcp_number)
    ⊎ (header.next_header.0 ≡ icmpv6_number) → ip.version ≡ 6 → ip.len ≡ 40 → ip.identification ≡ 0 → ip.number ≡ header.next_header
    → ip.end ≡ ipv6_payload_source header ip.payload.now → HasPlainIp (Some only_ipv6) bytes ip
has_ipv6 bytes left header ip cut known version len identification number end =
    let payload : IpPayload = record {
      number = header.next_header.0;
      fragmented = false;
      source = ipv6_payload_source header ip.payload.now;
      bytes = ip.payload.now;
    } in
    let packet : IpPacket Ipv6Header =
    record { header = header; extensions = []; payload = payload; left = left } in
    let is : IsIpv6 slices bytes packet = record {
      content = ip.payload.now;
      cut = cut;
      chain = (ipv6_chain_ends header.next_header.0 known, refl, refl);
      fragmented = refl;
      source = refl;
    } in
    record {
      layer = ipv6 header [] payload;
      is = (packet, is, refl);
      fields = record {
        kind = sym version;
        len = sym len;
        most = omega (arith, len);
        ip_fields = λ i. record {
          version = sym version i;
          number = (sym number i).0;
          fragmented = 0;
          more_fragments = 0;
          fragment_offset = 0;
          identification = sym identification i;
          header_len = sym len i;
        };
        end = sym end;
        payload = λ i. Some (record {
          number = (sym number i).0;
          fragmented = false;
          source = sym end i;
          bytes = ip.payload.now;
        });
      };
    }

-- A packet of IPv4 or IPv6 is an IP packet of any version.
pub any_version : (type : EtherType) (bytes : List ℕ) (net : NetLayer) (transport : Option TransportLayer)
    → (type.0 ≡ ipv4_type) ⊎ (type.0 ≡ ipv6_type) → IsNetPart slices (net_kind type) bytes (Some net) transport
    → IsNetPart slices (Some any_ip) bytes (Some net) transport
any_version type bytes net transport (inl is) part =
    let here : IsNetPart slices (Some only_ipv4) bytes (Some net) transport =
    subst (λ (n : ℕ). IsNetPart slices (net_kind (record { 0 = n })) bytes (Some net) transport) is part in
    (here.0, (ipv4_part here.1.0, here.1.1, here.1.2), here.2, here.3)
any_version type bytes net transport (inr is) part =
    let here : IsNetPart slices (Some only_ipv6) bytes (Some net) transport =
    subst (λ (n : ℕ). IsNetPart slices (net_kind (record { 0 = n })) bytes (Some net) transport) is part in
    (here.0, (ipv6_part here.1.0, here.1.1, here.1.2), here.2, here.3)

-- The ether type of a tag is not that of a network layer.
tagged_kind : (type : EtherType) → BeginsLinkExtension type → net_kind type ≡ None
tagged_kind type (inl (inl is)) = ap (λ (n : ℕ). net_kind (record { 0 = n })) is
tagged_kind type (inl (inr (inl is))) = ap (λ (n : ℕ). net_kind (record { 0 = n })) is
tagged_kind type (inl (inr (inr is))) = ap (λ (n : ℕ). net_kind (record { 0 = n })) is
tagged_kind type (inr is) = ap (λ (n : ℕ). net_kind (record { 0 = n })) is

-- Bytes that are a network layer have no ether type of a tag.
pub begins_none : (type : EtherType) (bytes : List ℕ) (net : NetLayer) (transport : Option TransportLayer)
    → IsNetPart slices (net_kind type) bytes (Some net) transport → ¬ BeginsLinkExtension type
begins_none type bytes net transport part =
    λ begins.
    let none : IsNetPart slices None bytes (Some net) transport =
    subst (λ (kind : Option NetKind). IsNetPart slices kind bytes (Some net) transport) (tagged_kind type begins) part in
    none-some net (sym none.0)

-- A network layer and the transport layer in its payload are the network part of the bytes.
pub net_part : (kind : Option NetKind) (bytes : List ℕ) (layer : NetLayer) (transport : Option TransportLayer)
    → IsPlainNet kind bytes layer → IsTransportAfterNet slices (net_payload layer) transport
    → IsNetPart slices kind bytes (Some layer) transport
net_part None bytes layer transport is inside = absurd is
net_part (Some kind) bytes layer transport is inside = (layer, is, refl, inside)

-- An IP packet and the transport layer in its payload are the network part of the bytes.
pub plain_part : (kind : Option NetKind) (bytes : List ℕ) (layer : NetLayer) (payload : IpPayload)
    (transport : Option TransportLayer) → IsPlainNet kind bytes layer → net_payload layer ≡ Some payload
    → IsTransportIn slices payload transport → IsNetPart slices kind bytes (Some layer) transport
plain_part kind bytes layer payload transport is same inside =
    net_part kind bytes layer transport is
    (subst (λ (p : Option IpPayload). IsTransportAfterNet slices p transport) (sym same) inside)

-- ---- the description of a network layer

-- The limit of a payload, and its bytes, if there is a payload.
abbrev source_in : Option IpPayload → LenSource
source_in None = source.Slice
source_in (Some payload) = payload.source

abbrev bytes_in : Option IpPayload → List ℕ
bytes_in None = []
bytes_in (Some payload) = payload.bytes

-- The payload of a network layer is the bytes after it, limited by the layer.
pub has_payload : (layer : NetLayer) (payload : IpPayload) → net_payload layer ≡ Some payload
    → (net_end (Some layer) ≡ payload.source) × (after_net [] (Some layer) ≡ payload.bytes)
has_payload (ipv4 header extensions inside) payload is = (ap source_in is, ap bytes_in is)
has_payload (ipv6 header extensions inside) payload is = (ap source_in is, ap bytes_in is)
has_payload (arp packet) payload is = absurd (none-some payload is)

-- There are no bytes after a network layer without a payload, which is ARP.
pub has_none : (layer : NetLayer) → net_payload layer ≡ None
    → (net_end (Some layer) ≡ source.ArpAddrLengths) × (after_net [] (Some layer) ≡ [])
has_none (ipv4 header extensions inside) is = absurd (none-some inside (sym is))
has_none (ipv6 header extensions inside) is = absurd (none-some inside (sym is))
has_none (arp packet) is = (refl, refl)

-- The descriptions of a network header and of the transport layer are the description of the network layer.
pub net_is_described : (offset : ℕ) (net : NetLayer) (transport : Option TransportLayer) (end : LenSource)
    (bytes : List ℕ) (header : Part) (ip : Ip) (old new : Packet)
    → (net_end (Some net) ≡ end) × (after_net [] (Some net) ≡ bytes)
    → header ≡ part (kind_number (Some net)) offset (net_len (Some net)) → ip ≡ ip_in (Some net)
    → new ≡ transport_description (offset + header.len) end bytes transport (record old { net = header; ip = ip })
    → new ≡ net_description offset net transport old
net_is_described offset net transport end bytes header ip old new payload_is header_is ip_is same =
    same ∙ (λ i. transport_description (offset + (header_is i).len) (sym payload_is.0 i) (sym payload_is.1 i) transport
    (record old { net = header_is i; ip = ip_is i }))

-- The description of a plain IP packet is the description of its network layer.
pub plain_is_described : (offset : ℕ) (net : NetLayer) (transport : Option TransportLayer) (ip : PlainIp)
    (old new : Packet) → IsPlainIp net ip → new ≡ plain_description offset ip transport old
    → new ≡ net_description offset net transport old
plain_is_described offset net transport ip old new fields same =
    net_is_described offset net transport ip.end ip.payload.now (part ip.version offset ip.len) (plain_ip ip) old new
    (has_payload net (plain_payload ip) fields.payload)
    (λ i. record { kind = sym fields.kind i; offset = offset; len = sym fields.len i }) (sym fields.ip_fields) same

-- ---- the whole frame

-- The layers of a plain frame.
abbrev pub plain_layers : Option LinkLayer → List LinkExtension → NetLayer → Option TransportLayer → Layers
plain_layers link tags net transport =
    record { link = link; link_exts = tags; net = Some net; transport = transport }

-- An outer layer that limits nothing leaves the limit of the inner layer.
limited_by_slice : (end : LenSource) → limited_by source.Slice end ≡ end
limited_by_slice source.Slice = refl
limited_by_slice source.MacsecShortLength = refl
limited_by_slice source.Ipv4HeaderTotalLen = refl
limited_by_slice source.Ipv6HeaderPayloadLen = refl
limited_by_slice source.UdpHeaderLen = refl
limited_by_slice source.ArpAddrLengths = refl

-- The bytes after a network layer do not depend on the bytes that contain the layer.
after_net_any : (bytes : List ℕ) (net : NetLayer) → after_net [] (Some net) ≡ after_net bytes (Some net)
after_net_any bytes (ipv4 header extensions payload) = refl
after_net_any bytes (ipv6 header extensions payload) = refl
after_net_any bytes (arp packet) = refl

-- Link header, tags and the description of the network layer are the description of all layers.
pub plain_described : (link : Option LinkLayer) (tags : List LinkExtension) (net : NetLayer)
    (transport : Option TransportLayer) (offset : ℕ) (old new : Packet) → extensions_len_source tags ≡ source.Slice
    → offset ≡ link_len link + tags_len tags → old.link ≡ link_part link
    → old.link_exts ≡ tag_slots (link_len link) tags → old.link_ext_count ≡ length tags
    → old.refusal ≡ no_refusal → new ≡ net_description offset net transport old
    → new ≡ description (plain_layers link tags net transport)
plain_described link tags net transport offset old new unlimited place link_is tags_are count refused same =
    let end : net_end (Some net) ≡ limited_by (extensions_len_source tags) (net_end (Some net)) =
    sym (limited_by_slice (net_end (Some net)))
    ∙ ap (λ (e : LenSource). limited_by e (net_end (Some net))) (sym unlimited) in
    let payload_is = after_net_any (payload_after_exts (link_payload link) tags) net in
    same ∙ (λ i. transport_description (place i + net_len (Some net)) (end i) (payload_is i) transport (record old {
      link = link_is i;
      link_exts = tags_are i;
      link_ext_count = count i;
      net = part (kind_number (Some net)) (place i) (net_len (Some net));
      ip = ip_in (Some net);
      refusal = refused i;
    }))

-- An Ethernet II header with these tags and layers in its payload is a frame.
pub plain_frame : (bytes left : List ℕ) (frame : Ethernet2Slice) (tags : List LinkExtension) (net : NetLayer)
    (transport : Option TransportLayer) → IsEthernet2 bytes (ethernet2_slice_parts frame left)
    → IsInside slices most_link_exts (Some (ethernet2_slice_header frame).ether_type) (ethernet2_slice_payload frame)
    tags (Some net) transport
    → IsFrame ethernet_entry bytes
    (plain_layers (Some (ethernet2 (ethernet2_slice_header frame) (ethernet2_slice_payload frame))) tags net transport)
plain_frame bytes left frame tags net transport is inside = (ethernet2_slice_parts frame left, is, refl, inside)
