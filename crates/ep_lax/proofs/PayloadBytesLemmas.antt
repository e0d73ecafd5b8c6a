-- The payload of a layer read laxly has the bytes from the end of its headers to the end that its length field
-- states, if the field applies, or else to the end of the bytes around the layer.
use Rattle.std.proofs.Common.{◌≡◌, ◌⊎◌, ◌==◌, ◌&&◌, nat_le, if◌then◌else◌, ℕ, zero, suc, ◌+◌, ◌<◌, ◌≤◌, Bool, false, List, [], ◌∷◌, ◌++◌, length, length-append, map, Option, Some, None, refl, sym, ap, subst, ◌∙◌, inl, inr, append_assoc, arith}
use Rattle.std.specs.Option.{option_map}
use Rattle.std.proofs.lemmas.Bool.{cases_eq, cases_lt, le-leb, lt-leb}
use Rattle.std.proofs.lemmas.List.{append-nil}
use Rattle.ep_base.specs.IpPayload.{IpPayload}
use Rattle.ep_base.specs.LaxCut.{LaxCut, IsLaxCut}
use Rattle.ep_base.specs.Readings.{Reading, headers}
use Rattle.ep_base.specs.declared.ether_type.EtherType.{EtherType}
use Rattle.ep_base.specs.declared.len_source.LenSource.{LenSource}
use Rattle.ep_base.specs.declared.len_source.LenSource.TheVariants as source
use Rattle.ep_base.specs.declared.err.ipv6_exts.HeaderSliceError.{HeaderSliceError}
use Rattle.ep_base.proofs.LaxCutLemmas.{cuts_not, cuts_present}
use Rattle.ep_ext.specs.Chains.{IpVersion, ipv4, ipv6, ExtensionChain, chain_fragments}
use Rattle.ep_ext.specs.ChainPrefixes.{IsLaxChainIn}
use Rattle.ep_ext.specs.ExtensionParts.{ExtensionPart, part_len}
use Rattle.ep_ip.specs.declared.ipv4_header.Ipv4Header.{Ipv4Header}
use Rattle.ep_ip.specs.declared.ipv6_header.Ipv6Header.{Ipv6Header}
use Rattle.ep_ip.specs.Ipv4.{ipv4_header_len, is_ipv4_fragment}
use Rattle.ep_ip.specs.Ipv6.{ipv6_bytes}
use Rattle.ep_ip.proofs.IpBytesLemmas.{encoded_len as ipv4_encoded_len, ipv6_len}
use Rattle.ep_link.specs.Arp.{arp_bytes}
use Rattle.ep_link.specs.Ethernet2.{ethernet2_bytes, ethernet2_header_len}
use Rattle.ep_link.specs.LinkExtensions.{LinkExtension, vlan, macsec, extension_payload, extension_type}
use Rattle.ep_link.specs.LinkSlices.{LinkLayer, ethernet2, linux_sll as sll, ether_payload}
use Rattle.ep_link.specs.LinuxSll.{linux_sll_bytes, linux_sll_header_len, protocol_ether_type}
use Rattle.ep_link.specs.Macsec.{macsec_header_len, macsec_payload_bytes, sci_len}
use Rattle.ep_link.specs.Vlan.{vlan_bytes}
use Rattle.ep_link.proofs.MacsecReadLemmas.{encoded_len as macsec_encoded_len}
use Rattle.ep_transport.specs.declared.transport_header.TransportHeader.{TransportHeader}
use Rattle.ep_transport.specs.declared.transport_header.TransportHeader.TheVariants as header
use Rattle.ep_transport.specs.TransportParts.{IsTransportLayer, TransportLayer, transport_layer, payload_in}
use Rattle.ep_transport.specs.Udp.{udp_bytes}
use Rattle.ep_packet.specs.declared.entry.Entry.{Entry}
use Rattle.ep_packet.specs.declared.entry.Entry.TheVariants.{Ethernet as ethernet, LinuxSll as linux_sll, EtherType as ether_type, Ip as ip}
use Rattle.ep_packet.specs.declared.err.slice_error.SliceError.{SliceError}
use Rattle.ep_packet.specs.Frame.{NetKind, only_ipv4, only_ipv6, only_arp, any_ip, net_kind, most_link_exts}
use Rattle.ep_packet.specs.FrameBytes.{EncodesLink, inner_payload, link_payload, payload_after_exts}
use Rattle.ep_packet.specs.Layers.{NetLayer, arp, ipv4_layer, ipv6_layer}
use Rattle.ep_packet.specs.Offsets.{link_len, net_len, parts_len, tag_len, tags_len, transport_len}
use Rattle.ep_packet.proofs.OffsetLemmas.{link_encoded, net_encoded, tag_encoded, transport_encoded}
use Rattle.ep_lax.specs.Lax.{IsHeaderLimitedLaxly, IsInsideIp, IsIpLayer, IsIpv4NetIn, IsIpv6NetIn, IsLaxIn, IsLaxExtension, IsLaxInsideIn, IsLaxNetIn, IsLaxTransport, IsNoNet}
use Rattle.ep_lax.specs.LaxHeaders.{LayerHeader, of_extension, net_headers, tag_header, transport_headers}
use Rattle.ep_ip.specs.LaxIp.{LaxIp, lax_ipv6_source, stop_after}
use Rattle.ep_lax.specs.LaxLayers.{LaxLayers, LaxNet, LaxTransport}
use Rattle.ep_lax.specs.LaxMacsec.{macsec_stated_len}
use Rattle.ep_lax.specs.LengthFields.{ArePayloads, AreTagPayloads, IsByteRange, end_by_length, last_layer_end, layer_end}
use Rattle.ep_lax.specs.StrictFrames.{extension_in, layers_in}
use Rattle.ep_lax.proofs.LaxLawLemmas.{Tagged}
use Rattle.ep_lax.proofs.LaxMacsecLemmas.{payload_by_is}
use Rattle.ep_lax.proofs.LaxOrderLemmas.{chain_bytes_are, tag_bytes}
use Rattle.ep_lax.proofs.MoreIpLemmas.{chain_len}
use Rattle.ep_lax.proofs.NestedLengthLemmas.{none_stated, some_stated, three_lens, two_lens}

-- ---- length fields

-- A length that does not include its header or ends after the bytes does not apply.
end_below : (offset len end stated : ℕ) → stated < len → end_by_length offset len end (Some stated) ≡ end
end_below offset len end stated below i =
    if lt-leb len stated below i && nat_le (offset + stated) end then offset + stated else end

end_after : (offset len end stated : ℕ) → len ≤ stated → end < offset + stated
    → end_by_length offset len end (Some stated) ≡ end
end_after offset len end stated enough after i =
    if le-leb len stated enough i && lt-leb (offset + stated) end after i then offset + stated else end

end_present : (offset len end stated : ℕ) → len ≤ stated → offset + stated ≤ end
    → end_by_length offset len end (Some stated) ≡ offset + stated
end_present offset len end stated enough within i =
    if le-leb len stated enough i && le-leb (offset + stated) end within i then offset + stated else end

-- The payload that a length field does not limit has all bytes.
all_bytes : (least stated : ℕ) (named : LenSource) (outer : Bool) (header_len : ℕ) (after : List ℕ) (cut : LaxCut)
    → IsLaxCut least stated named outer header_len after cut
    → (stated < least) ⊎ (header_len + length after < stated)
    → header_len + length cut.payload ≡ header_len + length after
all_bytes least stated named outer header_len after cut is why =
    let present = header_len + length after in
    let not_cut = cuts_not least stated present why in is.ends ∙ (λ i. if not_cut i then stated else present)

-- The payload of a layer at `offset`, limited by a length field whose minimum is the length of the header.
stated_ends : (offset end least stated : ℕ) (named : LenSource) (outer : Bool) (header_len : ℕ) (after : List ℕ)
    (cut : LaxCut) → IsLaxCut least stated named outer header_len after cut
    → offset + (header_len + length after) ≡ end → (least ≤ stated → header_len ≤ stated)
    → (stated < least → stated < header_len)
    → offset + header_len + length cut.payload ≡ end_by_length offset header_len end (Some stated)
stated_ends offset end least stated named outer header_len after cut is ends enough short =
    let present = header_len + length after in
    elim (cases_lt stated least) [
      | inl below ↦
          let all = all_bytes least stated named outer header_len after cut is (inl below) in
          let same : offset + header_len + length cut.payload ≡ end = omega (arith, all, ends) in
          same ∙ sym (end_below offset header_len end stated (short below))
      | inr least_stated ↦ elim (cases_lt present stated) [
        | inl long ↦
            let all = all_bytes least stated named outer header_len after cut is (inr long) in
            let same : offset + header_len + length cut.payload ≡ end = omega (arith, all, ends) in
            same
            ∙ sym (end_after offset header_len end stated (enough least_stated) (omega (arith, long, ends)))
        | inr fits ↦
            let cut_present = cuts_present least stated present least_stated fits in
            let some : header_len + length cut.payload ≡ stated =
            is.ends ∙ (λ i. if cut_present i then stated else present) in
            let same : offset + header_len + length cut.payload ≡ offset + stated = omega (arith, some) in
            same
            ∙ sym (end_present offset header_len end stated (enough least_stated) (omega (arith, fits, ends)))
      ]
    ]

-- The value 0 of a length field states no length.
field_ends : (offset end field least stated : ℕ) (named : LenSource) (outer : Bool) (header_len : ℕ) (after : List ℕ)
    (cut : LaxCut) → IsLaxCut least stated named outer header_len after cut
    → offset + (header_len + length after) ≡ end → (field ≡ 0 → stated < least)
    → (0 < field → least ≤ stated → header_len ≤ stated) → (0 < field → stated < least → stated < header_len)
    → offset + header_len + length cut.payload
    ≡ end_by_length offset header_len end (if field == 0 then None else Some stated)
field_ends offset end field least stated named outer header_len after cut is ends none enough short =
    let Goal : Option ℕ → Type 0 =
    λ s. offset + header_len + length cut.payload ≡ end_by_length offset header_len end s in
    elim (cases_eq field 0) [
      | inl no_len ↦
          let all = all_bytes least stated named outer header_len after cut is (inl (none no_len)) in
          let same : offset + header_len + length cut.payload ≡ end = omega (arith, all, ends) in
          subst Goal (sym (none_stated field stated no_len)) same
      | inr other ↦
          let some : 0 < field = omega (arith, other) in
          subst Goal (sym (some_stated field stated some))
          (stated_ends offset end least stated named outer header_len after cut is ends (enough some) (short some))
    ]

-- ---- ranges of bytes

-- The payload after a header, before trailing bytes, in a range of bytes.
payload_range : (packet : List ℕ) (offset end len last : ℕ) (bytes header payload left : List ℕ)
    → IsByteRange packet offset end bytes → bytes ≡ (header ++ payload) ++ left → length header ≡ len
    → offset + len + length payload ≡ last → IsByteRange packet (offset + len) last payload
payload_range packet offset end len last bytes header payload left at parts header_len ends = record {
  front = at.front ++ header;
  left = left ++ at.left;
  parts = at.parts ∙ ap (λ (b : List ℕ). at.front ++ (b ++ at.left)) parts ∙ simp append_assoc;
  starts = omega (arith, length-append at.front header, at.starts, header_len);
  ends = ends;
}

-- All bytes after a header.
rest_range : (packet : List ℕ) (offset end len : ℕ) (bytes header rest : List ℕ)
    → IsByteRange packet offset end bytes → bytes ≡ header ++ rest → length header ≡ len
    → IsByteRange packet (offset + len) end rest
rest_range packet offset end len bytes header rest at parts header_len =
    payload_range packet offset end len end bytes header rest [] at
    (parts ∙ sym (append-nil (header ++ rest))) header_len
    (omega (arith, at.ends, ap length parts, length-append header rest, header_len))

-- The length of a header and the bytes after it.
range_len : (packet : List ℕ) (offset end len : ℕ) (bytes header after : List ℕ)
    → IsByteRange packet offset end bytes → bytes ≡ header ++ after → length header ≡ len
    → offset + (len + length after) ≡ end
range_len packet offset end len bytes header after at parts header_len =
    omega (arith, at.ends, ap length parts, length-append header after, header_len)

-- The payload of a layer that a length field limits.
cut_range : (packet : List ℕ) (offset end len last : ℕ) (bytes header after : List ℕ) (cut : LaxCut)
    → IsByteRange packet offset end bytes → bytes ≡ header ++ after → length header ≡ len
    → after ≡ cut.payload ++ cut.left → offset + len + length cut.payload ≡ last
    → IsByteRange packet (offset + len) last cut.payload
cut_range packet offset end len last bytes header after cut at parts header_len cut_parts ends =
    payload_range packet offset end len last bytes header cut.payload cut.left at
    (parts ∙ ap (λ (b : List ℕ). header ++ b) cut_parts ∙ sym (append_assoc header cut.payload cut.left)) header_len
    ends

-- A range from an equal offset to an equal offset.
same_range : (packet : List ℕ) (start other end last : ℕ) (bytes : List ℕ) → IsByteRange packet start end bytes
    → start ≡ other → end ≡ last → IsByteRange packet other last bytes
same_range packet start other end last bytes at starts ends =
    subst (λ (n : ℕ). IsByteRange packet n last bytes) starts
    (subst (λ (n : ℕ). IsByteRange packet start n bytes) ends at)

-- The bytes of a packet.
range_of_all : (packet : List ℕ) → IsByteRange packet 0 (length packet) packet
range_of_all packet =
    record { front = []; left = []; parts = sym (append-nil packet); starts = refl; ends = omega arith }

-- ---- transport layer

-- The payload of a transport layer, if present, in bytes from `offset` to `end`; without one, these bytes.
abbrev IsTransportRange : List ℕ → ℕ → ℕ → List ℕ → Option TransportLayer → Type 0
IsTransportRange packet offset end bytes transport = IsByteRange packet (offset + transport_len transport)
    (last_layer_end offset end (transport_headers transport)) (payload_in bytes transport)

no_transport_range : (packet : List ℕ) (offset end : ℕ) (bytes : List ℕ) → IsByteRange packet offset end bytes
    → IsTransportRange packet offset end bytes None
no_transport_range packet offset end bytes at =
    same_range packet offset (offset + 0) end end bytes at (omega arith) refl

header_range : (packet : List ℕ) (offset end number : ℕ) (outer : Bool) (bytes : List ℕ) (h : TransportHeader)
    (payload : List ℕ) (lax : LaxTransport) → IsTransportLayer headers number bytes h payload
    → IsHeaderLimitedLaxly outer h payload lax → IsByteRange packet offset end bytes
    → IsTransportRange packet offset end bytes lax.layer
header_range packet offset end number outer bytes (header.Udp udp) payload lax part is at =
    let cut = is.0 in
    let udp_header = udp_bytes udp in
    let ends = field_ends offset end udp.length 8 udp.length source.UdpHeaderLen outer 8 payload cut is.1
    (range_len packet offset end 8 bytes udp_header payload at part.1.parts refl) (λ none. omega (arith, none))
    (λ some enough. enough) (λ some short. short) in
    subst (λ (l : LaxTransport). IsTransportRange packet offset end bytes l.layer) (sym is.2)
    (cut_range packet offset end 8 _ bytes udp_header payload cut at part.1.parts refl is.1.parts ends)
header_range packet offset end number outer bytes (header.Tcp tcp) payload lax part is at =
    let layer = transport_layer (header.Tcp tcp) payload in
    let segment = part.1 in
    subst (λ (l : LaxTransport). IsTransportRange packet offset end bytes l.layer) (sym is)
    (rest_range packet offset end (transport_len (Some layer)) bytes segment.encoded payload at segment.parts
    (transport_encoded (Some layer) segment.encoded segment.encodes))
header_range packet offset end number outer bytes (header.Icmpv4 icmp) payload lax part is at =
    let layer = transport_layer (header.Icmpv4 icmp) payload in
    let message = part.1 in
    subst (λ (l : LaxTransport). IsTransportRange packet offset end bytes l.layer) (sym is)
    (rest_range packet offset end (transport_len (Some layer)) bytes message.encoded payload at message.parts
    (transport_encoded (Some layer) message.encoded message.encodes))
header_range packet offset end number outer bytes (header.Icmpv6 icmp) payload lax part is at =
    let layer = transport_layer (header.Icmpv6 icmp) payload in
    let message = part.1 in
    subst (λ (l : LaxTransport). IsTransportRange packet offset end bytes l.layer) (sym is)
    (rest_range packet offset end (transport_len (Some layer)) bytes message.encoded payload at message.parts
    (transport_encoded (Some layer) message.encoded message.encodes))

transport_range : (packet : List ℕ) (offset end place : ℕ) (outer : Bool) (payload : IpPayload) (lax : LaxTransport)
    → IsLaxTransport place outer payload lax → IsByteRange packet offset end payload.bytes
    → IsTransportRange packet offset end payload.bytes lax.layer
transport_range packet offset end place outer payload lax (inl refused) at =
    subst (λ (l : LaxTransport). IsTransportRange packet offset end payload.bytes l.layer) (sym refused.2)
    (no_transport_range packet offset end payload.bytes at)
transport_range packet offset end place outer payload lax (inr (None, part, same)) at =
    subst (λ (l : LaxTransport). IsTransportRange packet offset end payload.bytes l.layer) (sym same)
    (no_transport_range packet offset end payload.bytes at)
transport_range packet offset end place outer payload lax (inr (Some layer, part, is)) at =
    header_range packet offset end payload.number outer payload.bytes layer.header layer.payload lax part.1 is at

inside_ip_range : (packet : List ℕ) (offset end place headers_len : ℕ) (version : IpVersion) (incomplete : Bool)
    (payload : IpPayload) (stop : Option HeaderSliceError) (inside : LaxTransport)
    → IsInsideIp version place headers_len incomplete payload stop inside
    → IsByteRange packet offset end payload.bytes → IsTransportRange packet offset end payload.bytes inside.layer
inside_ip_range packet offset end place headers_len version incomplete payload None inside is at =
    transport_range packet offset end (place + headers_len) incomplete payload inside is at
inside_ip_range packet offset end place headers_len version incomplete payload (Some error) inside is at =
    subst (λ (l : LaxTransport). IsTransportRange packet offset end payload.bytes l.layer) (sym is)
    (no_transport_range packet offset end payload.bytes at)

-- ---- network layer

-- Extension headers state no lengths.
parts_end : (offset end : ℕ) (parts : List ExtensionPart) (others : List LayerHeader)
    → last_layer_end offset end (map of_extension parts ++ others)
    ≡ last_layer_end (offset + parts_len parts) end others
parts_end offset end [] others =
    let same : offset ≡ offset + 0 = omega arith in ap (λ (n : ℕ). last_layer_end n end others) same
parts_end offset end (part ∷ parts) others =
    let same : offset + part_len part + parts_len parts ≡ offset + (part_len part + parts_len parts) = omega arith in
    parts_end (offset + part_len part) end parts others ∙ ap (λ (n : ℕ). last_layer_end n end others) same

-- The payload of these layers, which are in `bytes` from `offset` to `end`.
abbrev IsNetRange : List ℕ → ℕ → ℕ → List ℕ → Option NetLayer → Option TransportLayer → Type 0
IsNetRange packet offset end bytes net transport = IsByteRange packet
    (offset + net_len net + transport_len transport)
    (last_layer_end offset end (net_headers net ++ transport_headers transport)) (inner_payload bytes net transport)

-- The payload of the network layer, and that of the transport layer in it.
record AreNetRanges (packet : List ℕ) (offset end : ℕ) (bytes : List ℕ) (read : LaxNet) : Type 0 where
  net : IsNetRange packet offset end bytes read.layer None
  transport : IsNetRange packet offset end bytes read.layer read.inside.layer

-- The payload after an IP header of this length and extension headers, or that of the transport layer in it.
abbrev IsIpRange : List ℕ → ℕ → ℕ → ℕ → ExtensionChain → Option TransportLayer → Type 0
IsIpRange packet offset end header_len chain transport = IsByteRange packet
    (offset + (header_len + parts_len chain.parts) + transport_len transport)
    (last_layer_end (offset + header_len) end (map of_extension chain.parts ++ transport_headers transport))
    (payload_in chain.rest transport)

after_parts_range : (packet : List ℕ) (offset end header_len : ℕ) (chain : ExtensionChain)
    (transport : Option TransportLayer)
    → IsTransportRange packet (offset + header_len + parts_len chain.parts) end chain.rest transport
    → IsIpRange packet offset end header_len chain transport
after_parts_range packet offset end header_len chain transport at =
    same_range packet _ _ _ _ (payload_in chain.rest transport) at (omega arith)
    (sym (parts_end (offset + header_len) end chain.parts (transport_headers transport)))

-- The layers in a packet whose extension headers and payload are the bytes of `cut`.
packet_ranges : (reading : Reading) (packet : List ℕ) (offset end place headers_len header_len number : ℕ)
    (version : IpVersion) (limit : LenSource) (cut : LaxCut) (chain : ExtensionChain)
    (refused : Option HeaderSliceError) (fragmented : Bool) (inside : LaxTransport)
    → IsLaxChainIn version reading number cut.payload chain refused
    → IsInsideIp version place headers_len cut.incomplete
    (record { number = chain.last; fragmented = fragmented; source = limit; bytes = chain.rest })
    (option_map (stop_after header_len limit) refused) inside → IsByteRange packet (offset + header_len) end cut.payload
    → IsIpRange packet offset end header_len chain None × IsIpRange packet offset end header_len chain inside.layer
packet_ranges reading packet offset end place headers_len header_len number version limit cut chain refused fragmented
    inside is_chain is at =
    let headers_are = chain_bytes_are reading version number cut.payload chain refused is_chain in
    let count = chain_len version reading number cut.payload chain refused is_chain in
    let start = offset + header_len + parts_len chain.parts in
    let rest : IsByteRange packet start end chain.rest =
    rest_range packet (offset + header_len) end (parts_len chain.parts) cut.payload headers_are.0 chain.rest at
    headers_are.2
    (omega (arith, count, ap length headers_are.2, length-append headers_are.0 chain.rest)) in
    let payload : IpPayload =
    record { number = chain.last; fragmented = fragmented; source = limit; bytes = chain.rest } in (
      after_parts_range packet offset end header_len chain None (no_transport_range packet start end chain.rest rest),
      after_parts_range packet offset end header_len chain inside.layer
          (inside_ip_range packet start end place headers_len version cut.incomplete payload
          (option_map (stop_after header_len limit) refused) inside is rest),
    )

ipv4_ranges : (reading : Reading) (packet : List ℕ) (offset end place : ℕ) (outer : Bool) (around bytes : List ℕ)
    (net : LaxNet) → IsIpv4NetIn reading place outer bytes net → IsByteRange packet offset end bytes
    → AreNetRanges packet offset end around net
ipv4_ranges reading packet offset end place outer around bytes net is at =
    let read = is.1.0 in
    let holds = is.1.1 in
    let after = is.1.2 in
    let header = read.0 in
    let n = ipv4_header_len header in
    let layer = subst (λ (l : LaxIp Ipv4Header). IsIpLayer ipv4 ipv4_layer place l net) after.is is.2 in
    let encoded_len = ipv4_encoded_len holds.encoded header holds.encodes in
    let last = end_by_length offset n end (Some header.total_len) in
    let ends = stated_ends offset end n header.total_len source.Ipv4HeaderTotalLen outer n read.1 after.cut after.cuts
    (range_len packet offset end n bytes holds.encoded read.1 at holds.parts encoded_len) (λ enough. enough)
    (λ short. short) in
    let content = cut_range packet offset end n last bytes holds.encoded read.1 after.cut at holds.parts encoded_len
    after.cuts.parts ends in
    let inner = packet_ranges reading packet offset last place _ n header.protocol.0 ipv4 after.cut.source after.cut
    after.chain after.refused (is_ipv4_fragment header) layer.0 after.is_chain layer.1 content in
    subst (AreNetRanges packet offset end around) (sym layer.2) (record { net = inner.0; transport = inner.1 })

ipv6_ranges : (reading : Reading) (packet : List ℕ) (offset end place : ℕ) (outer : Bool) (around bytes : List ℕ)
    (net : LaxNet) → IsIpv6NetIn reading place outer bytes net → IsByteRange packet offset end bytes
    → AreNetRanges packet offset end around net
ipv6_ranges reading packet offset end place outer around bytes net is at =
    let read = is.1.0 in
    let holds = is.1.1 in
    let after = is.1.2 in
    let header = read.0 in
    let field = header.payload_length in
    let layer = subst (λ (l : LaxIp Ipv6Header). IsIpLayer ipv6 ipv6_layer place l net) after.is is.2 in
    let encoded = ipv6_bytes header in
    let encoded_len = ipv6_len header holds.fits in
    let last = end_by_length offset 40 end (if field == 0 then None else Some (40 + field)) in
    let ends = field_ends offset end field 41 (40 + field) source.Ipv6HeaderPayloadLen outer 40 read.1 after.cut
    after.cuts (range_len packet offset end 40 bytes encoded read.1 at holds.parts encoded_len)
    (λ none. omega (arith, none)) (λ some enough. omega arith) (λ some short. omega (arith, some, short)) in
    let content = cut_range packet offset end 40 last bytes encoded read.1 after.cut at holds.parts encoded_len
    after.cuts.parts ends in
    let limit = lax_ipv6_source header after.cut in
    let inner = packet_ranges reading packet offset last place _ 40 header.next_header.0 ipv6 limit after.cut
    after.chain after.refused (chain_fragments after.chain.parts) layer.0 after.is_chain layer.1 content in
    subst (AreNetRanges packet offset end around) (sym layer.2) (record { net = inner.0; transport = inner.1 })

-- Bytes without network layer.
no_layer_range : (packet : List ℕ) (offset end : ℕ) (bytes : List ℕ) → IsByteRange packet offset end bytes
    → IsNetRange packet offset end bytes None None
no_layer_range packet offset end bytes at =
    same_range packet offset (offset + 0 + 0) end end bytes at (omega arith) refl

no_net_ranges : (packet : List ℕ) (offset end : ℕ) (outer : Bool) (bytes : List ℕ) (net : LaxNet)
    (error : SliceError) → IsNoNet outer net error → IsByteRange packet offset end bytes
    → AreNetRanges packet offset end bytes net
no_net_ranges packet offset end outer bytes net error is at =
    let present = no_layer_range packet offset end bytes at in
    subst (AreNetRanges packet offset end bytes) (sym is) (record { net = present; transport = present })

net_ranges : (reading : Reading) (packet : List ℕ) (offset end place : ℕ) (outer : Bool) (kind : Option NetKind)
    (bytes : List ℕ) (net : LaxNet) → IsLaxNetIn reading place outer kind bytes net
    → IsByteRange packet offset end bytes → AreNetRanges packet offset end bytes net
net_ranges reading packet offset end place outer None bytes net is at =
    let present = no_layer_range packet offset end bytes at in
    subst (AreNetRanges packet offset end bytes) (sym is) (record { net = present; transport = present })
net_ranges reading packet offset end place outer (Some only_ipv4) bytes net (inl refused) at =
    no_net_ranges packet offset end outer bytes net refused.0 refused.2 at
net_ranges reading packet offset end place outer (Some only_ipv4) bytes net (inr is) at =
    ipv4_ranges reading packet offset end place outer bytes bytes net is at
net_ranges reading packet offset end place outer (Some only_ipv6) bytes net (inl refused) at =
    no_net_ranges packet offset end outer bytes net refused.0 refused.2 at
net_ranges reading packet offset end place outer (Some only_ipv6) bytes net (inr is) at =
    ipv6_ranges reading packet offset end place outer bytes bytes net is at
net_ranges reading packet offset end place outer (Some only_arp) bytes net (inl refused) at =
    no_net_ranges packet offset end outer bytes net refused.0 refused.2 at
net_ranges reading packet offset end place outer (Some only_arp) bytes net (inr (part, is, same)) at =
    let layer = Some (arp part.0) in
    let len = net_len layer in
    let parts : bytes ≡ (arp_bytes part.0 ++ []) ++ part.1 =
    is.parts ∙ ap (λ (b : List ℕ). b ++ part.1) (sym (append-nil (arp_bytes part.0))) in
    let none = payload_range packet offset end len (offset + len) bytes (arp_bytes part.0) [] part.1 at parts
    (net_encoded layer (arp_bytes part.0) (is.fits, refl)) (omega arith) in
    let present : IsNetRange packet offset end bytes layer None =
    same_range packet (offset + len) (offset + len + 0) (offset + len) (offset + len) [] none (omega arith) refl in
    subst (AreNetRanges packet offset end bytes) (sym same) (record { net = present; transport = present })
net_ranges reading packet offset end place outer (Some any_ip) bytes net (inl is) at =
    ipv4_ranges reading packet offset end place outer bytes bytes net is at
net_ranges reading packet offset end place outer (Some any_ip) bytes net (inr is) at =
    ipv6_ranges reading packet offset end place outer bytes bytes net is at

-- ---- link extensions

tag_ends : (offset end : ℕ) (outer : Bool) (type : EtherType) (bytes : List ℕ) (tagged : Tagged)
    → IsLaxExtension outer type bytes tagged → offset + length bytes ≡ end
    → offset + tag_len tagged.0 + length (extension_payload tagged.0) ≡ layer_end offset end (tag_header tagged.0)
tag_ends offset end outer type bytes (vlan tag payload, incomplete) is ends =
    let count : length bytes ≡ 4 + length payload + 0 = three_lens bytes (vlan_bytes tag) payload [] is.1.parts in
    omega (arith, count, ends)
tag_ends offset end outer type bytes (macsec tag payload, incomplete) is ends =
    let cut = is.1.0 in
    let packet = is.1.1 in
    let n = macsec_header_len tag in
    let stated = macsec_stated_len tag in
    let last = layer_end offset end (tag_header (macsec tag payload)) in
    let count : length bytes ≡ n + length packet.after_tag = omega (
      arith,
      two_lens bytes packet.header.encoded packet.after_tag packet.header.parts,
      macsec_encoded_len packet.header.encoded tag packet.header.encodes,
    ) in
    let none_is : tag.short_len ≡ 0 → stated ≡ 0 =
    λ none. ap (λ (s : ℕ). if s == 0 then 0 else 6 + sci_len tag.sci + s) none in
    let shown = ap macsec_payload_bytes is.1.2 ∙ payload_by_is tag.ptype cut.source cut.payload in
    subst (λ (p : List ℕ). offset + n + length p ≡ last) (sym shown)
    (field_ends offset end tag.short_len n stated source.MacsecShortLength outer n packet.after_tag cut packet.cut
    (omega (arith, count, ends)) (λ none. omega (arith, none_is none)) (λ some enough. enough)
    (λ some short. short))

tag_range : (packet : List ℕ) (offset end : ℕ) (outer : Bool) (type : EtherType) (bytes : List ℕ) (tagged : Tagged)
    → IsLaxExtension outer type bytes tagged → IsByteRange packet offset end bytes
    → IsByteRange packet (offset + tag_len tagged.0) (layer_end offset end (tag_header tagged.0))
    (extension_payload tagged.0)
tag_range packet offset end outer type bytes tagged is at =
    let are = tag_bytes outer type bytes tagged is in
    payload_range packet offset end (tag_len tagged.0) (layer_end offset end (tag_header tagged.0)) bytes are.tag
    (extension_payload tagged.0) are.left at are.parts (tag_encoded tagged.0 are.tag are.encodes)
    (tag_ends offset end outer type bytes tagged is at.ends)

-- The payload after link extensions and the layers after them.
abbrev IsInsideRange : List ℕ → ℕ → ℕ → List ℕ → List LinkExtension → Option NetLayer → Option TransportLayer
    → Type 0
IsInsideRange packet offset end bytes extensions net transport = IsByteRange packet
    (offset + tags_len extensions + net_len net + transport_len transport)
    (last_layer_end offset end (map tag_header extensions ++ (net_headers net ++ transport_headers transport)))
    (inner_payload (payload_after_exts bytes extensions) net transport)

-- The payloads of link extensions, of the network layer after them and of the transport layer in it.
record AreInsideRanges (packet : List ℕ) (offset end : ℕ) (bytes : List ℕ) (extensions : List LinkExtension)
    (read : LaxNet) : Type 0 where
  tags : AreTagPayloads packet offset end extensions
  net : IsInsideRange packet offset end bytes extensions read.layer None
  transport : IsInsideRange packet offset end bytes extensions read.layer read.inside.layer

no_tags : (packet : List ℕ) (offset end : ℕ) (around : List ℕ) (net : LaxNet)
    → AreNetRanges packet offset end around net → AreInsideRanges packet offset end around [] net
no_tags packet offset end around net both =
    let after : (transport : Option TransportLayer) → IsNetRange packet offset end around net.layer transport
    → IsInsideRange packet offset end around [] net.layer transport =
    λ transport at. same_range packet _ _ _ _ (inner_payload around net.layer transport) at (omega arith) refl in
    record { tags = tt; net = after None both.net; transport = after net.inside.layer both.transport }

-- The layers in the payload of a link extension.
tagged_range : (packet : List ℕ) (offset end : ℕ) (bytes : List ℕ) (extension : LinkExtension)
    (others : List LinkExtension) (net : Option NetLayer) (transport : Option TransportLayer)
    → IsInsideRange packet (offset + tag_len extension) (layer_end offset end (tag_header extension))
    (extension_payload extension) others net transport
    → IsInsideRange packet offset end bytes (extension ∷ others) net transport
tagged_range packet offset end bytes extension others net transport at =
    same_range packet _ _ _ _
    (inner_payload (payload_after_exts (extension_payload extension) others) net transport) at (omega arith) refl

extension_ranges : (reading : Reading) (packet : List ℕ) (exts_left offset end place : ℕ) (outer : Bool)
    (type : Option EtherType) (bytes : List ℕ) (extensions : List Tagged) (net : LaxNet)
    → IsLaxInsideIn reading exts_left place outer type bytes extensions net → IsByteRange packet offset end bytes
    → AreInsideRanges packet offset end bytes (map extension_in extensions) net
extension_ranges reading packet exts_left offset end place outer None bytes extensions net is at =
    subst (λ (e : List Tagged). AreInsideRanges packet offset end bytes (map extension_in e) net) (sym is.0)
    (no_tags packet offset end bytes net (net_ranges reading packet offset end place outer None bytes net is.1 at))
extension_ranges reading packet zero offset end place outer (Some type) bytes [] net is at =
    no_tags packet offset end bytes net
    (net_ranges reading packet offset end place outer (net_kind type) bytes net is at)
extension_ranges reading packet zero offset end place outer (Some type) bytes (tagged ∷ others) net is at = absurd is
extension_ranges reading packet (suc exts_left) offset end place outer (Some type) bytes [] net (inl is) at =
    no_tags packet offset end bytes net
    (net_ranges reading packet offset end place outer (net_kind type) bytes net is.1 at)
extension_ranges reading packet (suc exts_left) offset end place outer (Some type) bytes [] net (inr refused) at =
    no_tags packet offset end bytes net (no_net_ranges packet offset end outer bytes net refused.0 refused.2 at)
extension_ranges reading packet (suc exts_left) offset end place outer (Some type) bytes (tagged ∷ others) net is at =
    let here = tag_range packet offset end outer type bytes tagged is.0 at in
    let tags = map extension_in others in
    let next = extension_ranges reading packet exts_left (offset + tag_len tagged.0)
    (layer_end offset end (tag_header tagged.0)) (place + tag_len tagged.0) tagged.1 (extension_type tagged.0)
    (extension_payload tagged.0) others net is.1 here in
    record {
      tags = (here, next.tags);
      net = tagged_range packet offset end bytes tagged.0 tags net.layer None next.net;
      transport = tagged_range packet offset end bytes tagged.0 tags net.layer net.inside.layer next.transport;
    }

-- ---- complete packets

-- Layers after this link layer, or without one.
linked_payloads : (packet : List ℕ) (read : LaxLayers) (link : Option LinkLayer) → read.link ≡ link
    → ArePayloads packet (record (layers_in read) { link = link }) → ArePayloads packet (layers_in read)
linked_payloads packet read link same are =
    subst (λ (l : Option LinkLayer). ArePayloads packet (record (layers_in read) { link = l })) (sym same) are

-- The payload of a link header.
link_range : (packet : List ℕ) (layer : LinkLayer) (header left : List ℕ) → EncodesLink (Some layer) header
    → packet ≡ (header ++ link_payload (Some layer)) ++ left → left ≡ []
    → IsByteRange packet (link_len (Some layer)) (length packet) (link_payload (Some layer))
link_range packet layer header left encodes parts none =
    let len = link_encoded (Some layer) header encodes in
    let payload = link_payload (Some layer) in
    let count = three_lens packet header payload left parts in
    let n = link_len (Some layer) in
    same_range packet (0 + n) n (length packet) (length packet) payload
    (payload_range packet 0 (length packet) n (length packet) packet header payload left (range_of_all packet) parts len
    (omega (arith, len, count, ap length none))) (omega arith) refl

pub lax_payloads : (reading : Reading) (entry : Entry) (bytes : List ℕ) (read : LaxLayers)
    → IsLaxIn reading entry bytes read → ArePayloads bytes (layers_in read)
lax_payloads reading ethernet bytes read is =
    let frame = is.0 in
    let layer = ethernet2 frame.header frame.payload in
    let link = link_range bytes layer (ethernet2_bytes frame.header) frame.left (is.1.fits, refl) is.1.parts is.1.cut in
    let inside = extension_ranges reading bytes most_link_exts ethernet2_header_len (length bytes) ethernet2_header_len
    false (Some frame.header.ether_type) frame.payload read.link_exts read.net is.3 link in
    linked_payloads bytes read (Some layer) is.2
    (record { link = link; tags = inside.tags; net = inside.net; transport = inside.transport })
lax_payloads reading linux_sll bytes read is =
    let frame = is.0 in
    let layer = sll frame.header frame.payload in
    let link = link_range bytes layer (linux_sll_bytes frame.header) frame.left (is.1.fits, refl) is.1.parts is.1.cut in
    let inside = extension_ranges reading bytes most_link_exts linux_sll_header_len (length bytes) linux_sll_header_len
    false (protocol_ether_type frame.header.protocol_type) frame.payload read.link_exts read.net is.3 link in
    linked_payloads bytes read (Some layer) is.2
    (record { link = link; tags = inside.tags; net = inside.net; transport = inside.transport })
lax_payloads reading (ether_type type) bytes read is =
    let layer = ether_payload type source.Slice bytes in
    let complete = range_of_all bytes in
    let inside = extension_ranges reading bytes most_link_exts 0 (length bytes) 0 false (Some type) bytes read.link_exts
    read.net is.1 complete in
    linked_payloads bytes read (Some layer) is.0
    (record { link = complete; tags = inside.tags; net = inside.net; transport = inside.transport })
lax_payloads reading ip bytes read is =
    let end = length bytes in
    let both : AreNetRanges bytes 0 end [] read.net = elim is.2 [
      | inl packet ↦ ipv4_ranges reading bytes 0 end 0 false [] bytes read.net packet (range_of_all bytes)
      | inr packet ↦ ipv6_ranges reading bytes 0 end 0 false [] bytes read.net packet (range_of_all bytes)
    ] in
    let inside = subst (λ (e : List Tagged). AreInsideRanges bytes 0 end [] (map extension_in e) read.net) (sym is.1)
    (no_tags bytes 0 end [] read.net both) in
    linked_payloads bytes read None is.0
    (record { link = tt; tags = inside.tags; net = inside.net; transport = inside.transport })
