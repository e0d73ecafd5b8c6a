-- Lax reading stops if and only if the layer after the layers that were read is rejected, and at its error.
use Rattle.std.proofs.Common.{◌≡◌, ◌⊎◌, ℕ, zero, suc, ◌+◌, ◌<◌, drop, Bool, true, false, List, [], ◌∷◌, length, length-append, map, Option, Some, None, refl, sym, ap, subst, ◌∙◌, inl, inr, arith}
use Rattle.std.specs.Option.{option_and_then, option_map}
use Rattle.std.proofs.lemmas.Grind.{common_steps}
use Rattle.std.proofs.lemmas.List.Prefix.{front_rest}
use mathlib.Core.List.{reverse_aux}
use Rattle.ep_base.specs.IpPayload.{IpPayload}
use Rattle.ep_base.specs.Readings.{Reading, headers, limited_by}
use Rattle.ep_base.specs.Tables.{RefusesAs}
use Rattle.ep_base.specs.declared.ether_type.EtherType.{EtherType}
use Rattle.ep_base.specs.declared.len_source.LenSource.{LenSource}
use Rattle.ep_base.specs.declared.len_source.LenSource.TheVariants as source
use Rattle.ep_base.specs.declared.err.layer.Layer.{Layer}
use Rattle.ep_base.specs.declared.err.ipv6_exts.HeaderError.TheVariants as content
use Rattle.ep_base.specs.declared.err.ipv6_exts.HeaderSliceError.{HeaderSliceError as ExtsSliceError}
use Rattle.ep_base.specs.declared.err.ipv6_exts.HeaderSliceError.TheVariants as exts_error
use Rattle.ep_base.specs.declared.err.tcp.HeaderSliceError.{HeaderSliceError as TransportError}
use Rattle.ep_ext.specs.ChainPrefixes.{BeginWithParts, IsLaxChainIn}
use Rattle.ep_ext.specs.Chains.{IpVersion, ipv4, ipv6, ExtensionChain, IsChainAfter, RefusesChainAfter, demand_of, ends, parts_bytes, with_offset_in}
use Rattle.ep_ext.specs.ExtensionParts.{ExtensionPart, IsExtensionPart, hop_by_hop, destination_options, routing, fragment, authentication, part_bytes, part_len, part_next, part_number}
use Rattle.ep_ext.proofs.PartLemmas.{auth_len, part_cut, part_numbered}
use Rattle.ep_ip.specs.IpPackets.{IpPacket}
use Rattle.ep_ip.specs.Ipv4.{ipv4_header_len, is_ipv4_fragment}
use Rattle.ep_ext.specs.Chains.{chain_fragments}
use Rattle.ep_link.specs.EtherPayloads.{EtherPayload}
use Rattle.ep_link.specs.LinkExtensions.{LinkExtension, vlan, macsec, extension_ether_payload, extension_header, extension_payload, extension_type, link_ext_header_len}
use Rattle.ep_link.specs.LinkSlices.{LinkLayer, ethernet2, linux_sll as sll, ether_payload, link_ether_payload, unlimited_ether_payload}
use Rattle.ep_link.specs.LinuxSll.{protocol_ether_type}
use Rattle.ep_link.specs.Macsec.{unmodified, modified}
use Rattle.ep_transport.specs.declared.transport_header.TransportHeader.{TransportHeader}
use Rattle.ep_transport.specs.declared.transport_header.TransportHeader.TheVariants as header
use Rattle.ep_transport.specs.TransportParts.{TransportLayer, IsTransportPart, RefusesTransportPart}
use Rattle.ep_transport.proofs.ReadingLemmas.{no_header_not_refused}
use Rattle.ep_packet.specs.declared.entry.Entry.{Entry}
use Rattle.ep_packet.specs.declared.entry.Entry.TheVariants.{Ethernet as ethernet, LinuxSll as linux_sll, EtherType as ether_type, Ip as ip}
use Rattle.ep_packet.specs.declared.err.slice_error.SliceError.{SliceError}
use Rattle.ep_packet.specs.declared.err.slice_error.SliceError.TheVariants.{Len}
use Rattle.ep_packet.specs.Frame.{NetKind, only_ipv4, only_ipv6, only_arp, any_ip, most_link_exts, net_kind}
use Rattle.ep_packet.specs.FrameBytes.{inner_payload, link_payload, payload_after_exts}
use Rattle.ep_packet.specs.FrameRefusals.{net_payload_offset}
use Rattle.ep_packet.specs.Layers.{NetLayer, ipv4_layer, ipv6_layer}
use Rattle.ep_packet.specs.Offsets.{link_len, net_len, parts_len, tags_len, transport_len}
use Rattle.ep_packet.specs.Payloads.{ether_payload_after, ether_payload_of_parts, open_type}
use Rattle.ep_lax.specs.Lax.{IsHeaderLimitedLaxly, IsInsideIp, IsIpv4NetIn, IsIpv6NetIn, IsLaxIn, IsLaxInsideIn, IsLaxNetIn, IsLaxTransport, IsLimitedLaxly, IsNoNet, RefusesLaxExtension, chain_refusal}
use Rattle.ep_ip.specs.LaxIp.{LaxIp, lax_ipv6_source, stop_after}
use Rattle.ep_lax.specs.LaxLayers.{LaxLayers, LaxNet, LaxTransport, net_with, no_net}
use Rattle.ep_lax.specs.LaxStops.{RefusesAfterLink, RefusesAfterNetIn, RefusesIpPayloadIn, RefusesNetHeader, RefusesNextExtensionIn, RefusesNextLayerIn}
use Rattle.ep_lax.specs.StrictFrames.{extension_in, layers_in}
use Rattle.ep_lax.proofs.LaxLawLemmas.{Tagged}

-- Reading stops at one of these errors, or there are none.
abbrev pub StopsBy : (SliceError → Type 0) → Option (SliceError × Layer) → Type 0
StopsBy Rejects None = (error : SliceError) → Rejects error → ⊥
StopsBy Rejects (Some stop) = Rejects stop.0

more_none : (n : ℕ) → n ≡ n + 0
more_none n = omega arith

-- ---- transport layer

-- Bytes without a transport layer are not rejected as one.
no_layer_rejected : (number : ℕ) (fragmented : Bool) (bytes : List ℕ) (error : TransportError)
    → IsTransportPart headers number fragmented bytes None → RefusesTransportPart headers number fragmented bytes error
    → ⊥
no_layer_rejected number true bytes error is refused = absurd (cc refused)
no_layer_rejected number false bytes error (inl fragmented) refused = absurd (cc fragmented)
no_layer_rejected number false bytes error (inr other) refused =
    no_header_not_refused headers number false bytes error other refused

-- Reading of a payload of IP, which starts at `offset`, stops exactly at its errors.
abbrev pub InIpStops : Reading → IpVersion → List ExtensionPart → IpPayload → ℕ → LaxTransport → Type 0
InIpStops reading version extensions payload offset lax =
    StopsBy (RefusesIpPayloadIn reading version extensions payload lax.layer offset) lax.stop

-- Reading does not stop after a transport header.
header_next : (reading : Reading) (version : IpVersion) (extensions : List ExtensionPart) (payload : IpPayload)
    (offset : ℕ) (outer : Bool) (read : TransportHeader) (bytes : List ℕ) (lax : LaxTransport)
    → IsHeaderLimitedLaxly outer read bytes lax → InIpStops reading version extensions payload offset lax
header_next reading version extensions payload offset outer (header.Udp udp) bytes lax is =
    subst (InIpStops reading version extensions payload offset) (sym is.2) (λ error never. never)
header_next reading version extensions payload offset outer (header.Tcp tcp) bytes lax is =
    subst (InIpStops reading version extensions payload offset) (sym is) (λ error never. never)
header_next reading version extensions payload offset outer (header.Icmpv4 icmp) bytes lax is =
    subst (InIpStops reading version extensions payload offset) (sym is) (λ error never. never)
header_next reading version extensions payload offset outer (header.Icmpv6 icmp) bytes lax is =
    subst (InIpStops reading version extensions payload offset) (sym is) (λ error never. never)

-- No extension header that the payload begins with is rejected.
abbrev pub HasNoNextExtension : Reading → IpVersion → List ExtensionPart → IpPayload → ℕ → Type 0
HasNoNextExtension reading version extensions payload offset =
    (error : SliceError) → RefusesNextExtensionIn reading version extensions payload offset error → ⊥

-- A payload without transport layer and extension header has no errors.
none_in_ip : (reading : Reading) (version : IpVersion) (extensions : List ExtensionPart) (payload : IpPayload)
    (offset : ℕ) → HasNoNextExtension reading version extensions payload offset
    → IsTransportPart headers payload.number payload.fragmented payload.bytes None → (error : SliceError)
    → RefusesIpPayloadIn reading version extensions payload None offset error → ⊥
none_in_ip reading version extensions payload offset no_extension is error (inl refused) = no_extension error refused
none_in_ip reading version extensions payload offset no_extension is error (inr refused) =
    no_layer_rejected payload.number payload.fragmented payload.bytes refused.0 is refused.1

part_next_stop : (reading : Reading) (version : IpVersion) (extensions : List ExtensionPart) (payload : IpPayload)
    (offset : ℕ) (outer : Bool) (part : Option TransportLayer) (lax : LaxTransport)
    → HasNoNextExtension reading version extensions payload offset
    → IsTransportPart headers payload.number payload.fragmented payload.bytes part → IsLimitedLaxly outer part lax
    → InIpStops reading version extensions payload offset lax
part_next_stop reading version extensions payload offset outer None lax no_extension is limited =
    subst (InIpStops reading version extensions payload offset) (sym limited)
    (none_in_ip reading version extensions payload offset no_extension is)
part_next_stop reading version extensions payload offset outer (Some layer) lax no_extension is limited =
    header_next reading version extensions payload offset outer layer.header layer.payload lax limited

transport_next : (reading : Reading) (version : IpVersion) (extensions : List ExtensionPart) (payload : IpPayload)
    (offset : ℕ) (outer : Bool) (lax : LaxTransport) → HasNoNextExtension reading version extensions payload offset
    → IsLaxTransport offset outer payload lax → InIpStops reading version extensions payload offset lax
transport_next reading version extensions payload offset outer lax no_extension (inl refused) =
    subst (InIpStops reading version extensions payload offset) (sym refused.2) (inr refused.1)
transport_next reading version extensions payload offset outer lax no_extension (inr found) =
    part_next_stop reading version extensions payload offset outer found.0 lax no_extension found.1 found.2

-- ---- extension headers

-- The bytes after an extension header are unique.
one_rest : (number : ℕ) (bytes : List ℕ) (part : ExtensionPart) (rest other : List ℕ)
    → IsExtensionPart number bytes part rest → IsExtensionPart number bytes part other → rest ≡ other
one_rest number bytes part rest other is other_is =
    let cut = part_cut number bytes part rest is in
    let other_cut = part_cut number bytes part other other_is in
    sym (front_rest bytes cut.prefix rest cut.parts)
    ∙ ap (λ (n : ℕ). drop n bytes) (cut.len_is ∙ sym other_cut.len_is)
    ∙ front_rest bytes other_cut.prefix other other_cut.parts

further_offset : (offset : ℕ) (error : ExtsSliceError)
    → with_offset_in offset error ≡ with_offset_in (offset + 0) (with_offset_in 0 error)
further_offset offset (exts_error.Len error) =
    let same : error.layer_start_offset + offset ≡ error.layer_start_offset + 0 + (offset + 0) = omega arith in
    ap (λ (n : ℕ). exts_error.Len (record error { layer_start_offset = n })) same
further_offset offset (exts_error.Content error) = refl

-- The next extension header, after the visited ones, is rejected with this error, if `offset` is the length of the
-- headers before it.
abbrev pub RejectsNext : Reading → IpVersion → List ℕ → ℕ → ℕ → List ℕ → ExtsSliceError → Type 0
RejectsNext reading version visited offset last rest =
    RefusesAs (with_offset_in offset) (RefusesChainAfter version reading visited 0 last rest [])

here_rejected : (reading : Reading) (version : IpVersion) (visited : List ℕ) (offset number : ℕ) (bytes : List ℕ)
    (error : ExtsSliceError) → RefusesChainAfter version reading visited offset number bytes [] error
    → RejectsNext reading version visited (offset + 0) number bytes error
here_rejected reading version visited offset number bytes error (inl misplaced) =
    (exts_error.Content content.HopByHopNotAtStart, inl (misplaced.0, refl), misplaced.1)
here_rejected reading version visited offset number bytes error (inr refused) =
    let why = refused.1 in
    (with_offset_in 0 why.0, inr (refused.0, (why.0, why.1, refl)), why.2 ∙ further_offset offset why.0)

-- The error of a chain is that of the extension header after those that were read.
next_rejected : (reading : Reading) (version : IpVersion) (visited : List ℕ) (offset number : ℕ) (bytes : List ℕ)
    (parts : List ExtensionPart) (last : ℕ) (rest : List ℕ) (error : ExtsSliceError)
    → RefusesChainAfter version reading visited offset number bytes parts error
    → BeginWithParts number bytes parts last rest
    → RejectsNext reading version (reverse_aux (map part_number parts) visited) (offset + parts_len parts) last rest
    error
next_rejected reading version visited offset number bytes [] last rest error refused are =
    subst (λ (n : ℕ). RejectsNext reading version visited (offset + 0) n rest error) (sym are.0)
    (subst (λ (b : List ℕ). RejectsNext reading version visited (offset + 0) number b error) (sym are.1)
    (here_rejected reading version visited offset number bytes error refused))
next_rejected reading version visited offset number bytes (part ∷ parts) last rest error refused are =
    let after = refused.1 in
    let same = one_rest number bytes part are.0 after.0 are.1 after.1 in
    let begin = subst (λ (b : List ℕ). BeginWithParts (part_next part) b parts last rest) same are.2 in
    let place : offset + part_len part + parts_len parts ≡ offset + (part_len part + parts_len parts) = omega arith in
    subst (λ (n : ℕ). RejectsNext reading version (reverse_aux (map part_number parts) (part_number part ∷ visited)) n
    last rest error) place
    (subst (λ (n : ℕ). RejectsNext reading version (reverse_aux (map part_number parts) (n ∷ visited))
    (offset + part_len part + parts_len parts) last rest error) (part_numbered number bytes part after.0 after.1)
    (next_rejected reading version (number ∷ visited) (offset + part_len part) (part_next part) after.0 parts last rest
    error after.2 begin))

-- After a complete chain no extension header is expected.
chain_ends : (reading : Reading) (version : IpVersion) (visited : List ℕ) (number : ℕ) (bytes : List ℕ)
    (parts : List ExtensionPart) (last : ℕ) (rest : List ℕ)
    → IsChainAfter version reading visited number bytes parts last rest
    → demand_of version reading (reverse_aux (map part_number parts) visited) last ≡ ends
chain_ends reading version visited number bytes [] last rest is =
    ap (demand_of version reading visited) is.1 ∙ is.0
chain_ends reading version visited number bytes (part ∷ parts) last rest is =
    subst (λ (n : ℕ). demand_of version reading (reverse_aux (map part_number parts) (n ∷ visited)) last ≡ ends)
    (part_numbered number bytes part is.1.0 is.1.1)
    (chain_ends reading version (number ∷ visited) (part_next part) is.1.0 parts last rest is.1.2)

none_expected : (reading : Reading) (version : IpVersion) (visited : List ℕ) (number : ℕ) (bytes : List ℕ)
    (error : ExtsSliceError) → demand_of version reading visited number ≡ ends
    → RefusesChainAfter version reading visited 0 number bytes [] error → ⊥
none_expected reading version visited number bytes error is (inl misplaced) =
    absurd (let both = sym is ∙ misplaced.0 in cc)
none_expected reading version visited number bytes error is (inr refused) =
    absurd (let both = sym is ∙ refused.0 in cc)

-- ---- IP packets

-- The error of an extension header counts from the start of the packet, and from the start of the header.
from_header : (version : IpVersion) (offset header_len len place : ℕ) (end : LenSource) (error : ExtsSliceError)
    → place ≡ offset + (header_len + len)
    → chain_refusal version offset (stop_after header_len end (with_offset_in len error))
    ≡ chain_refusal version place (stop_after 0 end error)
from_header version offset header_len len place end (exts_error.Len error) same =
    let places : error.layer_start_offset + len + header_len + offset ≡ error.layer_start_offset + 0 + place =
    omega (arith, same) in
    ap (λ (n : ℕ). Len (record error { layer_start_offset = n; len_source = limited_by end error.len_source })) places
from_header version offset header_len len place end (exts_error.Content content.HopByHopNotAtStart) same = refl
from_header ipv4 offset header_len len place end (exts_error.Content (content.IpAuth error)) same = refl
from_header ipv6 offset header_len len place end (exts_error.Content (content.IpAuth error)) same = refl

-- The payload after a chain of extension headers.
abbrev chain_payload : ExtensionChain → Bool → LenSource → IpPayload
chain_payload chain fragmented end =
    record { number = chain.last; fragmented = fragmented; source = end; bytes = chain.rest }

-- Reading of an IP packet, which starts at `offset`, stops exactly at the errors of the payload after its headers.
chain_next : (reading : Reading) (version : IpVersion) (offset header_len number : ℕ) (bytes : List ℕ)
    (fragmented : Bool) (end : LenSource) (incomplete : Bool) (chain : ExtensionChain) (refused : Option ExtsSliceError)
    (inside : LaxTransport) → IsLaxChainIn version reading number bytes chain refused
    → IsInsideIp version offset (header_len + parts_len chain.parts) incomplete (chain_payload chain fragmented end)
    (option_map (stop_after header_len end) refused) inside
    → InIpStops reading version chain.parts (chain_payload chain fragmented end)
    (offset + (header_len + parts_len chain.parts)) inside
chain_next reading version offset header_len number bytes fragmented end incomplete chain None inside is_chain is =
    let visited = reverse_aux (map part_number chain.parts) [] in
    let none = chain_ends reading version [] number bytes chain.parts chain.last chain.rest is_chain in
    transport_next reading version chain.parts (chain_payload chain fragmented end)
    (offset + (header_len + parts_len chain.parts)) incomplete inside
    (λ error refused. none_expected reading version visited chain.last chain.rest refused.0 none refused.1) is
chain_next reading version offset header_len number bytes fragmented end incomplete chain (Some error) inside is_chain
    is =
    let place = offset + (header_len + parts_len chain.parts) in
    let next = next_rejected reading version [] 0 number bytes chain.parts chain.last chain.rest error is_chain.0
    is_chain.1 in
    let same : place ≡ offset + (header_len + (0 + parts_len chain.parts)) = omega arith in
    subst (InIpStops reading version chain.parts (chain_payload chain fragmented end) place) (sym is)
    (inl (
      next.0,
      next.1,
      ap (λ (e : ExtsSliceError). chain_refusal version offset (stop_after header_len end e)) next.2
          ∙ from_header version offset header_len (0 + parts_len chain.parts) place end next.0 same,
    ))

-- The wire format of an extension header has its length.
part_wire_len : (part : ExtensionPart) → length (part_bytes part) ≡ part_len part
part_wire_len (hop_by_hop header) = grind (arith, common_steps)
part_wire_len (destination_options header) = grind (arith, common_steps)
part_wire_len (routing header) = grind (arith, common_steps)
part_wire_len (fragment header) = grind (arith, common_steps)
part_wire_len (authentication header) = auth_len 0 header

parts_wire_len : (parts : List ExtensionPart) → length (parts_bytes parts) ≡ parts_len parts
parts_wire_len [] = refl
parts_wire_len (part ∷ parts) =
    omega (arith, length-append (part_bytes part) (parts_bytes parts), part_wire_len part, parts_wire_len parts)

-- The errors in an IP packet are those of its payload, counted after the transport header if one is read.
second_stops : (reading : Reading) (version : IpVersion) (extensions : List ExtensionPart) (payload : IpPayload)
    (offset : ℕ) (transport : Option TransportLayer) (stop : Option (SliceError × Layer))
    → StopsBy (RefusesIpPayloadIn reading version extensions payload transport offset) stop
    → StopsBy (λ (error : SliceError). ⊥
    ⊎ RefusesIpPayloadIn reading version extensions payload transport (offset + transport_len transport) error) stop
second_stops reading version extensions payload offset None None stops =
    subst (λ (n : ℕ). (error : SliceError) → ⊥ ⊎ RefusesIpPayloadIn reading version extensions payload None n error → ⊥)
    (more_none offset) (λ error refused. elim refused [ inl never ↦ never | inr why ↦ stops error why ])
second_stops reading version extensions payload offset None (Some stop) stops =
    subst (λ (n : ℕ). ⊥ ⊎ RefusesIpPayloadIn reading version extensions payload None n stop.0) (more_none offset)
    (inr stops)
second_stops reading version extensions payload offset (Some transport) None stops =
    λ error refused. elim refused [ inl never ↦ never | inr never ↦ never ]
second_stops reading version extensions payload offset (Some transport) (Some stop) stops = inr stops

ip_next : (reading : Reading) (version : IpVersion) (offset header_len number : ℕ) (bytes : List ℕ) (fragmented : Bool)
    (end : LenSource) (incomplete : Bool) (chain : ExtensionChain) (refused : Option ExtsSliceError)
    → IsLaxChainIn version reading number bytes chain refused → (inside : LaxTransport)
    → IsInsideIp version offset (header_len + length (parts_bytes chain.parts)) incomplete
    (chain_payload chain fragmented end) (option_map (stop_after header_len end) refused) inside
    → StopsBy (λ (error : SliceError). ⊥
    ⊎ RefusesIpPayloadIn reading version chain.parts (chain_payload chain fragmented end) inside.layer
    (offset + (header_len + parts_len chain.parts) + transport_len inside.layer) error) inside.stop
ip_next reading version offset header_len number bytes fragmented end incomplete chain refused is_chain inside is =
    let payload = chain_payload chain fragmented end in
    let lens : header_len + length (parts_bytes chain.parts) ≡ header_len + parts_len chain.parts =
    omega (arith, parts_wire_len chain.parts) in
    let stop = option_map (stop_after header_len end) refused in
    second_stops reading version chain.parts payload (offset + (header_len + parts_len chain.parts)) inside.layer
    inside.stop
    (chain_next reading version offset header_len number bytes fragmented end incomplete chain refused inside is_chain
    (subst (λ (n : ℕ). IsInsideIp version offset n incomplete payload stop inside) lens is))

-- ---- network layer

-- Reading of bytes, which start at `offset`, stops exactly at the errors of the layer after these layers. `payload` is
-- the payload of the last layer before the network layer, and `count` the number of link extensions before it.
abbrev pub NetStops : Reading → ℕ → ℕ → Option EtherPayload → List ℕ → LaxNet → Type 0
NetStops reading offset count payload bytes net =
    let place = offset + net_len net.layer + transport_len net.inside.layer in
    StopsBy (λ (error : SliceError). RefusesAfterLink count (open_type net.layer net.inside.layer payload) place
    (inner_payload bytes net.layer net.inside.layer) error
    ⊎ RefusesAfterNetIn reading net.layer net.inside.layer place error) net.inside.stop

-- Reading of an IP packet, which starts at `offset`, stops exactly at the errors of the layer after those of `inside`.
abbrev pub IpStops : {Header : Type 0} → Reading → IpVersion → (IpPacket Header → NetLayer) → ℕ → ℕ
    → Option EtherPayload → List ℕ → LaxIp Header → Type 0
IpStops reading version layer_of offset count payload around lax =
    (inside : LaxTransport)
    → IsInsideIp version offset (net_payload_offset (layer_of lax.packet)) lax.incomplete lax.packet.payload lax.stop
    inside
    → NetStops reading offset count payload around (net_with (layer_of lax.packet) lax.incomplete inside)

ipv4_next : (reading : Reading) (offset count : ℕ) (payload : Option EtherPayload) (outer : Bool)
    (bytes around : List ℕ) (net : LaxNet) → IsIpv4NetIn reading offset outer bytes net
    → NetStops reading offset count payload around net
ipv4_next reading offset count payload outer bytes around net is =
    let read = is.1.0.0 in
    let after = is.1.2 in
    let stops = ip_next reading ipv4 offset (ipv4_header_len read) read.protocol.0 after.cut.payload
    (is_ipv4_fragment read) after.cut.source after.cut.incomplete after.chain after.refused after.is_chain in
    subst (NetStops reading offset count payload around) (sym is.2.2)
    (subst (IpStops reading ipv4 ipv4_layer offset count payload around) (sym after.is) stops is.2.0 is.2.1)

ipv6_next : (reading : Reading) (offset count : ℕ) (payload : Option EtherPayload) (outer : Bool)
    (bytes around : List ℕ) (net : LaxNet) → IsIpv6NetIn reading offset outer bytes net
    → NetStops reading offset count payload around net
ipv6_next reading offset count payload outer bytes around net is =
    let read = is.1.0.0 in
    let after = is.1.2 in
    let stops = ip_next reading ipv6 offset 40 read.next_header.0 after.cut.payload (chain_fragments after.chain.parts)
    (lax_ipv6_source read after.cut) after.cut.incomplete after.chain after.refused after.is_chain in
    subst (NetStops reading offset count payload around) (sym is.2.2)
    (subst (IpStops reading ipv6 ipv6_layer offset count payload around) (sym after.is) stops is.2.0 is.2.1)

-- The ether type of a payload.
abbrev pub type_of : Option EtherPayload → Option EtherType
type_of payload = option_map (λ (inside : EtherPayload). inside.ether_type) payload

-- No network layer is read, since the header at `offset` is rejected.
none_next : (reading : Reading) (offset count : ℕ) (payload : Option EtherPayload) (type : EtherType) (outer : Bool)
    (bytes : List ℕ) (net : LaxNet) (error : SliceError) → type_of payload ≡ Some type → IsNoNet outer net error
    → RefusesAfterLink count (Some type) offset bytes error → NetStops reading offset count payload bytes net
none_next reading offset count payload type outer bytes net error typed is refused =
    let place : offset ≡ offset + 0 + 0 = omega arith in
    subst (NetStops reading offset count payload bytes) (sym is)
    (inl (subst (λ (t : Option EtherType). RefusesAfterLink count t (offset + 0 + 0) bytes error) (sym typed)
    (subst (λ (n : ℕ). RefusesAfterLink count (Some type) n bytes error) place refused)))

-- No link extension is rejected after this number of them.
abbrev pub HasNoTag : ℕ → EtherType → List ℕ → Type 0
HasNoTag count type bytes =
    (place : ℕ) (error : SliceError) → count < most_link_exts → RefusesLaxExtension place type bytes error → ⊥

-- Bytes of an ether type without link extension and network layer are not rejected.
nothing_next : (count : ℕ) (type : EtherType) (bytes : List ℕ) → net_kind type ≡ None → HasNoTag count type bytes
    → (place : ℕ) (error : SliceError) → RefusesAfterLink count (Some type) place bytes error → ⊥
nothing_next count type bytes kind no_tag place error (inl tag) = no_tag place error tag.0 tag.1
nothing_next count type bytes kind no_tag place error (inr refused) =
    subst (λ (k : Option NetKind). RefusesNetHeader k place bytes error) kind refused

-- Reading does not stop at bytes in which no layer is read, if no layer is rejected there.
unread_next : (reading : Reading) (offset count : ℕ) (payload : Option EtherPayload) (type : Option EtherType)
    (outer : Bool) (bytes : List ℕ) (net : LaxNet) → type_of payload ≡ type → net ≡ no_net outer None
    → ((place : ℕ) (error : SliceError) → RefusesAfterLink count type place bytes error → ⊥)
    → NetStops reading offset count payload bytes net
unread_next reading offset count payload type outer bytes net typed is none =
    subst (NetStops reading offset count payload bytes) (sym is)
    (λ error refused. elim refused [
      | inl why ↦ none (offset + 0 + 0) error
          (subst (λ (t : Option EtherType). RefusesAfterLink count t (offset + 0 + 0) bytes error) typed why)
      | inr never ↦ never
    ])

net_next : (reading : Reading) (offset count : ℕ) (payload : Option EtherPayload) (type : EtherType) (outer : Bool)
    (kind : Option NetKind) (bytes : List ℕ) (net : LaxNet) → type_of payload ≡ Some type → net_kind type ≡ kind
    → HasNoTag count type bytes → IsLaxNetIn reading offset outer kind bytes net
    → NetStops reading offset count payload bytes net
net_next reading offset count payload type outer None bytes net typed kind no_tag is =
    unread_next reading offset count payload (Some type) outer bytes net typed is
    (nothing_next count type bytes kind no_tag)
net_next reading offset count payload type outer (Some only_ipv4) bytes net typed kind no_tag (inl refused) =
    none_next reading offset count payload type outer bytes net refused.0 typed refused.2
    (inr (subst (λ (k : Option NetKind). RefusesNetHeader k offset bytes refused.0) (sym kind) refused.1))
net_next reading offset count payload type outer (Some only_ipv4) bytes net typed kind no_tag (inr is) =
    ipv4_next reading offset count payload outer bytes bytes net is
net_next reading offset count payload type outer (Some only_ipv6) bytes net typed kind no_tag (inl refused) =
    none_next reading offset count payload type outer bytes net refused.0 typed refused.2
    (inr (subst (λ (k : Option NetKind). RefusesNetHeader k offset bytes refused.0) (sym kind) refused.1))
net_next reading offset count payload type outer (Some only_ipv6) bytes net typed kind no_tag (inr is) =
    ipv6_next reading offset count payload outer bytes bytes net is
net_next reading offset count payload type outer (Some only_arp) bytes net typed kind no_tag (inl refused) =
    none_next reading offset count payload type outer bytes net refused.0 typed refused.2
    (inr (subst (λ (k : Option NetKind). RefusesNetHeader k offset bytes refused.0) (sym kind) refused.1))
net_next reading offset count payload type outer (Some only_arp) bytes net typed kind no_tag (inr is) =
    subst (NetStops reading offset count payload bytes) (sym is.2)
    (λ error refused. elim refused [ inl never ↦ never | inr never ↦ never ])
net_next reading offset count payload type outer (Some any_ip) bytes net typed kind no_tag (inl is) =
    ipv4_next reading offset count payload outer bytes bytes net is
net_next reading offset count payload type outer (Some any_ip) bytes net typed kind no_tag (inr is) =
    ipv6_next reading offset count payload outer bytes bytes net is

-- ---- link extensions

-- The ether type of the payload after link extensions.
abbrev pub type_after : Option EtherType → List LinkExtension → Option EtherType
type_after type [] = type
type_after type (extension ∷ others) = type_after (extension_type extension) others

-- Reading of bytes, which start at `offset`, with link extensions stops exactly at the errors of the layer after the
-- layers that were read.
abbrev pub InsideStops : Reading → ℕ → ℕ → Option EtherPayload → List ℕ → List Tagged → LaxNet → Type 0
InsideStops reading offset count payload bytes extensions net =
    NetStops reading (offset + tags_len (map extension_in extensions)) (count + length (map extension_in extensions))
    payload (payload_after_exts bytes (map extension_in extensions)) net

no_tags : (reading : Reading) (offset count : ℕ) (payload : Option EtherPayload) (bytes : List ℕ) (net : LaxNet)
    → NetStops reading offset count payload bytes net → InsideStops reading offset count payload bytes [] net
no_tags reading offset count payload bytes net stops =
    subst (λ (n : ℕ). NetStops reading n (count + 0) payload bytes net) (more_none offset)
    (subst (λ (n : ℕ). NetStops reading offset n payload bytes net) (more_none count) stops)

extensions_next : (reading : Reading) (exts_left offset count : ℕ) (outer : Bool) (type : Option EtherType)
    (bytes : List ℕ) (extensions : List Tagged) (net : LaxNet) (payload : Option EtherPayload)
    → count + exts_left ≡ most_link_exts → type_of payload ≡ type_after type (map extension_in extensions)
    → IsLaxInsideIn reading exts_left offset outer type bytes extensions net
    → InsideStops reading offset count payload bytes extensions net
extensions_next reading exts_left offset count outer None bytes extensions net payload left typed is =
    subst (λ (e : List Tagged). type_of payload ≡ type_after None (map extension_in e)
    → InsideStops reading offset count payload bytes e net) (sym is.0)
    (λ none. no_tags reading offset count payload bytes net
    (unread_next reading offset count payload None outer bytes net none is.1 (λ place error never. never))) typed
extensions_next reading zero offset count outer (Some type) bytes [] net payload left typed is =
    no_tags reading offset count payload bytes net
    (net_next reading offset count payload type outer (net_kind type) bytes net typed refl
    (λ place error below refused. omega (arith, below, left)) is)
extensions_next reading zero offset count outer (Some type) bytes (extension ∷ others) net payload left typed is =
    absurd is
extensions_next reading (suc exts_left) offset count outer (Some type) bytes [] net payload left typed (inl is) =
    no_tags reading offset count payload bytes net
    (net_next reading offset count payload type outer (net_kind type) bytes net typed refl
    (λ place error below refused. elim refused [ inl tag ↦ is.0 (inl tag.0) | inr tag ↦ is.0 (inr tag.0) ]) is.1)
extensions_next reading (suc exts_left) offset count outer (Some type) bytes [] net payload left typed (inr refused) =
    let below : count < most_link_exts = omega (arith, left) in
    no_tags reading offset count payload bytes net
    (none_next reading offset count payload type outer bytes net refused.0 typed refused.2 (inl (below, refused.1)))
extensions_next reading (suc exts_left) offset count outer (Some type) bytes (extension ∷ others) net payload left typed
    is =
    let len = link_ext_header_len (extension_header extension.0) in
    let tags = map extension_in others in
    let place : offset + len + tags_len tags ≡ offset + (len + tags_len tags) = omega arith in
    let number : suc count + length tags ≡ count + suc (length tags) = omega arith in
    let others_left : suc count + exts_left ≡ most_link_exts = omega (arith, left) in
    let after = payload_after_exts (extension_payload extension.0) tags in
    subst (λ (n : ℕ). NetStops reading n (count + suc (length tags)) payload after net) place
    (subst (λ (n : ℕ). NetStops reading (offset + len + tags_len tags) n payload after net) number
    (extensions_next reading exts_left (offset + len) (suc count) extension.1 (extension_type extension.0)
    (extension_payload extension.0) others net payload others_left typed is.1))

-- ---- complete packets

extension_typed : (extension : LinkExtension) → type_of (extension_ether_payload extension) ≡ extension_type extension
extension_typed (vlan tag payload) = refl
extension_typed (macsec tag (unmodified type end bytes)) = refl
extension_typed (macsec tag (modified bytes)) = refl

payload_typed : (payload : Option EtherPayload) (extensions : List LinkExtension)
    → type_of (ether_payload_after payload extensions) ≡ type_after (type_of payload) extensions
payload_typed payload [] = refl
payload_typed payload (extension ∷ others) =
    payload_typed (extension_ether_payload extension) others
    ∙ ap (λ (t : Option EtherType). type_after t others) (extension_typed extension)

source_typed : (end : LenSource) (payload : Option EtherPayload)
    → type_of (option_map (λ (inside : EtherPayload). record inside { len_source = end }) payload) ≡ type_of payload
source_typed end None = refl
source_typed end (Some payload) = refl

-- The ether type of the payload after the link layer and its extensions.
link_typed : (link : Option LinkLayer) (extensions : List LinkExtension)
    → type_of (ether_payload_of_parts link extensions)
    ≡ type_after (type_of (option_and_then link_ether_payload link)) extensions
link_typed link [] = refl
link_typed link (extension ∷ others) =
    source_typed _ (ether_payload_after (extension_ether_payload extension) others)
    ∙ payload_typed (option_and_then link_ether_payload link) (extension ∷ others)

protocol_typed : (bytes : List ℕ) (type : Option EtherType)
    → type_of (option_map (unlimited_ether_payload bytes) type) ≡ type
protocol_typed bytes None = refl
protocol_typed bytes (Some type) = refl

-- Reading stops exactly at the errors of the layer after the layers that were read.
abbrev pub LaxStopsBy : Reading → LaxLayers → Type 0
LaxStopsBy reading read = StopsBy (RefusesNextLayerIn reading (layers_in read)) read.net.inside.stop

linked_next : (reading : Reading) (read : LaxLayers) (link : Option LinkLayer) → read.link ≡ link
    → InsideStops reading (link_len link) 0 (ether_payload_of_parts link (map extension_in read.link_exts))
    (link_payload link) read.link_exts read.net → LaxStopsBy reading read
linked_next reading read link same stops =
    let tags = map extension_in read.link_exts in
    let number : 0 + length tags ≡ length tags = omega arith in
    subst (λ (n : ℕ). NetStops reading (link_len read.link + tags_len tags) n (ether_payload_of_parts read.link tags)
    (payload_after_exts (link_payload read.link) tags) read.net) number
    (subst (λ (l : Option LinkLayer). InsideStops reading (link_len l) 0 (ether_payload_of_parts l tags)
    (link_payload l) read.link_exts read.net) (sym same) stops)

-- The layers in bytes of an ether type after a link layer.
after_link : (reading : Reading) (read : LaxLayers) (link : LinkLayer) (type : Option EtherType) → read.link ≡ Some link
    → type_of (link_ether_payload link) ≡ type
    → IsLaxInsideIn reading most_link_exts (link_len (Some link)) false type (link_payload (Some link)) read.link_exts
    read.net → LaxStopsBy reading read
after_link reading read link type same typed is =
    let tags = map extension_in read.link_exts in
    linked_next reading read (Some link) same
    (extensions_next reading most_link_exts (link_len (Some link)) 0 false type (link_payload (Some link))
    read.link_exts read.net (ether_payload_of_parts (Some link) tags) refl
    (link_typed (Some link) tags ∙ ap (λ (t : Option EtherType). type_after t tags) typed) is)

lone_next : (reading : Reading) (bytes : List ℕ) (net : LaxNet) → IsLaxNetIn reading 0 false (Some any_ip) bytes net
    → NetStops reading 0 0 None [] net
lone_next reading bytes net (inl is) = ipv4_next reading 0 0 None false bytes [] net is
lone_next reading bytes net (inr is) = ipv6_next reading 0 0 None false bytes [] net is

lax_next : (reading : Reading) (entry : Entry) (bytes : List ℕ) (read : LaxLayers) → IsLaxIn reading entry bytes read
    → LaxStopsBy reading read
lax_next reading ethernet bytes read is =
    let frame = is.0 in
    after_link reading read (ethernet2 frame.header frame.payload) (Some frame.header.ether_type) is.2 refl is.3
lax_next reading linux_sll bytes read is =
    let frame = is.0 in
    let type = protocol_ether_type frame.header.protocol_type in
    after_link reading read (sll frame.header frame.payload) type is.2 (protocol_typed frame.payload type) is.3
lax_next reading (ether_type type) bytes read is =
    after_link reading read (ether_payload type source.Slice bytes) (Some type) is.0 refl is.1
lax_next reading ip bytes read is =
    linked_next reading read None is.0
    (subst (λ (e : List Tagged). InsideStops reading 0 0 (ether_payload_of_parts None (map extension_in e)) [] e
    read.net) (sym is.1) (no_tags reading 0 0 None [] read.net (lone_next reading bytes read.net is.2)))

pub stop_is_next : (reading : Reading) (entry : Entry) (bytes : List ℕ) (read : LaxLayers)
    → IsLaxIn reading entry bytes read → (stop : SliceError × Layer) → read.net.inside.stop ≡ Some stop
    → RefusesNextLayerIn reading (layers_in read) stop.0
stop_is_next reading entry bytes read is stop same =
    subst (StopsBy (RefusesNextLayerIn reading (layers_in read))) same (lax_next reading entry bytes read is)

pub no_stop_no_next : (reading : Reading) (entry : Entry) (bytes : List ℕ) (read : LaxLayers)
    → IsLaxIn reading entry bytes read → read.net.inside.stop ≡ None → (error : SliceError)
    → RefusesNextLayerIn reading (layers_in read) error → ⊥
no_stop_no_next reading entry bytes read is same =
    subst (StopsBy (RefusesNextLayerIn reading (layers_in read))) same (lax_next reading entry bytes read is)
