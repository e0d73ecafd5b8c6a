use Rattle.std.proofs.Common.{◌≡◌, ℕ, ◌+◌, ◌^◌, ◌<◌, List, ◌++◌, length, Option, Some, None, refl, sym, ap, subst}
use Rattle.std.proofs.Common.{◌∙◌, arith}
use Rattle.std.specs.Option.{option_map}
use Rattle.std.proofs.lemmas.Result.{IfOk-weaker, IfErr-weaker}
use Rattle.ep_base.specs.IpPayload.{IpPayload, ip_payload_of}
use Rattle.ep_base.specs.Readings.{slices}
use Rattle.ep_ext.specs.Ipv4Chains.{ipv4_slice_bytes as extension_bytes}
use Rattle.ep_ext.specs.Ipv6ExtensionSlices.{ipv6_slice_bytes as extensions_bytes}
use Rattle.ep_ip.specs.declared.ipv4_slice.Ipv4Slice.{Ipv4Slice}
use Rattle.ep_ip.specs.declared.ipv6_slice.Ipv6Slice.{Ipv6Slice}
use Rattle.ep_ip.specs.Ipv4Slices.{ipv4_header_slice_bytes, ipv4_slice_bytes, ipv4_slice_content, ipv4_slice_payload}
use Rattle.ep_ip.specs.Ipv6Slices.{ipv6_header_slice_bytes, ipv6_slice_bytes, ipv6_slice_content, ipv6_slice_payload}
use Rattle.ep_transport.specs.TransportParts.{TransportLayer, transport_layer_of}
use Rattle.ep_packet.specs.declared.net_slice.NetSlice.{NetSlice}
use Rattle.ep_packet.specs.declared.net_slice.NetSlice.TheVariants as slice
use Rattle.ep_packet.specs.Layers.{net_layer_of, net_payload}
use Rattle.ep_packet.specs.Frame.{IsTransportAfterNet, IsTransportIn}
use Rattle.ep_packet.specs.FrameRefusals.{RefusesTransportAfterNet, RefusesTransportIn, net_payload_offset}
use Rattle.ep_packet.specs.ShownBytes.{ShowsTransport, net_slice_bytes, net_slice_payload}
use Rattle.ep_packet.specs.Walk.{HasHeaders}
use Rattle.ep_packet.proofs.NetWalkLemmas.{headers_len, ipv4_payload_refused}
use Rattle.ep_packet.proofs.sliced_packet_walk.fill_transport.Goals as goal

-- The headers of a packet have this length, and end within it.
record HeadersEnd (offset : ℕ) (net : NetSlice) (len : ℕ) : Type 0 where
  same : len ≡ net_payload_offset (net_layer_of net)
  within : offset + len < 2 ^ 64

ipv4_end : (offset header_len extensions_len : ℕ) (net : NetSlice) (packet : Ipv4Slice) (header extensions : List ℕ)
    → net ≡ slice.Ipv4 packet → offset + length (net_slice_bytes net) < 2 ^ 64 → HasHeaders net
    → header ++ ipv4_slice_content packet ≡ ipv4_slice_bytes packet
    → extensions ++ (ipv4_slice_payload packet).bytes ≡ ipv4_slice_content packet
    → header_len ≡ length header → extensions_len ≡ length extensions
    → HeadersEnd offset (slice.Ipv4 packet) (header_len + extensions_len)
ipv4_end offset header_len extensions_len net packet header extensions is place has prefix after header_is
    extensions_are =
    let here : HasHeaders (slice.Ipv4 packet) = subst HasHeaders is has in
    let present : offset + length (ipv4_slice_bytes packet) < 2 ^ 64 =
    subst (λ (n : NetSlice). offset + length (net_slice_bytes n) < 2 ^ 64) is place in
    let len = headers_len (ipv4_slice_bytes packet) header (ipv4_slice_content packet) extensions
    (ipv4_slice_payload packet).bytes (net_payload_offset (net_layer_of (slice.Ipv4 packet))) prefix after here in
    record {
      same = omega (arith, len, header_is, extensions_are);
      within = omega (arith, len, header_is, extensions_are, here, present);
    }

ipv6_end : (offset : ℕ) (net : NetSlice) (packet : Ipv6Slice) (extensions shown : List ℕ) → net ≡ slice.Ipv6 packet
    → offset + length (net_slice_bytes net) < 2 ^ 64 → HasHeaders net
    → extensions ++ (ipv6_slice_payload packet).bytes ≡ ipv6_slice_content packet → shown ≡ extensions
    → HeadersEnd offset (slice.Ipv6 packet) (40 + length shown)
ipv6_end offset net packet extensions shown is place has after same =
    let here : HasHeaders (slice.Ipv6 packet) = subst HasHeaders is has in
    let present : offset + length (ipv6_slice_bytes packet) < 2 ^ 64 =
    subst (λ (n : NetSlice). offset + length (net_slice_bytes n) < 2 ^ 64) is place in
    let len = headers_len (ipv6_slice_bytes packet) (ipv6_header_slice_bytes packet.header) (ipv6_slice_content packet)
    extensions (ipv6_slice_payload packet).bytes (net_payload_offset (net_layer_of (slice.Ipv6 packet))) refl after here
    in
    record {
      same = omega (arith, len, packet.header.bytes.whole, ap length same);
      within = omega (arith, len, packet.header.bytes.whole, ap length same, here, present);
    }

-- The payload of a packet is the payload of its network layer.
payload_in : (net packet : NetSlice) (payload known : IpPayload) → net ≡ packet → payload ≡ known
    → Some known ≡ net_payload (net_layer_of packet) → Some payload ≡ net_payload (net_layer_of net)
payload_in net packet payload known is same present =
    ap Some same ∙ present ∙ sym (ap (λ (n : NetSlice). net_payload (net_layer_of n)) is)

-- The transport layer of the payload is the transport layer of the network layer.
is_after : (net : NetSlice) (payload : IpPayload) (transport : Option TransportLayer)
    → Some payload ≡ net_payload (net_layer_of net) → IsTransportIn slices payload transport
    → IsTransportAfterNet slices (net_payload (net_layer_of net)) transport
is_after net payload transport same inside =
    subst (λ (p : Option IpPayload). IsTransportAfterNet slices p transport) same inside

pub overflow_add-headers_len : goal.overflow_add-headers_len
overflow_add-headers_len c =
    let ends = ipv4_end c.args.offset c.header_len.result c.ipv4_extensions_len-extensions_len.result c.args.net.now
    c.in-Ipv4.packet (ipv4_header_slice_bytes c.header.result) (extension_bytes c.extensions.result) c.in-Ipv4.is
    c.requires.place c.requires.headers c.header.ensures.bytes c.extensions.ensures.bytes c.header_len.ensures.bytes
    c.ipv4_extensions_len-extensions_len.ensures in
    omega (arith, ends.within)

pub overflow_add-offset : goal.overflow_add-offset
overflow_add-offset c =
    let ends = ipv4_end c.args.offset c.header_len.result c.ipv4_extensions_len-extensions_len.result c.args.net.now
    c.in-Ipv4.packet (ipv4_header_slice_bytes c.header.result) (extension_bytes c.extensions.result) c.in-Ipv4.is
    c.requires.place c.requires.headers c.header.ensures.bytes c.extensions.ensures.bytes c.header_len.ensures.bytes
    c.ipv4_extensions_len-extensions_len.ensures in
    omega (arith, ends.within)

pub fill_transport_in-requires : goal.fill_transport_in-requires
fill_transport_in-requires c =
    let ends = ipv4_end c.args.offset c.header_len.result c.ipv4_extensions_len-extensions_len.result c.args.net.now
    c.in-Ipv4.packet (ipv4_header_slice_bytes c.header.result) (extension_bytes c.extensions.result) c.in-Ipv4.is
    c.requires.place c.requires.headers c.header.ensures.bytes c.extensions.ensures.bytes c.header_len.ensures.bytes
    c.ipv4_extensions_len-extensions_len.ensures in
    omega (arith, ends.within)

pub overflow_add-headers_len-in-Ipv6 : goal.overflow_add-headers_len-in-Ipv6
overflow_add-headers_len-in-Ipv6 c =
    let ends = ipv6_end c.args.offset c.args.net.now c.in-Ipv6.packet (extensions_bytes c.extensions-in-Ipv6.result)
    c.slice.result.now c.in-Ipv6.is c.requires.place c.requires.headers c.extensions-in-Ipv6.ensures.bytes
    c.slice.ensures in
    omega (arith, ends.within)

pub overflow_add-offset-in-Ipv6 : goal.overflow_add-offset-in-Ipv6
overflow_add-offset-in-Ipv6 c =
    let ends = ipv6_end c.args.offset c.args.net.now c.in-Ipv6.packet (extensions_bytes c.extensions-in-Ipv6.result)
    c.slice.result.now c.in-Ipv6.is c.requires.place c.requires.headers c.extensions-in-Ipv6.ensures.bytes
    c.slice.ensures in
    omega (arith, ends.within)

pub fill_transport_in-requires-in-Ipv6 : goal.fill_transport_in-requires-in-Ipv6
fill_transport_in-requires-in-Ipv6 c =
    let ends = ipv6_end c.args.offset c.args.net.now c.in-Ipv6.packet (extensions_bytes c.extensions-in-Ipv6.result)
    c.slice.result.now c.in-Ipv6.is c.requires.place c.requires.headers c.extensions-in-Ipv6.ensures.bytes
    c.slice.ensures in
    omega (arith, ends.within)

pub returns-in-Ipv4-clause-ok : goal.returns-in-Ipv4-clause-ok
returns-in-Ipv4-clause-ok c =
    let payload = ip_payload_of c.payload.result.now in
    let same = payload_in c.args.net.now (slice.Ipv4 c.in-Ipv4.packet) payload (ipv4_slice_payload c.in-Ipv4.packet)
    c.in-Ipv4.is c.payload.ensures refl in
    IfOk-weaker c.fill_transport_in.result _ _
    (λ done inside. is_after c.args.net.now payload
    (option_map transport_layer_of c.fill_transport_in.new.transport) same inside)
    c.fill_transport_in.ensures.ok

pub returns-in-Ipv4-clause-bytes : goal.returns-in-Ipv4-clause-bytes
returns-in-Ipv4-clause-bytes c =
    let shown = ap (λ (p : IpPayload). p.bytes) c.payload.ensures ∙ sym (ap net_slice_payload c.in-Ipv4.is) in
    IfOk-weaker c.fill_transport_in.result _ _
    (λ done shows. subst (λ (b : List ℕ). ShowsTransport b c.fill_transport_in.new.transport) shown shows)
    c.fill_transport_in.ensures.bytes

pub returns-in-Ipv4-clause-err : goal.returns-in-Ipv4-clause-err
returns-in-Ipv4-clause-err c =
    let ends = ipv4_end c.args.offset c.header_len.result c.ipv4_extensions_len-extensions_len.result c.args.net.now
    c.in-Ipv4.packet (ipv4_header_slice_bytes c.header.result) (extension_bytes c.extensions.result) c.in-Ipv4.is
    c.requires.place c.requires.headers c.header.ensures.bytes c.extensions.ensures.bytes c.header_len.ensures.bytes
    c.ipv4_extensions_len-extensions_len.ensures in
    IfErr-weaker c.fill_transport_in.result _ _
    (λ error refused. ipv4_payload_refused c.args.offset
    (c.header_len.result + c.ipv4_extensions_len-extensions_len.result) c.args.net.now c.in-Ipv4.packet
    (ip_payload_of c.payload.result.now) error c.in-Ipv4.is c.payload.ensures ends.same refused)
    c.fill_transport_in.ensures.err

pub returns-in-Ipv6-clause-ok : goal.returns-in-Ipv6-clause-ok
returns-in-Ipv6-clause-ok c =
    let payload = ip_payload_of c.payload-in-Ipv6.result.now in
    let same = payload_in c.args.net.now (slice.Ipv6 c.in-Ipv6.packet) payload (ipv6_slice_payload c.in-Ipv6.packet)
    c.in-Ipv6.is c.payload-in-Ipv6.ensures refl in
    IfOk-weaker c.fill_transport_in-in-Ipv6.result _ _
    (λ done inside. is_after c.args.net.now payload
    (option_map transport_layer_of c.fill_transport_in-in-Ipv6.new.transport) same inside)
    c.fill_transport_in-in-Ipv6.ensures.ok

pub returns-in-Ipv6-clause-bytes : goal.returns-in-Ipv6-clause-bytes
returns-in-Ipv6-clause-bytes c =
    let shown = ap (λ (p : IpPayload). p.bytes) c.payload-in-Ipv6.ensures ∙ sym (ap net_slice_payload c.in-Ipv6.is) in
    IfOk-weaker c.fill_transport_in-in-Ipv6.result _ _
    (λ done shows. subst (λ (b : List ℕ). ShowsTransport b c.fill_transport_in-in-Ipv6.new.transport) shown shows)
    c.fill_transport_in-in-Ipv6.ensures.bytes

pub returns-in-Ipv6-clause-err : goal.returns-in-Ipv6-clause-err
returns-in-Ipv6-clause-err c =
    let net = c.args.net.now in
    let payload = ip_payload_of c.payload-in-Ipv6.result.now in
    let same = payload_in net (slice.Ipv6 c.in-Ipv6.packet) payload (ipv6_slice_payload c.in-Ipv6.packet) c.in-Ipv6.is
    c.payload-in-Ipv6.ensures refl in
    let ends = ipv6_end c.args.offset c.args.net.now c.in-Ipv6.packet (extensions_bytes c.extensions-in-Ipv6.result)
    c.slice.result.now c.in-Ipv6.is c.requires.place c.requires.headers c.extensions-in-Ipv6.ensures.bytes
    c.slice.ensures in
    let after = ends.same ∙ sym (ap (λ (n : NetSlice). net_payload_offset (net_layer_of n)) c.in-Ipv6.is) in
    IfErr-weaker c.fill_transport_in-in-Ipv6.result _ _
    (λ error refused. subst (λ (p : Option IpPayload).
    RefusesTransportAfterNet slices (c.args.offset + net_payload_offset (net_layer_of net)) p error)
    same (subst (λ (n : ℕ). RefusesTransportIn slices (c.args.offset + n) payload error) after refused))
    c.fill_transport_in-in-Ipv6.ensures.err

pub returns-in-Arp-clause-ok : goal.returns-in-Arp-clause-ok
returns-in-Arp-clause-ok c =
    subst (λ (n : NetSlice). IsTransportAfterNet slices (net_payload (net_layer_of n)) None) (sym c.in-Arp.is) refl
