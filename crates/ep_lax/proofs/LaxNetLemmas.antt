-- The network layer of lax slicing, from the contracts of its slices.
use Rattle.std.proofs.Common.{◌≡◌, ℕ, ◌+◌, ◌≤◌, Bool, List, ◌++◌, length, Option, Some, None, refl, sym, ap, subst, ◌∙◌, arith, length-append}
use Rattle.std.proofs.Math.Path.{transport}
use Rattle.std.specs.Option.{option_map}
use Rattle.ep_base.specs.IpPayload.{IpPayload}
use Rattle.ep_base.specs.declared.len_source.LenSource.{LenSource}
use Rattle.ep_base.specs.declared.err.ip_auth.HeaderSliceError.{HeaderSliceError as AuthSliceError}
use Rattle.ep_base.specs.declared.err.ipv6_exts.HeaderSliceError.{HeaderSliceError}
use Rattle.ep_base.specs.declared.err.ipv6_exts.HeaderSliceError.TheVariants as header_error
use Rattle.ep_base.specs.declared.err.layer.Layer.{Layer}
use Rattle.ep_base.specs.Readings.{Reading, slices}
use Rattle.ep_ext.specs.ExtensionParts.{auth_refusal}
use Rattle.ep_ext.specs.Chains.{IpVersion, ipv4, ipv6, ExtensionChain, offset_of}
use Rattle.ep_ext.specs.ChainPrefixes.{IsLaxChainIn}
use Rattle.ep_ip.specs.declared.ipv4_header.Ipv4Header.{Ipv4Header}
use Rattle.ep_ip.specs.declared.ipv6_header.Ipv6Header.{Ipv6Header}
use Rattle.ep_ip.specs.Ipv4.{ipv4_header_len}
use Rattle.ep_ip.specs.Ipv6.{ipv6_bytes}
use Rattle.ep_ip.proofs.IpBytesLemmas.{encoded_len, ipv6_len}
use Rattle.ep_transport.specs.declared.transport_slice.TransportSlice.{TransportSlice}
use Rattle.ep_packet.specs.declared.err.slice_error.SliceError.{SliceError}
use Rattle.ep_packet.specs.FrameRefusals.{net_payload_offset}
use Rattle.ep_packet.specs.Layers.{ipv4_layer, ipv6_layer}
use Rattle.ep_packet.specs.ShownBytes.{ShowsTransport}
use Rattle.ep_base.specs.declared.lax_ip_payload_slice.LaxIpPayloadSlice.{LaxIpPayloadSlice}
use Rattle.ep_lax.specs.declared.lax_ipv4_slice.LaxIpv4Slice.{LaxIpv4Slice}
use Rattle.ep_lax.specs.declared.lax_ipv6_slice.LaxIpv6Slice.{LaxIpv6Slice}
use Rattle.ep_lax.specs.declared.lax_net_slice.LaxNetSlice.TheVariants as net
use Rattle.ep_lax.specs.Lax.{IsInsideIp, IsIpv4Net, IsIpv6Net, chain_refusal}
use Rattle.ep_ip.specs.LaxIp.{LaxIp, IsLaxIpv4, IsLaxIpv4In, IsLaxIpv6, IsLaxIpv6In, stop_after}
use Rattle.ep_lax.specs.LaxLayers.{LaxTransport}
use Rattle.ep_lax.specs.LaxPackets.{ShowsLaxNet, inside_of, lax_net_of}
use Rattle.ep_base.specs.IpPayload.{lax_ip_payload_of}
use Rattle.ep_lax.specs.LaxSlices.{lax_ipv4_of, lax_ipv4_slice_bytes, lax_ipv4_slice_incomplete, lax_ipv4_slice_payload, lax_ipv6_of, lax_ipv6_slice_bytes, lax_ipv6_slice_incomplete, lax_ipv6_slice_payload}
use Rattle.ep_lax.specs.LaxWalk.{IsInIpPayload}
use Rattle.ep_ip.proofs.LaxIpLemmas.{lax_chain_len, stop_within}

-- ---- lengths of headers

-- The length of the bytes is the sum of the headers, payload and trailing bytes of an IPv4 packet.
lax_ipv4_lens : (reading : Reading) (outer : Bool) (bytes : List ℕ) (lax : LaxIp Ipv4Header) → IsLaxIpv4In reading outer bytes lax
    → length bytes
    ≡ net_payload_offset (ipv4_layer lax.packet) + length lax.packet.payload.bytes + length lax.packet.left
lax_ipv4_lens reading outer bytes lax is =
    let header = is.0.0 in
    let rest = is.0.1 in
    let holds = is.1 in
    let after = is.2 in
    let cut = after.cut in
    subst (λ (l : LaxIp Ipv4Header). length bytes
    ≡ net_payload_offset (ipv4_layer l.packet) + length l.packet.payload.bytes + length l.packet.left) (sym after.is)
    (omega (
      arith,
      ap length holds.parts,
      length-append holds.encoded rest,
      encoded_len holds.encoded header holds.encodes,
      ap length after.cuts.parts,
      length-append cut.payload cut.left,
      lax_chain_len ipv4 reading header.protocol.0 cut.payload after.chain after.refused after.is_chain,
    ))

-- The length of the bytes is the sum of the headers, payload and trailing bytes of an IPv6 packet.
lax_ipv6_lens : (reading : Reading) (outer : Bool) (bytes : List ℕ) (lax : LaxIp Ipv6Header) → IsLaxIpv6In reading outer bytes lax
    → length bytes
    ≡ net_payload_offset (ipv6_layer lax.packet) + length lax.packet.payload.bytes + length lax.packet.left
lax_ipv6_lens reading outer bytes lax is =
    let header = is.0.0 in
    let rest = is.0.1 in
    let holds = is.1 in
    let after = is.2 in
    let cut = after.cut in
    subst (λ (l : LaxIp Ipv6Header). length bytes
    ≡ net_payload_offset (ipv6_layer l.packet) + length l.packet.payload.bytes + length l.packet.left) (sym after.is)
    (omega (
      arith,
      ap length holds.parts,
      length-append (ipv6_bytes header) rest,
      ipv6_len header holds.fits,
      ap length after.cuts.parts,
      length-append cut.payload cut.left,
      lax_chain_len ipv6 reading header.next_header.0 cut.payload after.chain after.refused after.is_chain,
    ))

-- ---- start of a rejected extension header

stop_start : (n : ℕ) (end : LenSource) (error : HeaderSliceError)
    → offset_of (stop_after n end error) ≤ offset_of error + n
stop_start n end (header_error.Len error) = omega arith
stop_start n end (header_error.Content error) = omega arith

-- A rejected extension header after a header of this length starts within the bytes of the packet.
after_within : (n : ℕ) (end : LenSource) (version : IpVersion) (reading : Reading) (number : ℕ) (content : List ℕ)
    (chain : ExtensionChain) (refused : Option HeaderSliceError) → IsLaxChainIn version reading number content chain refused
    → (error : HeaderSliceError) → option_map (stop_after n end) refused ≡ Some error
    → offset_of error ≤ n + length content
after_within n end version reading number content chain None prefix error same = absurd (cc same)
after_within n end version reading number content chain (Some refused) prefix error same =
    let is : stop_after n end refused ≡ error = cc in
    omega (
      arith,
      ap offset_of is,
      stop_start n end refused,
      stop_within version reading number content chain (Some refused) prefix refused refl,
    )

pub ipv4_stop_within : (reading : Reading) (outer : Bool) (bytes : List ℕ) (lax : LaxIp Ipv4Header) → IsLaxIpv4In reading outer bytes lax
    → (error : HeaderSliceError) → lax.stop ≡ Some error → offset_of error ≤ length bytes
ipv4_stop_within reading outer bytes lax is error same =
    let header = is.0.0 in
    let holds = is.1 in
    let after = is.2 in
    let cut = after.cut in
    let error_with_layer = sym (ap (λ (l : LaxIp Ipv4Header). l.stop) after.is) ∙ same in
    omega (
      arith,
      after_within (ipv4_header_len header) cut.source ipv4 reading header.protocol.0 cut.payload after.chain after.refused
          after.is_chain error error_with_layer,
      ap length holds.parts,
      length-append holds.encoded is.0.1,
      encoded_len holds.encoded header holds.encodes,
      ap length after.cuts.parts,
      length-append cut.payload cut.left,
    )

pub ipv6_stop_within : (reading : Reading) (outer : Bool) (bytes : List ℕ) (lax : LaxIp Ipv6Header) → IsLaxIpv6In reading outer bytes lax
    → (error : HeaderSliceError) → lax.stop ≡ Some error → offset_of error ≤ length bytes
ipv6_stop_within reading outer bytes lax is error same =
    let header = is.0.0 in
    let holds = is.1 in
    let after = is.2 in
    let cut = after.cut in
    let error_with_layer = sym (ap (λ (l : LaxIp Ipv6Header). l.stop) after.is) ∙ same in
    omega (
      arith,
      after_within 40 lax.packet.payload.source ipv6 reading header.next_header.0 cut.payload after.chain after.refused
          after.is_chain error
          (ap (λ (e : LenSource). option_map (stop_after 40 e) after.refused)
          (ap (λ (l : LaxIp Ipv6Header). l.packet.payload.source) after.is) ∙ error_with_layer),
      ap length holds.parts,
      length-append (ipv6_bytes header) is.0.1,
      ipv6_len header holds.fits,
      ap length after.cuts.parts,
      length-append cut.payload cut.left,
    )

-- ---- layers in a packet

pub after_is_inside : (version : IpVersion) (offset len : ℕ) (incomplete : Bool) (payload : IpPayload)
    (stop : Option HeaderSliceError) (inside : LaxTransport)
    → IsInIpPayload (offset + len) incomplete payload (option_map (chain_refusal version offset) stop) inside
    → IsInsideIp version offset len incomplete payload stop inside
after_is_inside version offset len incomplete payload None inside is = is
after_is_inside version offset len incomplete payload (Some error) inside is = is

-- The layers in an IP packet, stated with the contracts of the calls.
inside_ip : (version : IpVersion) (offset len at : ℕ) (payload : IpPayload) (incomplete : Bool)
    (shown : LaxIpPayloadSlice) (stop : Option HeaderSliceError) (found : Option SliceError)
    (transport_slice : Option TransportSlice) (error_with_layer : Option (SliceError × Layer))
    → at ≡ offset + len → lax_ip_payload_of shown ≡ payload → shown.incomplete ≡ incomplete
    → found ≡ option_map (chain_refusal version offset) stop
    → IsInIpPayload at shown.incomplete (lax_ip_payload_of shown) found (inside_of shown.incomplete transport_slice error_with_layer)
    → IsInsideIp version offset len incomplete payload stop (inside_of incomplete transport_slice error_with_layer)
inside_ip version offset len at payload incomplete shown stop found transport_slice error_with_layer place same missing found_is is =
    after_is_inside version offset len incomplete payload stop (inside_of incomplete transport_slice error_with_layer)
    (transport (λ i. IsInIpPayload (place i) (missing i) (same i) (found_is i)
    (inside_of (missing i) transport_slice error_with_layer)) is)

-- An IPv4 packet and the layers in it, filled in.
pub ipv4_filled : (offset len at : ℕ) (packet : LaxIpv4Slice) (refused : Option AuthSliceError)
    (shown : LaxIpPayloadSlice) (found : Option SliceError) (transport_slice : Option TransportSlice)
    (error_with_layer : Option (SliceError × Layer))
    → len + length (lax_ipv4_slice_payload packet).bytes ≡ length (lax_ipv4_slice_bytes packet) → at ≡ offset + len
    → lax_ip_payload_of shown ≡ lax_ipv4_slice_payload packet → shown.incomplete ≡ lax_ipv4_slice_incomplete packet
    → found ≡ option_map (chain_refusal ipv4 offset) (option_map auth_refusal refused)
    → IsInIpPayload at shown.incomplete (lax_ip_payload_of shown) found (inside_of shown.incomplete transport_slice error_with_layer)
    → ShowsTransport shown.payload.now transport_slice
    → (outer : Bool) (bytes left : List ℕ) → bytes ≡ lax_ipv4_slice_bytes packet ++ left
    → IsLaxIpv4 outer bytes (lax_ipv4_of packet left refused)
    → IsIpv4Net offset outer bytes (lax_net_of outer (Some (net.Ipv4 packet)) transport_slice error_with_layer)
    × ShowsLaxNet bytes (Some (net.Ipv4 packet)) transport_slice
ipv4_filled offset len at packet refused shown found transport_slice error_with_layer lens place same missing found_is inside shows
    outer bytes left parts is =
    let lax = lax_ipv4_of packet left refused in
    let headers = net_payload_offset (ipv4_layer lax.packet) in
    let len_is : len ≡ headers = omega (
      arith,
      lens,
      lax_ipv4_lens slices outer bytes lax is,
      ap length parts,
      length-append (lax_ipv4_slice_bytes packet) left,
    ) in
    let present : at ≡ offset + headers = omega (arith, place, len_is) in (
      (
        lax,
        is,
        (
          inside_of lax.incomplete transport_slice error_with_layer,
          inside_ip ipv4 offset headers at lax.packet.payload lax.incomplete shown lax.stop found transport_slice error_with_layer
              present same missing found_is inside,
          refl,
        ),
      ),
      (
        (left, parts),
        subst (λ (p : IpPayload). ShowsTransport p.bytes transport_slice) same shows,
      ),
    )

-- An IPv6 packet and the layers in it, filled in.
pub ipv6_filled : (offset len at : ℕ) (packet : LaxIpv6Slice) (shown : LaxIpPayloadSlice) (found : Option SliceError)
    (transport_slice : Option TransportSlice) (error_with_layer : Option (SliceError × Layer))
    → len + length (lax_ipv6_slice_payload packet).bytes ≡ length (lax_ipv6_slice_bytes packet) → at ≡ offset + len
    → lax_ip_payload_of shown ≡ lax_ipv6_slice_payload packet → shown.incomplete ≡ lax_ipv6_slice_incomplete packet
    → IsInIpPayload at shown.incomplete (lax_ip_payload_of shown) found (inside_of shown.incomplete transport_slice error_with_layer)
    → ShowsTransport shown.payload.now transport_slice
    → (outer : Bool) (bytes left : List ℕ) (stop : Option HeaderSliceError)
    → found ≡ option_map (chain_refusal ipv6 offset) stop → bytes ≡ lax_ipv6_slice_bytes packet ++ left
    → IsLaxIpv6 outer bytes (lax_ipv6_of packet left stop)
    → IsIpv6Net offset outer bytes (lax_net_of outer (Some (net.Ipv6 packet)) transport_slice error_with_layer)
    × ShowsLaxNet bytes (Some (net.Ipv6 packet)) transport_slice
ipv6_filled offset len at packet shown found transport_slice error_with_layer lens place same missing inside shows outer bytes left
    stop found_is parts is =
    let lax = lax_ipv6_of packet left stop in
    let headers = net_payload_offset (ipv6_layer lax.packet) in
    let len_is : len ≡ headers = omega (
      arith,
      lens,
      lax_ipv6_lens slices outer bytes lax is,
      ap length parts,
      length-append (lax_ipv6_slice_bytes packet) left,
    ) in
    let present : at ≡ offset + headers = omega (arith, place, len_is) in (
      (
        lax,
        is,
        (
          inside_of lax.incomplete transport_slice error_with_layer,
          inside_ip ipv6 offset headers at lax.packet.payload lax.incomplete shown lax.stop found transport_slice error_with_layer
              present same missing found_is inside,
          refl,
        ),
      ),
      (
        (left, parts),
        subst (λ (p : IpPayload). ShowsTransport p.bytes transport_slice) same shows,
      ),
    )
