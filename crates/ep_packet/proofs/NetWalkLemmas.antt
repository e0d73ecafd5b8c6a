-- Slicing the network layer of a frame, from the contracts of its slices.
use Rattle.std.proofs.Common.{◌≡◌, ℕ, ◌+◌, List, ◌++◌, length, Option, Some, refl, sym, ap, subst, inr, arith, length-append}
use Rattle.std.specs.Option.{option_map}
use Rattle.ep_base.specs.IpPayload.{IpPayload}
use Rattle.ep_base.specs.Readings.{slices}
use Rattle.ep_ip.specs.declared.ip_slice.IpSlice.{IpSlice}
use Rattle.ep_ip.specs.declared.ip_slice.IpSlice.TheVariants as ip_slice
use Rattle.ep_ip.specs.declared.ipv4_slice.Ipv4Slice.{Ipv4Slice}
use Rattle.ep_ip.specs.declared.ipv6_slice.Ipv6Slice.{Ipv6Slice}
use Rattle.ep_ip.specs.IpPackets.{IsIpv4, IsIpv6, IsIp}
use Rattle.ep_ip.specs.IpSlices.{ip_slice_bytes, ip_slice_packet}
use Rattle.ep_ip.specs.Ipv4Slices.{ipv4_slice_bytes, ipv4_slice_packet, ipv4_slice_payload}
use Rattle.ep_ip.specs.Ipv6Slices.{ipv6_slice_bytes, ipv6_slice_packet}
use Rattle.ep_ip.proofs.IpBytesLemmas.{ipv4_packet_bytes, ipv6_packet_bytes}
use Rattle.ep_transport.specs.declared.transport_slice.TransportSlice.{TransportSlice}
use Rattle.ep_transport.specs.TransportParts.{transport_layer_of}
use Rattle.ep_packet.specs.declared.err.slice_error.SliceError.{SliceError}
use Rattle.ep_packet.specs.declared.net_slice.NetSlice.{NetSlice}
use Rattle.ep_packet.specs.declared.net_slice.NetSlice.TheVariants as slice
use Rattle.ep_packet.specs.Layers.{net_layer_of, net_payload}
use Rattle.ep_packet.specs.Frame.{NetKind, only_ipv4, only_ipv6, any_ip, IsNetLayer, IsTransportAfterNet}
use Rattle.ep_packet.specs.NetSlices.{net_slice_of}
use Rattle.ep_packet.specs.FrameRefusals.{RefusesNetPart, RefusesTransportAfterNet, RefusesTransportIn, net_payload_offset}
use Rattle.ep_packet.specs.ShownBytes.{ShowsTransport, net_slice_bytes, net_slice_payload}
use Rattle.ep_packet.specs.Walk.{HasHeaders, HoldsNet}
use Rattle.ep_packet.proofs.WalkLemmas.{along}

-- A slice is the network layer of this protocol at the start of the bytes, and shows a prefix of them.
pub record IsShown (kind : NetKind) (bytes : List ℕ) (net : NetSlice) : Type 0 where
  pub left : List ℕ
  pub begins : bytes ≡ net_slice_bytes net ++ left
  pub is : IsNetLayer slices kind bytes (net_layer_of net)
  pub headers : HasHeaders net

-- A slice shows as many bytes as its headers and its payload have.
shown_len : (bytes shown left headers payload : List ℕ) (len : ℕ) → bytes ≡ shown ++ left
    → bytes ≡ (headers ++ payload) ++ left → length headers ≡ len → length shown ≡ len + length payload
shown_len bytes shown left headers payload len begins parts len_is = omega (
  arith,
  ap length begins,
  ap length parts,
  length-append shown left,
  length-append (headers ++ payload) left,
  length-append headers payload,
  len_is,
)

-- An IPv4 slice is the network layer at the start of the bytes, and shows a prefix of them.
pub ipv4_shown : (bytes left : List ℕ) (packet : Ipv4Slice) → bytes ≡ ipv4_slice_bytes packet ++ left
    → IsIpv4 slices bytes (ipv4_slice_packet packet left) → IsShown only_ipv4 bytes (slice.Ipv4 packet)
ipv4_shown bytes left packet begins is =
    let are = ipv4_packet_bytes slices bytes (ipv4_slice_packet packet left) is in
    record {
      left = left;
      begins = begins;
      is = (ipv4_slice_packet packet left, is, refl);
      headers = shown_len bytes (ipv4_slice_bytes packet) left are.headers (ipv4_slice_packet packet left).payload.bytes
          (net_payload_offset (net_layer_of (slice.Ipv4 packet))) begins are.parts are.len_is;
    }

-- An IPv6 slice is the network layer at the start of the bytes, and shows a prefix of them.
pub ipv6_shown : (bytes left : List ℕ) (packet : Ipv6Slice) → bytes ≡ ipv6_slice_bytes packet ++ left
    → IsIpv6 slices bytes (ipv6_slice_packet packet left) → IsShown only_ipv6 bytes (slice.Ipv6 packet)
ipv6_shown bytes left packet begins is =
    let are = ipv6_packet_bytes slices bytes (ipv6_slice_packet packet left) is in
    record {
      left = left;
      begins = begins;
      is = (ipv6_slice_packet packet left, is, refl);
      headers = shown_len bytes (ipv6_slice_bytes packet) left are.headers (ipv6_slice_packet packet left).payload.bytes
          (net_payload_offset (net_layer_of (slice.Ipv6 packet))) begins are.parts are.len_is;
    }

-- An IP slice of either version is the network layer at the start of the bytes, and shows a prefix of them.
pub ip_shown : (bytes left : List ℕ) (packet : IpSlice) → bytes ≡ ip_slice_bytes packet ++ left
    → IsIp slices bytes (ip_slice_packet packet left) → IsShown any_ip bytes (net_slice_of packet)
ip_shown bytes left (ip_slice.Ipv4 packet) begins is =
    let shown = ipv4_shown bytes left packet begins is in
    record {
      left = left;
      begins = begins;
      is = (ip_slice_packet (ip_slice.Ipv4 packet) left, is, refl);
      headers = shown.headers;
    }
ip_shown bytes left (ip_slice.Ipv6 packet) begins is =
    let shown = ipv6_shown bytes left packet begins is in
    record {
      left = left;
      begins = begins;
      is = (ip_slice_packet (ip_slice.Ipv6 packet) left, is, refl);
      headers = shown.headers;
    }

-- A network layer slice and the transport slice in its payload are the layers of the bytes, and show them.
pub net_holds : (kind : NetKind) (bytes : List ℕ) (net : NetSlice) (transport : Option TransportSlice)
    → IsShown kind bytes net
    → IsTransportAfterNet slices (net_payload (net_layer_of net)) (option_map transport_layer_of transport)
    → ShowsTransport (net_slice_payload net) transport → HoldsNet (Some kind) bytes (Some net) transport
net_holds kind bytes net transport shown inside shows = record {
  part = (net_layer_of net, shown.is, refl, inside);
  shows = ((shown.left, shown.begins), shows);
}

-- An error of the transport layer in a network layer is an error of the bytes.
pub net_refused : (kind : NetKind) (offset : ℕ) (bytes : List ℕ) (net : NetSlice) (error : SliceError)
    → IsShown kind bytes net
    → RefusesTransportAfterNet slices (offset + net_payload_offset (net_layer_of net)) (net_payload (net_layer_of net)) error
    → RefusesNetPart slices offset (Some kind) bytes error
net_refused kind offset bytes net error shown refused = inr (net_layer_of net, shown.is, refused)

-- The bytes before a payload are those of the header and of the extension headers.
pub headers_len : (complete header content extensions payload : List ℕ) (len : ℕ) → header ++ content ≡ complete
    → extensions ++ payload ≡ content → length complete ≡ len + length payload → length header + length extensions ≡ len
headers_len complete header content extensions payload len first second total = omega (
  arith,
  ap length first,
  ap length second,
  length-append header content,
  length-append extensions payload,
  total,
)

-- An error of the payload of an IPv4 packet is an error after the headers of the packet.
pub ipv4_payload_refused : (offset len : ℕ) (net : NetSlice) (packet : Ipv4Slice) (payload : IpPayload)
    (error : SliceError) → net ≡ slice.Ipv4 packet → payload ≡ ipv4_slice_payload packet
    → len ≡ net_payload_offset (net_layer_of (slice.Ipv4 packet)) → RefusesTransportIn slices (offset + len) payload error
    → RefusesTransportAfterNet slices (offset + net_payload_offset (net_layer_of net)) (net_payload (net_layer_of net)) error
ipv4_payload_refused offset len net packet payload error is same lens refused =
    subst (λ (n : NetSlice). RefusesTransportAfterNet slices (offset + net_payload_offset (net_layer_of n))
    (net_payload (net_layer_of n)) error)
    (sym is)
    (along (λ (l : ℕ) (p : IpPayload). RefusesTransportIn slices (offset + l) p error)
    len (net_payload_offset (net_layer_of (slice.Ipv4 packet))) payload (ipv4_slice_payload packet) lens same refused)
