-- The bytes of a network layer are its headers, its payload, and trailing bytes.
use Rattle.std.proofs.Common.{◌≡◌, ℕ, List, [], ◌++◌, length, Some, refl, sym, ap, subst, ◌∙◌}
use Rattle.std.specs.Prelude.{IfSome}
use Rattle.std.proofs.lemmas.List.{append-nil}
use Rattle.ep_base.specs.IpPayload.{IpPayload}
use Rattle.ep_base.specs.Readings.{Reading}
use Rattle.ep_link.specs.Arp.{arp_bytes}
use Rattle.ep_ip.specs.declared.ipv4_header.Ipv4Header.{Ipv4Header}
use Rattle.ep_ip.specs.declared.ipv6_header.Ipv6Header.{Ipv6Header}
use Rattle.ep_ip.specs.IpBytes.{AreIpv4Bytes, AreIpv6Bytes}
use Rattle.ep_ip.specs.IpPackets.{IpPacket, IpPart, ipv4_part, ipv6_part, IsIp}
use Rattle.ep_packet.specs.Layers.{NetLayer, ipv4, ipv6, arp, ipv4_layer, ipv6_layer, ip_layer, net_payload}
use Rattle.ep_packet.specs.Frame.{NetKind, only_ipv4, only_ipv6, only_arp, any_ip, IsNetLayer}
use Rattle.ep_packet.specs.FrameBytes.{EncodesNet, after_net}
use Rattle.ep_packet.specs.FrameRefusals.{net_payload_offset}
use Rattle.ep_packet.proofs.DeciderLemmas.{Deciders}

-- The bytes of a network layer: its headers, the payload of an IP packet, and trailing bytes.
pub record LayerBytes (bytes : List ℕ) (layer : NetLayer) : Type 0 where
  pub prefix : List ℕ
  pub left : List ℕ
  pub encodes : EncodesNet (Some layer) prefix
  pub parts : bytes ≡ (prefix ++ after_net [] (Some layer)) ++ left
  pub len_is : IfSome (net_payload layer) (λ payload. length prefix ≡ net_payload_offset layer)

-- The bytes of an IPv4 packet are those of its network layer.
ipv4_layer_bytes : (bytes : List ℕ) (packet : IpPacket Ipv4Header) → AreIpv4Bytes bytes packet
    → LayerBytes bytes (ipv4_layer packet)
ipv4_layer_bytes bytes packet are = record {
  prefix = are.headers;
  left = packet.left;
  encodes = are.encodes;
  parts = are.parts;
  len_is = are.len_is;
}

-- The bytes of an IPv6 packet are those of its network layer.
ipv6_layer_bytes : (bytes : List ℕ) (packet : IpPacket Ipv6Header) → AreIpv6Bytes bytes packet
    → LayerBytes bytes (ipv6_layer packet)
ipv6_layer_bytes bytes packet are = record {
  prefix = are.headers;
  left = packet.left;
  encodes = are.encodes;
  parts = are.parts;
  len_is = are.len_is;
}

-- The bytes of an IP packet of either version are those of its network layer.
ip_layer_bytes : Deciders → (reading : Reading) (bytes : List ℕ) (part : IpPart) → IsIp reading bytes part
    → LayerBytes bytes (ip_layer part)
ip_layer_bytes deciders reading bytes (ipv4_part packet) is =
    ipv4_layer_bytes bytes packet (deciders.ipv4_bytes reading bytes packet is)
ip_layer_bytes deciders reading bytes (ipv6_part packet) is =
    ipv6_layer_bytes bytes packet (deciders.ipv6_bytes reading bytes packet is)

-- The bytes of any network layer are its headers, its payload and trailing bytes.
pub layer_bytes : Deciders → (reading : Reading) (kind : NetKind) (bytes : List ℕ) (layer : NetLayer)
    → IsNetLayer reading kind bytes layer → LayerBytes bytes layer
layer_bytes deciders reading only_ipv4 bytes layer (packet, is, same) =
    subst (LayerBytes bytes) (sym same) (ipv4_layer_bytes bytes packet (deciders.ipv4_bytes reading bytes packet is))
layer_bytes deciders reading only_ipv6 bytes layer (packet, is, same) =
    subst (LayerBytes bytes) (sym same) (ipv6_layer_bytes bytes packet (deciders.ipv6_bytes reading bytes packet is))
layer_bytes deciders reading only_arp bytes layer (part, is, same) =
    subst (LayerBytes bytes) (sym same) (record {
      prefix = arp_bytes part.0;
      left = part.1;
      encodes = (is.fits, refl);
      parts = is.parts ∙ ap (λ (x : List ℕ). x ++ part.1) (sym (append-nil (arp_bytes part.0)));
      len_is = tt;
    })
layer_bytes deciders reading any_ip bytes layer (part, is, same) =
    subst (LayerBytes bytes) (sym same) (ip_layer_bytes deciders reading bytes part is)

-- The payload of an IP packet is the bytes after its headers.
pub after_payload : (layer : NetLayer) (payload : IpPayload) → net_payload layer ≡ Some payload
    → after_net [] (Some layer) ≡ payload.bytes
after_payload (ipv4 header extensions inside) payload same = cc same
after_payload (ipv6 header extensions inside) payload same = cc same
after_payload (arp packet) payload same = absurd (cc same)
