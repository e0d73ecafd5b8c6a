-- Bytes have one network layer of a protocol with one transport layer, or are rejected with one error.
use Rattle.std.proofs.Common.{◌≡◌, ℕ, ◌+◌, List, [], Option, Some, None, refl, ap, subst, ◌∙◌}
use Rattle.ep_base.specs.Bytes.{AreBytes}
use Rattle.ep_base.specs.IpPayload.{IpPayload}
use Rattle.ep_base.specs.Readings.{Reading}
use Rattle.ep_base.specs.Tables.{IsDecided}
use Rattle.ep_base.proofs.BytesLemmas.{AreBytes-payload}
use Rattle.ep_base.proofs.DecidedLemmas.{same_image, decided_by, decided_as, refused_as, decided_then}
use Rattle.ep_link.specs.Arp.{Arp}
use Rattle.ep_transport.specs.TransportParts.{TransportLayer}
use Rattle.ep_packet.specs.declared.err.slice_error.SliceError.{SliceError}
use Rattle.ep_packet.specs.Layers.{NetLayer, arp, ipv4_layer, ipv6_layer, ip_layer, net_payload}
use Rattle.ep_packet.specs.Frame.{NetKind, only_ipv4, only_ipv6, only_arp, any_ip, IsNetLayer, IsTransportAfterNet, IsNetPart}
use Rattle.ep_packet.specs.FrameRefusals.{RefusesNetLayer, RefusesTransportAfterNet, RefusesNetPart, net_payload_offset, transport_refusal, ipv4_refusal, ipv6_refusal, ip_refusal, len_refusal}
use Rattle.ep_packet.specs.FrameBytes.{after_net}
use Rattle.ep_packet.proofs.DeciderLemmas.{Deciders}
use Rattle.ep_packet.proofs.NetBytesLemmas.{after_payload, layer_bytes}

-- ---- network layer alone

-- Bytes are one network layer of a protocol, or are rejected.
pub layer_decided : Deciders → (reading : Reading) (kind : NetKind) (offset : ℕ) (bytes : List ℕ) → AreBytes bytes
    → IsDecided (IsNetLayer reading kind bytes) (RefusesNetLayer reading kind offset bytes)
layer_decided deciders reading only_ipv4 offset bytes fits =
    decided_as ipv4_layer (λ error. error) (refused_as (ipv4_refusal offset) (deciders.ipv4 reading bytes fits))
    (record { present = λ packet is. (packet, is, refl); back = λ layer is. is })
    (same_image (λ error refused. refused) (λ error refused. refused))
layer_decided deciders reading only_ipv6 offset bytes fits =
    decided_as ipv6_layer (λ error. error) (refused_as (ipv6_refusal offset) (deciders.ipv6 reading bytes fits))
    (record { present = λ packet is. (packet, is, refl); back = λ layer is. is })
    (same_image (λ error refused. refused) (λ error refused. refused))
layer_decided deciders reading only_arp offset bytes fits =
    decided_as (λ (part : Arp × List ℕ). arp part.0) (λ (error : SliceError). error)
    (refused_as (len_refusal offset) (deciders.arp bytes fits))
    (record { present = λ part is. (part, is, refl); back = λ layer is. is })
    (same_image (λ error refused. refused) (λ error refused. refused))
layer_decided deciders reading any_ip offset bytes fits =
    decided_as ip_layer (λ error. error) (refused_as (ip_refusal offset) (deciders.ip reading bytes fits))
    (record { present = λ part is. (part, is, refl); back = λ layer is. is })
    (same_image (λ error refused. refused) (λ error refused. refused))

-- ---- transport layer in it

-- A payload of bytes has one transport layer, or is rejected.
after_decided : Deciders → (reading : Reading) (offset : ℕ) (payload : Option IpPayload)
    → ((inside : IpPayload) → payload ≡ Some inside → AreBytes inside.bytes)
    → IsDecided (IsTransportAfterNet reading payload) (RefusesTransportAfterNet reading offset payload)
after_decided deciders reading offset None fits =
    decided_by None refl (λ transport none. none) (λ error refused. refused)
after_decided deciders reading offset (Some payload) fits =
    refused_as (transport_refusal offset payload.source)
    (deciders.transport reading payload.number payload.fragmented payload.bytes (fits payload refl))

-- The payload of a network layer consists of bytes.
payload_fits : Deciders → (reading : Reading) (kind : NetKind) (bytes : List ℕ) → AreBytes bytes → (layer : NetLayer)
    → IsNetLayer reading kind bytes layer → (inside : IpPayload) → net_payload layer ≡ Some inside
    → AreBytes inside.bytes
payload_fits deciders reading kind bytes fits layer is inside same =
    let are = layer_bytes deciders reading kind bytes layer is in
    subst AreBytes (after_payload layer inside same)
    (AreBytes-payload bytes are.prefix (after_net [] (Some layer)) are.left fits are.parts)

-- ---- both layers

-- The network layer and the transport layer in it.
abbrev pub NetPart : Type 0
NetPart = Option NetLayer × Option TransportLayer

-- The bytes have these two layers.
abbrev pub IsNetPartOf : Reading → Option NetKind → List ℕ → NetPart → Type 0
IsNetPartOf reading kind bytes part = IsNetPart reading kind bytes part.0 part.1

-- A network layer that was read, and its transport layer.
abbrev LayerPart : Type 0
LayerPart = NetLayer × Option TransportLayer

abbrev net_part : LayerPart → NetPart
net_part part = (Some part.0, part.1)

-- Without a network layer protocol there is no layer.
no_net_only : (reading : Reading) (bytes : List ℕ) (part : NetPart) → IsNetPartOf reading None bytes part
    → part ≡ (None, None)
no_net_only reading bytes (net, transport) part =
    ap (λ (x : Option NetLayer). (x, transport)) part.0 ∙ ap (λ (x : Option TransportLayer). (None, x)) part.1

-- Bytes have one network layer of a protocol with one transport layer, or are rejected.
pub net_decided : Deciders → (reading : Reading) (offset : ℕ) (kind : Option NetKind) (bytes : List ℕ) → AreBytes bytes
    → IsDecided (IsNetPartOf reading kind bytes) (RefusesNetPart reading offset kind bytes)
net_decided deciders reading offset None bytes fits =
    decided_by (None, None) (refl, refl) (no_net_only reading bytes) (λ error refused. refused)
net_decided deciders reading offset (Some kind) bytes fits =
    decided_as net_part (λ error. error)
    (decided_then (layer_decided deciders reading kind offset bytes fits)
    (λ layer is. after_decided deciders reading (offset + net_payload_offset layer) (net_payload layer)
    (payload_fits deciders reading kind bytes fits layer is)))
    (record {
      present = λ part is. (part.0, is.0, refl, is.1);
      back = λ part is. ((is.0, part.1), (is.1, is.3), ap (λ (x : Option NetLayer). (x, part.1)) is.2);
    })
    (same_image (λ error refused. refused) (λ error refused. refused))
