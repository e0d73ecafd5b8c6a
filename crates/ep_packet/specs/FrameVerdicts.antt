-- Verdicts about the checksums of a frame, from its layers and its bytes.
use Rattle.std.specs.Prelude.{ℕ, ◌+◌, Bool, List, length, take, Option, Some, None}
use Rattle.std.specs.Option.{option_and_then, option_map}
use Rattle.ep_link.specs.LinkSlices.{LinkLayer, link_layer_payload}
use Rattle.ep_transport.specs.declared.transport_header.TransportHeader.{TransportHeader}
use Rattle.ep_transport.specs.TransportHeaders.{transport_header_len}
use Rattle.ep_transport.specs.TransportParts.{TransportLayer}
use Rattle.ep_packet.specs.FrameBytes.{after_net, payload_after_exts}
use Rattle.ep_packet.specs.Layers.{Layers, NetLayer}
use Rattle.ep_packet.specs.Verdicts.{header_verdict, transport_verdict}
use Rattle.ep_packet.specs.declared.checksum_verdict.ChecksumVerdicts.{ChecksumVerdicts}

-- The header of a transport layer in an IP payload, and its bytes with the payload.
abbrev pub message_in : List ℕ → TransportLayer → TransportHeader × List ℕ
message_in payload layer = (layer.header, take (transport_header_len layer.header + length layer.payload) payload)

-- The verdicts about a network layer in these bytes, and a transport layer in its payload.
abbrev pub net_checksums : List ℕ → Option NetLayer → Bool → Option TransportLayer → ChecksumVerdicts
net_checksums bytes net incomplete transport = record {
  ipv4_header = option_and_then (λ (layer : NetLayer). header_verdict layer bytes) net;
  transport = transport_verdict net incomplete (option_map (message_in (after_net bytes net)) transport);
}

-- Payload of a link layer, or the given bytes if there is none.
abbrev pub after_link : List ℕ → Option LinkLayer → List ℕ
after_link bytes None = bytes
after_link bytes (Some layer) = link_layer_payload layer

-- The verdicts about the checksums of a frame with these layers. `incomplete` states whether bytes of the transport
-- layer are missing.
abbrev pub frame_checksums : List ℕ → Layers → Bool → ChecksumVerdicts
frame_checksums bytes layers incomplete = net_checksums
    (payload_after_exts (after_link bytes layers.link) layers.link_exts)
    layers.net
    incomplete
    layers.transport
