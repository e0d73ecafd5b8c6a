-- The packet that a subject shows, as plain data.
use Rattle.std.specs.Prelude.{Bool, true, false, if◌then◌else◌, Option, Some, None, option_map, option_and_then}
use Rattle.std.specs.Option.{option_copied, option_map_or}
use Rattle.ep_base.specs.IpPayload.{IpPayload, lax_ip_payload_of}
use Rattle.ep_base.specs.declared.lax_ip_payload_slice.LaxIpPayloadSlice.{LaxIpPayloadSlice}
use Rattle.ep_lax.specs.LaxPackets.{lax_layers_of}
use Rattle.ep_packet.specs.Layers.{NetLayer, net_payload}
use Rattle.ep_packet.specs.PayloadStarts.{begins_payload}
use Rattle.packet_filter.specs.declared.subject.Subject.{Subject}
use Rattle.packet_filter.specs.Packets.{Packet, Transport, transport_of}

-- The payload of IP that a subject shows: the reassembled one, or that of the packet.
abbrev pub shown_payload : Option LaxIpPayloadSlice → Option NetLayer → Option IpPayload
shown_payload None layer = option_and_then net_payload layer
shown_payload (Some payload) layer = Some (lax_ip_payload_of payload)

-- True if this payload begins with a transport header.
abbrev pub shown_begins : Option LaxIpPayloadSlice → Option NetLayer → Bool
shown_begins None layer = option_map_or begins_payload layer false
shown_begins (Some payload) layer = true

-- The transport header of this payload, with the bytes after it.
abbrev pub shown_transport : Option LaxIpPayloadSlice → Option NetLayer → Option Transport
shown_transport reassembled layer =
    if shown_begins reassembled layer then option_map transport_of (shown_payload reassembled layer) else None

-- The packet that a subject shows.
abbrev pub shown_packet : Subject → Packet
shown_packet subject = record {
  layers = lax_layers_of subject.packet.now;
  bytes = subject.bytes.now;
  len = subject.wire_len;
  transport = shown_transport (option_copied subject.reassembled) (lax_layers_of subject.packet.now).net.layer;
}
