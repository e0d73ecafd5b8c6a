-- Verdicts about the checksums of a packet that may be truncated.
use Rattle.std.specs.Prelude.{Option}
use Rattle.std.specs.Option.{option_and_then, option_map}
use Rattle.ep_packet.specs.Verdicts.{header_verdict, message_of, transport_verdict}
use Rattle.ep_packet.specs.declared.checksum_verdict.ChecksumVerdict.{ChecksumVerdict}
use Rattle.ep_packet.specs.declared.checksum_verdict.ChecksumVerdicts.{ChecksumVerdicts}
use Rattle.ep_lax.specs.declared.lax_net_slice.LaxNetSlice.{LaxNetSlice}
use Rattle.ep_lax.specs.declared.lax_sliced_packet.LaxSlicedPacket.{LaxSlicedPacket}
use Rattle.ep_lax.specs.LaxPackets.{lax_layers_of, lax_net_bytes}
use Rattle.ep_lax.specs.LaxViews.{lax_net_layer_of}

-- The verdict about the IPv4 header of a network layer slice, if that is IPv4.
abbrev pub lax_header_verdict : LaxNetSlice → Option ChecksumVerdict
lax_header_verdict slice = header_verdict (lax_net_layer_of slice) (lax_net_bytes slice)

-- The verdicts about the checksums of a packet. That of the transport layer is unknown if bytes of its payload are
-- missing, by the length field of UDP or of a layer around it.
abbrev pub lax_checksums_of : LaxSlicedPacket → ChecksumVerdicts
lax_checksums_of packet =
    let net = (lax_layers_of packet).net in record {
      ipv4_header = option_and_then lax_header_verdict packet.net;
      transport = transport_verdict net.layer net.inside.incomplete (option_map message_of packet.transport);
    }
