-- The owned headers of a packet read laxly, and the payload after them.
use Rattle.std.specs.Prelude.{Bool, List, [], map, Option, None}
use Rattle.std.specs.Option.{option_and_then, option_map}
use Rattle.ep_base.specs.declared.err.layer.Layer.{Layer}
use Rattle.ep_link.specs.LinkExtensions.{LinkExtension, extension_header}
use Rattle.ep_link.specs.LinkSlices.{link_header_of}
use Rattle.ep_link.specs.declared.link.link_header.LinkHeader.{LinkHeader}
use Rattle.ep_link.specs.declared.link_ext.link_ext_header.LinkExtHeader.{LinkExtHeader}
use Rattle.ep_transport.specs.declared.transport_header.TransportHeader.{TransportHeader}
use Rattle.ep_packet.specs.PacketHeaders.{NetHeader, net_header_in, net_header_of, transport_header_in}
use Rattle.ep_packet.specs.declared.err.slice_error.SliceError.{SliceError}
use Rattle.ep_lax.specs.declared.lax_packet_headers.LaxPacketHeaders.{LaxPacketHeaders}
use Rattle.ep_lax.specs.LaxLayers.{LaxLayers}
use Rattle.ep_lax.specs.LaxPayloadParts.{LaxPayloadPart, empty, lax_innermost_part, lax_payload_part_of, open_part}

-- The headers of a packet as plain data, from the outside in, the payload of the last layer, and the error and layer at
-- which reading stopped, if any.
pub record LaxHeaders : Type 0 where
  pub link : Option LinkHeader
  pub link_exts : List LinkExtHeader
  pub net : Option NetHeader
  pub transport : Option TransportHeader
  pub payload : LaxPayloadPart
  pub stop : Option (SliceError × Layer)

-- The headers of a packet without layers.
abbrev pub no_lax_headers : LaxHeaders
no_lax_headers =
    record { link = None; link_exts = []; net = None; transport = None; payload = empty; stop = None }

-- The headers of a `LaxPacketHeaders` value.
abbrev pub lax_headers_of : LaxPacketHeaders → LaxHeaders
lax_headers_of packet = record {
  link = packet.link;
  link_exts = packet.link_exts.items;
  net = option_map net_header_of packet.net;
  transport = packet.transport;
  payload = lax_payload_part_of packet.payload;
  stop = packet.stop_err;
}

-- The header of a link extension, whether or not bytes of its payload are missing.
abbrev pub tag_header_in : LinkExtension × Bool → LinkExtHeader
tag_header_in tagged = extension_header tagged.0

-- The headers of the layers of a packet. The payload of a link layer given by its ether type has no link header.
abbrev pub lax_headers_in : LaxLayers → LaxHeaders
lax_headers_in layers = record {
  link = option_and_then link_header_of layers.link;
  link_exts = map tag_header_in layers.link_exts;
  net = option_map net_header_in layers.net.layer;
  transport = option_map transport_header_in layers.net.inside.layer;
  payload = lax_innermost_part (open_part layers.link layers.link_exts) layers.net;
  stop = layers.net.inside.stop;
}
