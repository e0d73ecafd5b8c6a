-- Results of decoding a frame step by step, for the contracts of private functions.
use Rattle.std.specs.Prelude.{◌≡◌, ℕ, ◌≤◌, if◌then◌else◌, List, [], ◌++◌, length, map, Option, Some, None}
use Rattle.std.specs.Option.{option_map}
use Rattle.ep_base.specs.IpPayload.{IpPayload}
use Rattle.ep_base.specs.Readings.{headers}
use Rattle.ep_base.specs.declared.len_source.LenSource.{LenSource}
use Rattle.ep_base.specs.declared.len_source.LenSource.TheVariants as source
use Rattle.ep_link.specs.EtherPayloads.{EtherPayload}
use Rattle.ep_link.specs.LinkExtensions.{LinkExtension, extension_header}
use Rattle.ep_link.specs.declared.link.link_header.LinkHeader.{LinkHeader}
use Rattle.ep_ip.specs.IpPackets.{IpPart}
use Rattle.ep_transport.specs.TransportParts.{TransportLayer}
use Rattle.ep_packet.specs.Frame.{NetKind, IsFrameIn, IsInside, IsNetPart, IsTransportIn}
use Rattle.ep_packet.specs.FrameBytes.{payload_after_exts}
use Rattle.ep_packet.specs.IpHeaders.{ip_headers_of, ip_part_payload}
use Rattle.ep_packet.specs.Layers.{Layers, NetLayer, ip_layer}
use Rattle.ep_packet.specs.NetHeaders.{net_headers_of}
use Rattle.ep_packet.specs.PacketHeaders.{Headers, headers_in, net_header_in, transport_header_in}
use Rattle.ep_packet.specs.PayloadParts.{PayloadPart, ip, innermost_part, open_part}
use Rattle.ep_packet.specs.Payloads.{ether_payload_after, have_short_len}
use Rattle.ep_packet.specs.declared.entry.Entry.{Entry}
use Rattle.ep_packet.specs.declared.net_headers.NetHeaders.{NetHeaders}
use Rattle.ep_packet.specs.FrameRefusals.{net_payload_offset}

-- Source of the end of the payload after link extensions, in a payload whose end `outer` set.
abbrev pub source_after : LenSource → List LinkExtension → LenSource
source_after outer extensions = if have_short_len extensions then source.MacsecShortLength else outer

-- A payload with the given source of its end.
abbrev pub ending_by : LenSource → EtherPayload → EtherPayload
ending_by outer payload = record payload { len_source = outer }

-- The payload after the link extensions that a payload begins with.
abbrev pub open_after : EtherPayload → List LinkExtension → PayloadPart
open_after payload extensions = open_part
    (option_map (ending_by (source_after payload.len_source extensions))
    (ether_payload_after (Some payload) extensions))
    (payload_after_exts payload.bytes extensions)

-- The headers with the network and transport layer found after the link extensions.
abbrev pub with_net : Headers → PayloadPart → Option NetLayer → Option TransportLayer → Headers
with_net old unread net transport = record old {
  net = option_map net_header_in net;
  transport = option_map transport_header_in transport;
  payload = innermost_part unread net transport;
}

-- The headers with this link header, and no link extension yet.
abbrev pub begun : Headers → Option LinkHeader → Headers
begun old link = record old { link = link; link_exts = [] }

-- The IP headers at the start of the bytes were decoded into `net`, and the payload is at this offset.
pub record FillsIp (part : IpPart) (bytes : List ℕ) (net : Option NetHeaders) (payload : IpPayload)
    (offset : ℕ) : Type 0 where
  pub filled : net ≡ Some (net_headers_of (ip_headers_of part))
  pub same_payload : payload ≡ ip_part_payload part
  pub place : offset ≡ net_payload_offset (ip_layer part)
  pub within : offset ≤ length bytes

-- The transport header of an IP payload, if it has a supported one, and the payload of the last layer were decoded.
pub record FillsTransport (payload : IpPayload) (old new : Headers) : Type 0 where
  pub transport : Option TransportLayer
  pub part : IsTransportIn headers payload transport
  pub filled : new ≡ record old {
    transport = option_map transport_header_in transport;
    payload = innermost_part (ip payload) None transport;
  }

-- The network layer of this protocol, the transport layer in it, and the payload of the last layer were decoded.
-- Without a network layer the payload is `unread`.
pub record FillsNet (kind : Option NetKind) (bytes : List ℕ) (unread : PayloadPart) (old new : Headers) : Type 0 where
  pub net : Option NetLayer
  pub transport : Option TransportLayer
  pub part : IsNetPart headers kind bytes net transport
  pub filled : new ≡ with_net old unread net transport

-- The layers of a payload were decoded, with at most the given number of link extensions.
pub record FillsInside (exts_left : ℕ) (payload : EtherPayload) (old new : Headers) : Type 0 where
  pub extensions : List LinkExtension
  pub net : Option NetLayer
  pub transport : Option TransportLayer
  pub inside : IsInside headers exts_left (Some payload.ether_type) payload.bytes extensions net transport
  pub filled : new ≡ with_net
      (record old { link_exts = old.link_exts ++ map extension_header extensions })
      (open_after payload extensions) net transport

-- The headers are those of a frame of these bytes.
abbrev pub AreDecoded : Entry → List ℕ → Headers → Type 0
AreDecoded entry bytes decoded =
    (layers : Layers) × IsFrameIn headers entry bytes layers × (decoded ≡ headers_in layers)
