-- Results of reading a packet laxly into owned headers step by step, for the contracts of private functions.
use Rattle.std.specs.Prelude.{◌≡◌, ℕ, Bool, List, [], ◌∷◌, ◌++◌, map, Option, Some, None}
use Rattle.std.specs.Option.{option_map}
use Rattle.ep_base.specs.IpPayload.{IpPayload}
use Rattle.ep_base.specs.Readings.{headers}
use Rattle.ep_link.specs.LinkExtensions.{LinkExtension}
use Rattle.ep_link.specs.LinkSlices.{LinkLayer, ethernet2, linux_sll, ether_payload, linux_sll_payload}
use Rattle.ep_transport.specs.declared.transport_header.TransportHeader.{TransportHeader}
use Rattle.ep_packet.specs.declared.err.slice_error.SliceError.{SliceError}
use Rattle.ep_packet.specs.declared.entry.Entry.{Entry}
use Rattle.ep_packet.specs.declared.link_part.LinkPart.{LinkPart}
use Rattle.ep_packet.specs.Frame.{NetKind}
use Rattle.ep_packet.specs.LinkParts.{BeginsPacket}
use Rattle.ep_packet.specs.PacketHeaders.{net_header_in, transport_header_in}
use Rattle.ep_lax.specs.Lax.{IsLaxIn, IsLaxInsideIn, IsLaxNetIn}
use Rattle.ep_lax.specs.LaxLayers.{LaxLayers, LaxNet, LaxTransport}
use Rattle.ep_lax.specs.LaxPacketHeaders.{LaxHeaders, lax_headers_in, tag_header_in}
use Rattle.ep_lax.specs.LaxPayloadParts.{LaxPayloadPart, empty, ether, ip, lax_innermost_part, linux_sll as in_capture, tagged_part, transport_part_or}
use Rattle.ep_lax.specs.LaxPayloads.{LaxEtherPayload, last_after, source_after}
use Rattle.ep_lax.specs.LaxWalk.{IsInIpPayload}
use Rattle.ep_lax.specs.StrictFrames.{extension_in}

-- The headers with the transport layer, if any, of an IP payload.
abbrev pub with_lax_transport : LaxHeaders → LaxPayloadPart → LaxTransport → LaxHeaders
with_lax_transport old outside inside = record old {
  transport = option_map transport_header_in inside.layer;
  payload = transport_part_or outside inside.layer inside.incomplete;
  stop = inside.stop;
}

-- The headers with the network and transport layer, if any, after the link extensions.
abbrev pub with_lax_net : LaxHeaders → LaxPayloadPart → LaxNet → LaxHeaders
with_lax_net old unread net = record old {
  net = option_map net_header_in net.layer;
  transport = option_map transport_header_in net.inside.layer;
  payload = lax_innermost_part unread net;
  stop = net.inside.stop;
}

-- The payload after the link extensions that a payload begins with.
abbrev pub open_after : LaxEtherPayload → List (LinkExtension × Bool) → LaxPayloadPart
open_after payload [] = ether payload
open_after payload (first ∷ others) =
    tagged_part (source_after payload.len_source (map extension_in (first ∷ others))) (last_after first others)

-- A payload and the transport header before it, if any, are those in an IP payload, in which reading did not stop.
pub record IsInIp (payload : IpPayload) (incomplete : Bool) (transport : Option TransportHeader)
    (shown : LaxPayloadPart) (inside : LaxTransport) : Type 0 where
  pub same_header : transport ≡ option_map transport_header_in inside.layer
  pub same_payload : shown ≡ transport_part_or (ip payload incomplete) inside.layer inside.incomplete
  pub no_stop : inside.stop ≡ None

-- The payload of a link layer whose ether type is unknown: that of a Linux cooked capture.
abbrev pub untyped_part : LinkLayer → LaxPayloadPart
untyped_part (ethernet2 frame payload) = empty
untyped_part (linux_sll frame payload) = in_capture frame.protocol_type payload
untyped_part (ether_payload type end payload) = empty
untyped_part (linux_sll_payload protocol payload) = empty

-- The transport header of an IP payload that starts at `offset`, if it has one, and the payload of the last layer were
-- read. If an extension header was rejected with the error `stop`, there is none.
pub record FillsLaxTransport (offset : ℕ) (payload : IpPayload) (incomplete : Bool) (stop : Option SliceError)
    (old new : LaxHeaders) : Type 0 where
  pub inside : LaxTransport
  pub part : IsInIpPayload offset incomplete payload stop inside
  pub filled : new ≡ with_lax_transport old (ip payload incomplete) inside

-- The network layer of this kind, if any, in bytes that start at `offset` and are incomplete or not, the transport
-- layer in it, and the payload of the last layer were read. Without a network layer the payload is `unread`.
pub record FillsLaxNet (offset : ℕ) (outer : Bool) (kind : Option NetKind) (bytes : List ℕ) (unread : LaxPayloadPart)
    (old new : LaxHeaders) : Type 0 where
  pub net : LaxNet
  pub part : IsLaxNetIn headers offset outer kind bytes net
  pub filled : new ≡ with_lax_net old unread net

-- The layers of a payload that starts at `offset` were read, with at most the given number of link extensions.
pub record FillsLaxInside (exts_left offset : ℕ) (payload : LaxEtherPayload) (old new : LaxHeaders) : Type 0 where
  pub extensions : List (LinkExtension × Bool)
  pub net : LaxNet
  pub inside : IsLaxInsideIn headers exts_left offset payload.incomplete (Some payload.ether_type) payload.bytes
      extensions net
  pub filled : new ≡ with_lax_net (record old { link_exts = old.link_exts ++ map tag_header_in extensions })
      (open_after payload extensions) net

-- The headers are those of a packet of these bytes.
abbrev pub AreReadLaxly : Entry → List ℕ → LaxHeaders → Type 0
AreReadLaxly entry bytes read =
    (layers : LaxLayers) × IsLaxIn headers entry bytes layers × (read ≡ lax_headers_in layers)

-- The headers are those of the packet that begins with this link layer, as an entry states.
abbrev pub AreAfterLink : LinkPart → LaxHeaders → Type 0
AreAfterLink part read =
    (entry : Entry) (bytes : List ℕ) → BeginsPacket entry bytes part → AreReadLaxly entry bytes read
