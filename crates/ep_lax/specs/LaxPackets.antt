-- Contents of a packet sliced laxly: its layers and their bytes.
use Rattle.std.specs.Prelude.{◌≡◌, ◌+◌, ℕ, Bool, false, List, [], ◌∷◌, length, Option, Some, None}
use Rattle.std.specs.Option.{option_map}
use Rattle.ep_base.specs.LaxCut.{is_missing}
use Rattle.ep_base.specs.declared.err.layer.Layer.{Layer}
use Rattle.ep_link.specs.declared.link.link_slice.LinkSlice.{LinkSlice}
use Rattle.ep_link.specs.ArpSlices.{arp_slice_bytes}
use Rattle.ep_link.specs.LinkExtensions.{extension_payload}
use Rattle.ep_link.specs.LinkSlices.{link_layer_of, link_layer_payload, link_slice_bytes}
use Rattle.ep_link.specs.VlanSlices.{vlan_slice_bytes}
use Rattle.ep_transport.specs.declared.transport_header.TransportHeader.{TransportHeader}
use Rattle.ep_transport.specs.declared.transport_header.TransportHeader.TheVariants as header
use Rattle.ep_transport.specs.declared.transport_slice.TransportSlice.{TransportSlice}
use Rattle.ep_transport.specs.TransportParts.{TransportLayer, transport_layer_of}
use Rattle.ep_packet.specs.declared.err.slice_error.SliceError.{SliceError}
use Rattle.ep_packet.specs.ShownBytes.{BeginsWith, ShowsTransport}
use Rattle.ep_lax.specs.declared.lax_link_ext_slice.LaxLinkExtSlice.{LaxLinkExtSlice}
use Rattle.ep_lax.specs.declared.lax_link_ext_slice.LaxLinkExtSlice.TheVariants as extension
use Rattle.ep_lax.specs.declared.lax_net_slice.LaxNetSlice.{LaxNetSlice}
use Rattle.ep_lax.specs.declared.lax_net_slice.LaxNetSlice.TheVariants as net
use Rattle.ep_lax.specs.declared.lax_sliced_packet.LaxSlicedPacket.{LaxSlicedPacket}
use Rattle.ep_lax.specs.LaxLayers.{LaxTransport, LaxNet, LaxLayers}
use Rattle.ep_lax.specs.LaxSlices.{lax_ipv4_slice_bytes, lax_ipv4_slice_payload, lax_ipv6_slice_bytes, lax_ipv6_slice_payload, lax_macsec_slice_bytes}
use Rattle.ep_lax.specs.LaxViews.{extension_incomplete, lax_extension_of, lax_extensions_of, lax_net_incomplete, lax_net_layer_of}

-- ---- layers

-- True if bytes of the payload of the last link extension are missing. `outer` states whether the enclosing bytes are
-- incomplete.
abbrev pub extensions_incomplete : Bool → List LaxLinkExtSlice → Bool
extensions_incomplete outer [] = outer
extensions_incomplete outer (slice ∷ others) = extensions_incomplete (extension_incomplete outer slice) others

-- True if bytes of the payload after a transport header are missing. `outer` is true if the payload of IP is
-- incomplete. The length field of UDP, if it applies, states the length of header and payload; otherwise they are all
-- available bytes.
abbrev pub layer_incomplete : Bool → TransportHeader → List ℕ → Bool
layer_incomplete outer (header.Udp udp) payload = is_missing 8 udp.length outer (8 + length payload)
layer_incomplete outer (header.Tcp tcp) payload = outer
layer_incomplete outer (header.Icmpv4 icmp) payload = outer
layer_incomplete outer (header.Icmpv6 icmp) payload = outer

-- True if bytes of the payload of a transport layer, if present, are missing.
abbrev pub transport_incomplete : Bool → Option TransportLayer → Bool
transport_incomplete outer None = outer
transport_incomplete outer (Some layer) = layer_incomplete outer layer.header layer.payload

-- The layers in a network layer whose payload is incomplete or not.
abbrev pub inside_of : Bool → Option TransportSlice → Option (SliceError × Layer) → LaxTransport
inside_of outer transport stop = record {
  layer = option_map transport_layer_of transport;
  incomplete = transport_incomplete outer (option_map transport_layer_of transport);
  stop = stop;
}

-- True if bytes of the payload of a network layer are missing, or of the bytes if there is none.
abbrev pub net_incomplete : Bool → Option LaxNetSlice → Bool
net_incomplete outer None = outer
net_incomplete outer (Some slice) = lax_net_incomplete slice

-- The network layer, in bytes that are incomplete or not, and the layers in it.
abbrev pub lax_net_of : Bool → Option LaxNetSlice → Option TransportSlice → Option (SliceError × Layer) → LaxNet
lax_net_of outer net transport stop = record {
  layer = option_map lax_net_layer_of net;
  incomplete = net_incomplete outer net;
  inside = inside_of (net_incomplete outer net) transport stop;
}

-- The layers of a packet.
abbrev pub lax_layers_of : LaxSlicedPacket → LaxLayers
lax_layers_of packet = record {
  link = option_map link_layer_of packet.link;
  link_exts = lax_extensions_of false packet.link_exts.items;
  net = lax_net_of
      (extensions_incomplete false packet.link_exts.items)
      packet.net
      packet.transport
      packet.stop_err;
}

-- ---- bytes

-- The bytes of a link extension: tag and payload.
abbrev pub lax_extension_bytes : LaxLinkExtSlice → List ℕ
lax_extension_bytes (extension.Vlan tag) = vlan_slice_bytes tag
lax_extension_bytes (extension.Macsec packet) = lax_macsec_slice_bytes packet

-- The bytes of a network layer.
abbrev pub lax_net_bytes : LaxNetSlice → List ℕ
lax_net_bytes (net.Ipv4 slice) = lax_ipv4_slice_bytes slice
lax_net_bytes (net.Ipv6 slice) = lax_ipv6_slice_bytes slice
lax_net_bytes (net.Arp packet) = arp_slice_bytes packet

-- The bytes that contain the transport layer.
abbrev pub lax_net_content : LaxNetSlice → List ℕ
lax_net_content (net.Ipv4 slice) = (lax_ipv4_slice_payload slice).bytes
lax_net_content (net.Ipv6 slice) = (lax_ipv6_slice_payload slice).bytes
lax_net_content (net.Arp packet) = []

-- The network slice, if present, is a prefix of the bytes, and the transport slice is a prefix of its payload.
abbrev pub ShowsLaxNet : List ℕ → Option LaxNetSlice → Option TransportSlice → Type 0
ShowsLaxNet bytes None transport = transport ≡ None
ShowsLaxNet bytes (Some slice) transport =
    BeginsWith bytes (lax_net_bytes slice) × ShowsTransport (lax_net_content slice) transport

-- Each link extension and the network slice is a prefix of the payload of the layer around it, and the first one of the
-- bytes.
abbrev pub ShowsLaxInside : List ℕ → List LaxLinkExtSlice → Option LaxNetSlice → Option TransportSlice → Type 0
ShowsLaxInside bytes [] net transport = ShowsLaxNet bytes net transport
ShowsLaxInside bytes (slice ∷ others) net transport =
    BeginsWith bytes (lax_extension_bytes slice)
    × ShowsLaxInside (extension_payload (lax_extension_of slice)) others net transport

-- The link slice, if present, is a prefix of the bytes, and the next slice is a prefix of its payload; without a link
-- slice, the next slice is a prefix of the bytes.
abbrev pub ShowsLaxLink : List ℕ → Option LinkSlice → List LaxLinkExtSlice → Option LaxNetSlice
    → Option TransportSlice → Type 0
ShowsLaxLink bytes None extensions net transport = ShowsLaxInside bytes extensions net transport
ShowsLaxLink bytes (Some link) extensions net transport =
    BeginsWith bytes (link_slice_bytes link)
    × ShowsLaxInside (link_layer_payload (link_layer_of link)) extensions net transport

-- Each slice of a packet is a prefix of the payload of the layer around it, the outermost one of the bytes. The bytes
-- excluded by length fields come after the slices.
abbrev pub ShowsLax : List ℕ → LaxSlicedPacket → Type 0
ShowsLax bytes packet = ShowsLaxLink bytes packet.link packet.link_exts.items packet.net packet.transport
