-- Results of slicing a frame step by step, for the contracts of private functions.
use Rattle.std.specs.Prelude.{◌≡◌, ◌≤◌, ℕ, ◌+◌, length, List, map, Option, Some}
use Rattle.std.specs.Option.{option_and_then, option_map}
use Rattle.ep_base.specs.Readings.{slices}
use Rattle.ep_base.specs.declared.ether_type.EtherType.{EtherType}
use Rattle.ep_link.specs.declared.link.link_slice.LinkSlice.{LinkSlice}
use Rattle.ep_link.specs.declared.link_ext.link_ext_slice.LinkExtSlice.{LinkExtSlice}
use Rattle.ep_link.specs.LinkExtensions.{link_extension_of}
use Rattle.ep_transport.specs.declared.transport_slice.TransportSlice.{TransportSlice}
use Rattle.ep_transport.specs.TransportParts.{transport_layer_of}
use Rattle.ep_packet.specs.declared.err.slice_error.SliceError.{SliceError}
use Rattle.ep_packet.specs.declared.net_slice.NetSlice.{NetSlice}
use Rattle.ep_packet.specs.declared.sliced_packet.SlicedPacket.{SlicedPacket}
use Rattle.ep_packet.specs.Layers.{net_layer_of}
use Rattle.ep_packet.specs.Frame.{NetKind, IsInside, IsNetPart, most_link_exts, net_kind}
use Rattle.ep_packet.specs.FrameRefusals.{RefusesInside, RefusesNetPart, net_payload_offset}
use Rattle.ep_packet.specs.ShownBytes.{ShowsInside, ShowsNet, net_slice_bytes, net_slice_payload}

-- The slices are the network layer of this protocol and the transport layer in it, and show these bytes.
pub record HoldsNet (kind : Option NetKind) (bytes : List ℕ) (net : Option NetSlice)
    (transport : Option TransportSlice) : Type 0 where
  pub part : IsNetPart slices kind bytes (option_map net_layer_of net) (option_map transport_layer_of transport)
  pub shows : ShowsNet bytes net transport

-- A slice of an IP packet shows exactly the bytes of its headers and its payload.
abbrev pub HasHeaders : NetSlice → Type 0
HasHeaders net =
    length (net_slice_bytes net) ≡ net_payload_offset (net_layer_of net) + length (net_slice_payload net)

-- The packet has this link layer, and its other layers are those of its payload, of this ether type, and show its
-- bytes.
pub record HoldsAfterLink (link : LinkSlice) (type : Option EtherType) (bytes : List ℕ)
    (packet : SlicedPacket) : Type 0 where
  pub has_link : packet.link ≡ Some link
  pub inside : IsInside slices most_link_exts type bytes (map link_extension_of packet.link_exts.items)
      (option_map net_layer_of packet.net) (option_map transport_layer_of packet.transport)
  pub shows : ShowsInside bytes packet.link_exts.items packet.net packet.transport

-- The link extensions, the network layer and the transport layer are those of the bytes, of this ether type, and show
-- them.
pub record HoldsInside (type : Option EtherType) (bytes : List ℕ) (extensions : List LinkExtSlice)
    (net : Option NetSlice) (transport : Option TransportSlice) : Type 0 where
  pub inside : IsInside slices most_link_exts type bytes (map link_extension_of extensions)
      (option_map net_layer_of net) (option_map transport_layer_of transport)
  pub shows : ShowsInside bytes extensions net transport

-- The network layer protocol of an ether type, if the type is known and supported.
abbrev pub net_kind_in : Option EtherType → Option NetKind
net_kind_in = option_and_then net_kind

-- The bytes, of an ether type and `offset` bytes from the start of the packet, begin with these link extensions, and no
-- further one is read: the network layer of the rest, and its errors, are those of the bytes.
pub record HasExtensions (offset : ℕ) (type : Option EtherType) (bytes : List ℕ) (extensions : List LinkExtSlice)
    (rest_offset : ℕ) (rest_type : Option EtherType) (rest : List ℕ) : Type 0 where
  pub place : rest_offset + length rest ≤ offset + length bytes
  pub holds : (net : Option NetSlice) (transport : Option TransportSlice)
      → HoldsNet (net_kind_in rest_type) rest net transport → HoldsInside type bytes extensions net transport
  pub refused : (error : SliceError) → RefusesNetPart slices rest_offset (net_kind_in rest_type) rest error
      → RefusesInside slices most_link_exts offset type bytes error
