-- Intermediate results of lax slicing, for the contracts of its private functions.
use Rattle.std.specs.Prelude.{◌≡◌, ◌⊎◌, ◌≤◌, ◌+◌, ℕ, Bool, false, List, ◌++◌, length, Option, Some, None}
use Rattle.ep_base.specs.IpPayload.{IpPayload}
use Rattle.ep_base.specs.Tables.{RefusesAs}
use Rattle.ep_base.specs.declared.err.macsec.HeaderSliceError.{HeaderSliceError as TagError}
use Rattle.ep_base.specs.declared.err.macsec.HeaderSliceError.TheVariants as tag_error
use Rattle.ep_base.specs.declared.err.layer.Layer.{Layer}
use Rattle.ep_base.specs.declared.ether_type.EtherType.{EtherType}
use Rattle.ep_link.specs.LinkExtensions.{IsVlanType, IsMacsecType}
use Rattle.ep_link.specs.Macsec.{RefusesMacsecHeader}
use Rattle.ep_link.specs.Vlan.{RefusesVlan}
use Rattle.ep_transport.specs.declared.transport_slice.TransportSlice.{TransportSlice}
use Rattle.ep_packet.specs.declared.entry.Entry.{Entry}
use Rattle.ep_packet.specs.declared.err.slice_error.SliceError.{SliceError}
use Rattle.ep_packet.specs.declared.link_part.LinkPart.{LinkPart}
use Rattle.ep_packet.specs.Frame.{NetKind, most_link_exts}
use Rattle.ep_packet.specs.LinkParts.{BeginsPacket}
use Rattle.ep_packet.specs.Walk.{net_kind_in}
use Rattle.ep_lax.specs.declared.lax_link_ext_slice.LaxLinkExtSlice.{LaxLinkExtSlice}
use Rattle.ep_lax.specs.declared.lax_net_slice.LaxNetSlice.{LaxNetSlice}
use Rattle.ep_lax.specs.declared.lax_sliced_packet.LaxSlicedPacket.{LaxSlicedPacket}
use Rattle.ep_lax.specs.Lax.{IsLax, IsLaxExtension, IsLaxInside, IsLaxNet, IsLaxTransport}
use Rattle.ep_lax.specs.LaxLayers.{LaxTransport, no_transport, error_with_layer}
use Rattle.ep_lax.specs.LaxPackets.{ShowsLax, ShowsLaxInside, ShowsLaxNet, extensions_incomplete}
use Rattle.ep_lax.specs.LaxPackets.{lax_extension_bytes, lax_layers_of, lax_net_of}
use Rattle.ep_lax.specs.LaxViews.{extension_incomplete, lax_extension_of, lax_extensions_of}

-- The layers in an IP packet whose payload starts at `offset`. If an extension header is rejected with this error,
-- there are none.
abbrev pub IsInIpPayload : ℕ → Bool → IpPayload → Option SliceError → LaxTransport → Type 0
IsInIpPayload offset incomplete payload None inside = IsLaxTransport offset incomplete payload inside
IsInIpPayload offset incomplete payload (Some error) inside = inside ≡ no_transport incomplete (Some (error_with_layer error))

-- The slices are the network layer of a kind in bytes that start at `offset` and are incomplete or not, and the layers
-- in it. Each is a prefix of the payload of the layer around it, the outermost one of these bytes.
pub record HoldsLaxNet (offset : ℕ) (outer : Bool) (kind : Option NetKind) (bytes : List ℕ)
    (net : Option LaxNetSlice) (transport : Option TransportSlice) (stop : Option (SliceError × Layer)) : Type 0 where
  pub part : IsLaxNet offset outer kind bytes (lax_net_of outer net transport stop)
  pub shows : ShowsLaxNet bytes net transport

-- The slices are the layers in bytes of an ether type that start at `offset`. Each is a prefix of the payload of the
-- layer around it, the outermost one of these bytes.
pub record HoldsLaxInside (offset : ℕ) (type : Option EtherType) (bytes : List ℕ) (extensions : List LaxLinkExtSlice)
    (net : Option LaxNetSlice) (transport : Option TransportSlice) (stop : Option (SliceError × Layer)) : Type 0 where
  pub inside : IsLaxInside most_link_exts offset false type bytes (lax_extensions_of false extensions)
      (lax_net_of (extensions_incomplete false extensions) net transport stop)
  pub shows : ShowsLaxInside bytes extensions net transport

-- The packet consists of the layers of the bytes that begin with this link layer, as an entry states.
abbrev pub IsLaxAfterLink : LinkPart → LaxSlicedPacket → Type 0
IsLaxAfterLink part packet = (entry : Entry) (bytes : List ℕ) → BeginsPacket entry bytes part
    → IsLax entry bytes (lax_layers_of packet) × ShowsLax bytes packet

-- The slice is the link extension at the start of bytes with this ether type, which are incomplete or not; it is a
-- prefix of them.
pub record IsShownExtension (outer : Bool) (type : EtherType) (bytes : List ℕ) (slice : LaxLinkExtSlice) : Type 0 where
  pub left : List ℕ
  pub parts : bytes ≡ lax_extension_bytes slice ++ left
  pub is : IsLaxExtension outer type bytes (lax_extension_of slice, extension_incomplete outer slice)

-- The bytes do not begin with the tag that this ether type requires, for this reason.
abbrev pub RefusesTag : EtherType → List ℕ → TagError → Type 0
RefusesTag type bytes error =
    (IsVlanType type × RefusesAs tag_error.Len (RefusesVlan bytes) error)
    ⊎ (IsMacsecType type × RefusesMacsecHeader bytes error)

-- The layer start offset of an error of a tag: 0 if it is not a length error.
abbrev pub extension_start : TagError → ℕ
extension_start (tag_error.Len error) = error.layer_start_offset
extension_start (tag_error.Content error) = 0

-- The bytes, which start at `offset`, begin with these link extensions, and no further one is read: the network layer
-- of the bytes after them is that of all bytes.
pub record HasLaxExtensions (offset : ℕ) (type : Option EtherType) (bytes : List ℕ)
    (extensions : List LaxLinkExtSlice) (rest_offset : ℕ) (rest_type : Option EtherType) (rest : List ℕ)
    (outer : Bool) : Type 0 where
  pub place : rest_offset + length rest ≤ offset + length bytes
  pub holds : (net : Option LaxNetSlice) (transport : Option TransportSlice) (stop : Option (SliceError × Layer))
      → HoldsLaxNet rest_offset outer (net_kind_in rest_type) rest net transport stop
      → HoldsLaxInside offset type bytes extensions net transport stop

-- Slicing of bytes with this ether type stops at this error after these link extensions.
abbrev pub StopsAfterExtensions : ℕ → Option EtherType → List ℕ → List LaxLinkExtSlice → SliceError → Type 0
StopsAfterExtensions offset type bytes extensions error =
    HoldsLaxInside offset type bytes extensions None None (Some (error_with_layer error))
