-- Entries of lax slicing: the packet that consists of a link layer and the layers after it.
use Rattle.std.proofs.Common.{◌≡◌, ℕ, false, List, Option, Some, sym, ap, subst, ◌∙◌}
use Rattle.std.proofs.Math.Path.{transport}
use Rattle.std.specs.Option.{option_map}
use Rattle.ep_base.specs.Readings.{Reading, slices}
use Rattle.ep_link.specs.declared.link.link_slice.LinkSlice.{LinkSlice}
use Rattle.ep_link.specs.LinkSlices.{link_layer_of}
use Rattle.ep_packet.specs.declared.entry.Entry.{Entry}
use Rattle.ep_packet.specs.declared.entry.Entry.TheVariants.{Ethernet as ethernet, LinuxSll as linux_sll}
use Rattle.ep_packet.specs.declared.entry.Entry.TheVariants.{EtherType as ether_type, Ip as ip}
use Rattle.ep_packet.specs.declared.link_part.LinkPart.{LinkPart}
use Rattle.ep_packet.specs.Frame.{most_link_exts}
use Rattle.ep_packet.specs.LinkParts.{IsLinkStart, LinkStart, link_start_of}
use Rattle.ep_packet.proofs.EntryLemmas.{payload_present}
use Rattle.ep_lax.specs.declared.lax_sliced_packet.LaxSlicedPacket.{LaxSlicedPacket}
use Rattle.ep_lax.specs.Lax.{IsLaxIn, IsLaxInsideIn}
use Rattle.ep_lax.specs.LaxLayers.{LaxLayers}
use Rattle.ep_lax.specs.LaxPackets.{ShowsLaxInside, ShowsLaxLink, lax_layers_of}
use Rattle.ep_lax.specs.LaxWalk.{HoldsLaxInside, IsLaxAfterLink}

-- A link layer and the layers in its payload make a packet.
pub is_lax : (reading : Reading) (entry : Entry) (bytes : List ℕ) (prefix : LinkStart) (layers : LaxLayers) → IsLinkStart entry bytes prefix
    → layers.link ≡ Some prefix.link
    → IsLaxInsideIn reading most_link_exts prefix.offset false prefix.type prefix.payload layers.link_exts layers.net
    → IsLaxIn reading entry bytes layers
is_lax reading ethernet bytes prefix layers is link inside = (
  is.0,
  is.1,
  link ∙ (λ i. Some (is.2 i).link),
  transport (λ i. IsLaxInsideIn reading most_link_exts (is.2 i).offset false
      (is.2 i).type (is.2 i).payload layers.link_exts layers.net) inside,
)
is_lax reading linux_sll bytes prefix layers is link inside = (
  is.0,
  is.1,
  link ∙ (λ i. Some (is.2 i).link),
  transport (λ i. IsLaxInsideIn reading most_link_exts (is.2 i).offset false
      (is.2 i).type (is.2 i).payload layers.link_exts layers.net) inside,
)
is_lax reading (ether_type type) bytes prefix layers is link inside = (
  link ∙ (λ i. Some (is i).link),
  transport (λ i. IsLaxInsideIn reading most_link_exts (is i).offset false (is i).type
      (is i).payload layers.link_exts layers.net) inside,
)
is_lax reading ip bytes prefix layers is link inside = absurd is

-- The layers of a packet whose link layer and other layers were filled in.
pub lax_after : (part : LinkPart) (packet : LaxSlicedPacket) → packet.link ≡ Some part.link
    → HoldsLaxInside part.offset part.ether_type part.slice.now packet.link_exts.items packet.net packet.transport
    packet.stop_err
    → IsLaxAfterLink part packet
lax_after part packet link inside = λ entry bytes begins. (
  is_lax slices entry bytes (link_start_of part) (lax_layers_of packet) begins.is (ap (option_map link_layer_of) link)
      inside.inside,
  subst (λ (l : Option LinkSlice). ShowsLaxLink bytes l packet.link_exts.items packet.net packet.transport) (sym link) (
    begins.shows,
    subst (λ (b : List ℕ). ShowsLaxInside b packet.link_exts.items packet.net packet.transport)
        (payload_present entry bytes (link_start_of part) begins.is) inside.shows,
  ),
)
