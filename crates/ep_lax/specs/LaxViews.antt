-- Slices from lax slicing as layers.
use Rattle.std.specs.Prelude.{Bool, false, List, [], ◌∷◌}
use Rattle.ep_link.specs.ArpSlices.{arp_slice_packet}
use Rattle.ep_link.specs.LinkExtensions.{LinkExtension, vlan, macsec}
use Rattle.ep_link.specs.VlanSlices.{vlan_slice_header, vlan_slice_payload}
use Rattle.ep_packet.specs.Layers.{NetLayer, arp, ipv4, ipv6}
use Rattle.ep_lax.specs.declared.lax_link_ext_slice.LaxLinkExtSlice.{LaxLinkExtSlice}
use Rattle.ep_lax.specs.declared.lax_link_ext_slice.LaxLinkExtSlice.TheVariants as extension
use Rattle.ep_lax.specs.declared.lax_net_slice.LaxNetSlice.{LaxNetSlice}
use Rattle.ep_lax.specs.declared.lax_net_slice.LaxNetSlice.TheVariants as net
use Rattle.ep_lax.specs.LaxSlices.{lax_ipv4_slice_extensions, lax_ipv4_slice_header, lax_ipv4_slice_incomplete, lax_ipv4_slice_payload}
use Rattle.ep_lax.specs.LaxSlices.{lax_ipv6_slice_extensions, lax_ipv6_slice_header, lax_ipv6_slice_incomplete, lax_ipv6_slice_payload}
use Rattle.ep_lax.specs.LaxSlices.{lax_macsec_slice_header, lax_macsec_slice_incomplete, lax_macsec_slice_payload}

-- The link extension of a slice.
abbrev pub lax_extension_of : LaxLinkExtSlice → LinkExtension
lax_extension_of (extension.Vlan tag) = vlan (vlan_slice_header tag) (vlan_slice_payload tag)
lax_extension_of (extension.Macsec packet) = macsec (lax_macsec_slice_header packet) (lax_macsec_slice_payload packet)

-- True if bytes of the payload are missing. `outer` states whether the enclosing bytes are incomplete.
abbrev pub extension_incomplete : Bool → LaxLinkExtSlice → Bool
extension_incomplete outer (extension.Vlan tag) = outer
extension_incomplete outer (extension.Macsec packet) = lax_macsec_slice_incomplete packet

-- The link extensions of slices, each in the payload of the one before it.
abbrev pub lax_extensions_of : Bool → List LaxLinkExtSlice → List (LinkExtension × Bool)
lax_extensions_of outer [] = []
lax_extensions_of outer (slice ∷ others) =
    (lax_extension_of slice, extension_incomplete outer slice)
    ∷ lax_extensions_of (extension_incomplete outer slice) others

-- The network layer of a slice.
abbrev pub lax_net_layer_of : LaxNetSlice → NetLayer
lax_net_layer_of (net.Ipv4 slice) =
    ipv4 (lax_ipv4_slice_header slice) (lax_ipv4_slice_extensions slice) (lax_ipv4_slice_payload slice)
lax_net_layer_of (net.Ipv6 slice) =
    ipv6 (lax_ipv6_slice_header slice) (lax_ipv6_slice_extensions slice) (lax_ipv6_slice_payload slice)
lax_net_layer_of (net.Arp packet) = arp (arp_slice_packet packet)

-- True if bytes of the payload are missing.
abbrev pub lax_net_incomplete : LaxNetSlice → Bool
lax_net_incomplete (net.Ipv4 slice) = lax_ipv4_slice_incomplete slice
lax_net_incomplete (net.Ipv6 slice) = lax_ipv6_slice_incomplete slice
lax_net_incomplete (net.Arp packet) = false
