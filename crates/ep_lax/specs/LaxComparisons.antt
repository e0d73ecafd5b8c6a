-- Equality of slices from lax slicing: by their bytes, and whether bytes are missing.
use Rattle.std.specs.Prelude.{◌≡◌, ◌&&◌}
use Rattle.std.specs.Option.{option_eq, option_map}
use Rattle.std.specs.Cmp.Lexicographic.{pointwise}
use Rattle.ep_base.specs.declared.err.layer.Layer.{Layer}
use Rattle.ep_ext.specs.IpAuthSlices.{ip_auth_slice_bytes}
use Rattle.ep_ext.specs.Ipv6ExtensionSlices.{ipv6_slice_number, ipv6_slice_bytes}
use Rattle.ep_ip.specs.Ipv4Slices.{ipv4_header_slice_bytes}
use Rattle.ep_ip.specs.Ipv6Slices.{ipv6_header_slice_bytes}
use Rattle.ep_link.specs.declared.link.link_slice.LinkSlice.{LinkSlice}
use Rattle.ep_link.specs.ArpSlices.{arp_slice_bytes}
use Rattle.ep_link.specs.MacsecSlices.{macsec_header_slice_bytes}
use Rattle.ep_link.specs.VlanSlices.{vlan_slice_bytes}
use Rattle.ep_transport.specs.declared.transport_slice.TransportSlice.{TransportSlice}
use Rattle.ep_packet.specs.declared.err.slice_error.SliceError.{SliceError}
use Rattle.ep_packet.specs.PacketComparisons.{Equality}
use Rattle.ep_lax.specs.declared.lax_ipv4_slice.LaxIpv4Slice.{LaxIpv4Slice}
use Rattle.ep_lax.specs.declared.lax_ipv6_slice.LaxIpv6Slice.{LaxIpv6Slice}
use Rattle.ep_lax.specs.declared.lax_link_ext_slice.LaxLinkExtSlice.{LaxLinkExtSlice}
use Rattle.ep_lax.specs.declared.lax_link_ext_slice.LaxLinkExtSlice.TheVariants as extension
use Rattle.ep_lax.specs.declared.lax_macsec_payload_slice.LaxMacsecPayloadSlice.{LaxMacsecPayloadSlice}
use Rattle.ep_lax.specs.declared.lax_macsec_slice.LaxMacsecSlice.{LaxMacsecSlice}
use Rattle.ep_lax.specs.declared.lax_net_slice.LaxNetSlice.{LaxNetSlice}
use Rattle.ep_lax.specs.declared.lax_net_slice.LaxNetSlice.TheVariants as net
use Rattle.ep_lax.specs.declared.lax_sliced_packet.LaxSlicedPacket.{LaxSlicedPacket}
use Rattle.ep_lax.specs.LaxSlices.{lax_ipv4_slice_incomplete, lax_ipv4_slice_payload, lax_ipv6_slice_incomplete, lax_ipv6_slice_payload}
use Rattle.ep_lax.specs.LaxSlices.{lax_macsec_incomplete, lax_macsec_payload_of}

-- The packets have the same bytes of the header and of the authentication header, and the same payload, complete in
-- both or in neither.
pub record ShowSameLaxIpv4 (a b : LaxIpv4Slice) : Type 0 where
  pub header : ipv4_header_slice_bytes a.header ≡ ipv4_header_slice_bytes b.header
  pub extensions : option_map ip_auth_slice_bytes a.extensions.auth ≡ option_map ip_auth_slice_bytes b.extensions.auth
  pub incomplete : lax_ipv4_slice_incomplete a ≡ lax_ipv4_slice_incomplete b
  pub payload : lax_ipv4_slice_payload a ≡ lax_ipv4_slice_payload b

-- The packets have the same bytes of the header and of the extension headers, the same kind of first extension header,
-- and the same payload, complete in both or in neither.
pub record ShowSameLaxIpv6 (a b : LaxIpv6Slice) : Type 0 where
  pub header : ipv6_header_slice_bytes a.header ≡ ipv6_header_slice_bytes b.header
  pub first : ipv6_slice_number a.extensions ≡ ipv6_slice_number b.extensions
  pub extensions : ipv6_slice_bytes a.extensions ≡ ipv6_slice_bytes b.extensions
  pub incomplete : lax_ipv6_slice_incomplete a ≡ lax_ipv6_slice_incomplete b
  pub payload : lax_ipv6_slice_payload a ≡ lax_ipv6_slice_payload b

-- The payloads are equal, with bytes missing in both or in neither.
abbrev pub ShowSameLaxPayload : LaxMacsecPayloadSlice → LaxMacsecPayloadSlice → Type 0
ShowSameLaxPayload a b =
    (lax_macsec_incomplete a ≡ lax_macsec_incomplete b) × (lax_macsec_payload_of a ≡ lax_macsec_payload_of b)

-- The packets have the same bytes of the tag, reserved bits included, and the same payload.
abbrev pub ShowSameLaxMacsec : LaxMacsecSlice → LaxMacsecSlice → Type 0
ShowSameLaxMacsec a b =
    (macsec_header_slice_bytes a.header ≡ macsec_header_slice_bytes b.header) × ShowSameLaxPayload a.payload b.payload

-- The link extensions are of one kind and equal.
abbrev pub ShowSameLaxExtension : LaxLinkExtSlice → LaxLinkExtSlice → Type 0
ShowSameLaxExtension (extension.Vlan a) (extension.Vlan b) = vlan_slice_bytes a ≡ vlan_slice_bytes b
ShowSameLaxExtension (extension.Macsec a) (extension.Macsec b) = ShowSameLaxMacsec a b
ShowSameLaxExtension a b = ⊥

-- The network layers are of one kind and equal.
abbrev pub ShowSameLaxNet : LaxNetSlice → LaxNetSlice → Type 0
ShowSameLaxNet (net.Ipv4 a) (net.Ipv4 b) = ShowSameLaxIpv4 a b
ShowSameLaxNet (net.Ipv6 a) (net.Ipv6 b) = ShowSameLaxIpv6 a b
ShowSameLaxNet (net.Arp a) (net.Arp b) = arp_slice_bytes a ≡ arp_slice_bytes b
ShowSameLaxNet a b = ⊥

-- Packets are equal if each layer is present in both or neither and equal by its own equality, and the errors at which
-- slicing stopped are equal.
abbrev pub same_lax_packets : Equality LinkSlice → Equality LaxLinkExtSlice → Equality LaxNetSlice
    → Equality TransportSlice → Equality (SliceError × Layer) → Equality LaxSlicedPacket
same_lax_packets link extension net transport stop a b =
    option_eq link a.link b.link && (pointwise extension a.link_exts.items b.link_exts.items
    && (option_eq net a.net b.net
    && (option_eq transport a.transport b.transport && option_eq stop a.stop_err b.stop_err)))
