-- Link extensions: the tags between the link header and the network layer.
use Rattle.std.specs.Prelude.{◌≡◌, ℕ, ◌⊎◌, List, Option, Some}
use Rattle.ep_base.specs.EtherTypes.{vlan_type, provider_bridging_type, double_vlan_type, macsec_type}
use Rattle.ep_base.specs.Tables.{Refuses, parts_of, rows_as}
use Rattle.ep_base.specs.declared.ether_type.EtherType.{EtherType}
use Rattle.ep_base.specs.declared.err.macsec.HeaderSliceError.{HeaderSliceError}
use Rattle.ep_base.specs.declared.err.macsec.HeaderSliceError.TheVariants as refusal
use Rattle.ep_base.specs.declared.len_source.LenSource.TheVariants as source
use Rattle.ep_link.specs.declared.link_ext.single_vlan_header.SingleVlanHeader.{SingleVlanHeader}
use Rattle.ep_link.specs.declared.link_ext.macsec_header.MacsecHeader.{MacsecHeader}
use Rattle.ep_link.specs.declared.link_ext.link_ext_header.LinkExtHeader.{LinkExtHeader}
use Rattle.ep_link.specs.declared.link_ext.link_ext_header.LinkExtHeader.TheVariants as header
use Rattle.ep_link.specs.declared.link_ext.link_ext_slice.LinkExtSlice.{LinkExtSlice}
use Rattle.ep_link.specs.declared.link_ext.link_ext_slice.LinkExtSlice.TheVariants as slice
use Rattle.ep_link.specs.Vlan.{vlan_bytes, vlan_header_len, FitsVlan, IsVlan, vlan_rows}
use Rattle.ep_link.specs.VlanSlices.{vlan_slice_bytes, vlan_slice_header, vlan_slice_payload}
use Rattle.ep_link.specs.Macsec.{macsec_bytes, macsec_header_len, EncodesMacsec, IsMacsec, RefusesMacsec}
use Rattle.ep_link.specs.Macsec.{MacsecPayload, macsec_payload, macsec_payload_bytes, macsec_payload_type, ptype_type}
use Rattle.ep_link.specs.EtherPayloads.{EtherPayload, macsec_ether_payload}
use Rattle.ep_link.specs.MacsecSlices.{macsec_slice_bytes, macsec_slice_header, macsec_slice_payload, ShowSameMacsec}

-- A link extension as plain data: its tag and its payload.
pub data LinkExtension : Type 0 where
  vlan : SingleVlanHeader → List ℕ → LinkExtension
  macsec : MacsecHeader → MacsecPayload → LinkExtension

-- The plain data of a link extension slice.
abbrev pub link_extension_of : LinkExtSlice → LinkExtension
link_extension_of (slice.Vlan tag) = vlan (vlan_slice_header tag) (vlan_slice_payload tag)
link_extension_of (slice.Macsec packet) = macsec (macsec_slice_header packet) (macsec_slice_payload packet)

-- The bytes of the tag and the payload of a slice, even if the payload is modified.
abbrev pub link_ext_slice_bytes : LinkExtSlice → List ℕ
link_ext_slice_bytes (slice.Vlan tag) = vlan_slice_bytes tag
link_ext_slice_bytes (slice.Macsec packet) = macsec_slice_bytes packet

-- Two slices are the same extension: equal bytes of a VLAN tag and its payload, or the same MACsec packet.
abbrev pub ShowSameExtension : LinkExtSlice → LinkExtSlice → Type 0
ShowSameExtension (slice.Vlan a) (slice.Vlan b) = vlan_slice_bytes a ≡ vlan_slice_bytes b
ShowSameExtension (slice.Macsec a) (slice.Macsec b) = ShowSameMacsec a b
ShowSameExtension a b = ⊥

-- ---- definition and refusal of extensions

-- True if this is an ether type of VLAN tags: customer and service tags (IEEE 802.1Q, 9.5), or the number that double
-- tagged frames used before the standard.
abbrev pub IsVlanType : EtherType → Type 0
IsVlanType type = (type.0 ≡ vlan_type) ⊎ (type.0 ≡ provider_bridging_type) ⊎ (type.0 ≡ double_vlan_type)

-- True if this is the ether type of MACsec.
abbrev pub IsMacsecType : EtherType → Type 0
IsMacsecType type = type.0 ≡ macsec_type

-- True if this ether type starts a link extension.
abbrev pub BeginsLinkExtension : EtherType → Type 0
BeginsLinkExtension type = IsVlanType type ⊎ IsMacsecType type

-- The bytes are a link extension with this ether type, and the trailing bytes after its payload.
abbrev pub IsLinkExtension : EtherType → List ℕ → LinkExtension × List ℕ → Type 0
IsLinkExtension type bytes (vlan header payload, left) = IsVlanType type × IsVlan bytes (parts_of header payload left)
IsLinkExtension type bytes (macsec header payload, left) =
    IsMacsecType type × IsMacsec bytes (parts_of header (macsec_payload_bytes payload) left)
    × (payload ≡ macsec_payload header (macsec_payload_bytes payload))

-- The bytes are rejected as a link extension with this ether type.
abbrev pub RefusesLinkExtension : EtherType → List ℕ → HeaderSliceError → Type 0
RefusesLinkExtension type bytes error =
    (IsVlanType type × Refuses (rows_as refusal.Len (vlan_rows bytes)) error)
    ⊎ (IsMacsecType type × RefusesMacsec bytes error)

-- ---- tag and payload

-- The tag of an extension.
abbrev pub extension_header : LinkExtension → LinkExtHeader
extension_header (vlan tag payload) = header.Vlan tag
extension_header (macsec tag payload) = header.Macsec tag

-- The bytes are the wire bytes of the tag, with any reserved bits.
abbrev pub EncodesTag : LinkExtension → List ℕ → Type 0
EncodesTag (vlan tag payload) bytes = FitsVlan tag × (bytes ≡ vlan_bytes tag)
EncodesTag (macsec tag payload) bytes = EncodesMacsec bytes tag

-- The wire bytes of a tag as it is written.
abbrev pub link_ext_bytes : LinkExtHeader → List ℕ
link_ext_bytes (header.Vlan tag) = vlan_bytes tag
link_ext_bytes (header.Macsec tag) = macsec_bytes tag

-- The length of a tag in bytes.
abbrev pub link_ext_header_len : LinkExtHeader → ℕ
link_ext_header_len (header.Vlan tag) = vlan_header_len
link_ext_header_len (header.Macsec tag) = macsec_header_len tag

-- The bytes of the payload.
abbrev pub extension_payload : LinkExtension → List ℕ
extension_payload (vlan tag payload) = payload
extension_payload (macsec tag payload) = macsec_payload_bytes payload

-- The ether type of the payload, or None if the payload is modified or encrypted.
abbrev pub extension_type : LinkExtension → Option EtherType
extension_type (vlan tag payload) = Some tag.ether_type
extension_type (macsec tag payload) = macsec_payload_type payload

-- The ether type of the payload after a tag, or None if the payload is modified or encrypted.
abbrev pub link_ext_next_type : LinkExtHeader → Option EtherType
link_ext_next_type (header.Vlan tag) = Some tag.ether_type
link_ext_next_type (header.Macsec tag) = ptype_type tag.ptype

-- The payload with its ether type, or None if the payload is modified or encrypted.
abbrev pub extension_ether_payload : LinkExtension → Option EtherPayload
extension_ether_payload (vlan tag payload) =
    Some (record { ether_type = tag.ether_type; len_source = source.Slice; bytes = payload })
extension_ether_payload (macsec tag payload) = macsec_ether_payload payload
