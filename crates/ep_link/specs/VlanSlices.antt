-- Contents of VLAN slices.
use Rattle.std.specs.Prelude.{◌≡◌, ℕ, List, drop}
use Rattle.ep_base.specs.Tables.{Parts}
use Rattle.ep_link.specs.declared.link_ext.single_vlan_header.SingleVlanHeader.{SingleVlanHeader}
use Rattle.ep_link.specs.declared.link_ext.double_vlan_header.DoubleVlanHeader.{DoubleVlanHeader}
use Rattle.ep_link.specs.declared.link_ext.vlan_header.VlanHeader.{VlanHeader}
use Rattle.ep_link.specs.declared.link_ext.vlan_header.VlanHeader.TheVariants as tags
use Rattle.ep_link.specs.declared.link_ext.single_vlan_slice.SingleVlanSlice.{SingleVlanSlice}
use Rattle.ep_link.specs.declared.link_ext.double_vlan_slice.DoubleVlanSlice.{DoubleVlanSlice}
use Rattle.ep_link.specs.declared.link_ext.vlan_slice.VlanSlice.{VlanSlice}
use Rattle.ep_link.specs.declared.link_ext.vlan_slice.VlanSlice.TheVariants as slice
use Rattle.ep_link.specs.Vlan.{vlan_header_of, vlan_parts}

-- the bytes of the tag and the payload
abbrev pub vlan_slice_bytes : SingleVlanSlice → List ℕ
vlan_slice_bytes slice = slice.bytes.slice.now

-- the tag
abbrev pub vlan_slice_header : SingleVlanSlice → SingleVlanHeader
vlan_slice_header slice = vlan_header_of (vlan_slice_bytes slice)

-- the payload
abbrev pub vlan_slice_payload : SingleVlanSlice → List ℕ
vlan_slice_payload slice = drop 4 (vlan_slice_bytes slice)

-- the tag, the payload, and the trailing bytes
abbrev pub vlan_slice_parts : SingleVlanSlice → List ℕ → Parts SingleVlanHeader
vlan_slice_parts slice left = vlan_parts (vlan_slice_bytes slice) left

-- the outer and inner tag of two tags
abbrev pub double_vlan_slice_header : DoubleVlanSlice → DoubleVlanHeader
double_vlan_slice_header slice = record { outer = vlan_slice_header slice.outer; inner = vlan_slice_header slice.inner }

-- the payload after the inner of two tags
abbrev pub double_vlan_slice_payload : DoubleVlanSlice → List ℕ
double_vlan_slice_payload slice = vlan_slice_payload slice.inner

-- the header of one tag or of two tags
abbrev pub vlan_tags_of : VlanSlice → VlanHeader
vlan_tags_of (slice.SingleVlan tag) = tags.Single (vlan_slice_header tag)
vlan_tags_of (slice.DoubleVlan pair) = tags.Double (double_vlan_slice_header pair)

-- the innermost tag
abbrev pub innermost_tag : VlanSlice → SingleVlanSlice
innermost_tag (slice.SingleVlan tag) = tag
innermost_tag (slice.DoubleVlan pair) = pair.inner

-- two slices have the same outer and inner tag, each with its payload
abbrev pub ShowSameDoubleVlan : DoubleVlanSlice → DoubleVlanSlice → Type 0
ShowSameDoubleVlan a b =
    (vlan_slice_bytes a.outer ≡ vlan_slice_bytes b.outer) × (vlan_slice_bytes a.inner ≡ vlan_slice_bytes b.inner)

-- two slices have the same number of tags, and the same tags and payloads
abbrev pub ShowSameVlan : VlanSlice → VlanSlice → Type 0
ShowSameVlan (slice.SingleVlan a) (slice.SingleVlan b) = vlan_slice_bytes a ≡ vlan_slice_bytes b
ShowSameVlan (slice.DoubleVlan a) (slice.DoubleVlan b) = ShowSameDoubleVlan a b
ShowSameVlan a b = ⊥
