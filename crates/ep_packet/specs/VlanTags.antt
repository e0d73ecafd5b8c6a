-- The VLAN tags among the link extensions.
use Rattle.std.specs.Prelude.{ℕ, List, [], ◌∷◌, Option, Some, None}
use Rattle.ep_link.specs.declared.link_ext.link_ext_slice.LinkExtSlice.{LinkExtSlice}
use Rattle.ep_link.specs.declared.link_ext.link_ext_slice.LinkExtSlice.TheVariants as slice
use Rattle.ep_link.specs.declared.link_ext.single_vlan_slice.SingleVlanSlice.{SingleVlanSlice}
use Rattle.ep_link.specs.declared.link_ext.vlan_slice.VlanSlice.{VlanSlice}
use Rattle.ep_link.specs.declared.link_ext.vlan_slice.VlanSlice.TheVariants as tags
use Rattle.ep_link.specs.LinkExtensions.{LinkExtension, vlan, macsec}

-- The VLAN tags in a list of slices, from the outside in.
abbrev pub vlan_slices : List LinkExtSlice → List SingleVlanSlice
vlan_slices [] = []
vlan_slices (slice.Vlan tag ∷ others) = tag ∷ vlan_slices others
vlan_slices (slice.Macsec packet ∷ others) = vlan_slices others

-- The only tag of a list, or the first two as a double tag.
abbrev pub outer_tags : List SingleVlanSlice → Option VlanSlice
outer_tags [] = None
outer_tags (tag ∷ []) = Some (tags.SingleVlan tag)
outer_tags (outer ∷ inner ∷ others) = Some (tags.DoubleVlan (record { outer = outer; inner = inner }))

-- The identifiers of the VLAN tags in a list of link extensions, from the outside in.
abbrev pub vlan_ids_in : List LinkExtension → List ℕ
vlan_ids_in [] = []
vlan_ids_in (vlan tag payload ∷ others) = tag.vlan_id ∷ vlan_ids_in others
vlan_ids_in (macsec tag payload ∷ others) = vlan_ids_in others
