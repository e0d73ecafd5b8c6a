-- The VLAN tags among the link extensions, one after the other.
use Rattle.std.proofs.Common.{List, ◌∷◌, Option, Some, None}
use Rattle.ep_link.specs.declared.link_ext.single_vlan_slice.SingleVlanSlice.{SingleVlanSlice}

-- The tags with an optional tag before them.
abbrev pub tags_with : Option SingleVlanSlice → List SingleVlanSlice → List SingleVlanSlice
tags_with None tags = tags
tags_with (Some tag) tags = tag ∷ tags
