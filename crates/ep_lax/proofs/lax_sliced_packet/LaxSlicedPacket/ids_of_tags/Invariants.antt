use Rattle.std.proofs.Common.{◌≡◌, ◌≤◌, ◌++◌, map, drop, length}
use Rattle.ep_packet.specs.VlanTags.{vlan_ids_in}
use Rattle.ep_lax.specs.LaxViews.{lax_extension_of}
use Rattle.ep_lax.proofs.lax_sliced_packet.LaxSlicedPacket.ids_of_tags.Given as goal

abbrev pub invariant-loop-extension : goal.invariant-loop-extension
invariant-loop-extension l =
    (l.ids.items ++ vlan_ids_in (map lax_extension_of (drop l.extension-index l.self.link_exts.items))
    ≡ vlan_ids_in (map lax_extension_of l.self.link_exts.items))
    × (length l.ids.items ≤ l.extension-index)
