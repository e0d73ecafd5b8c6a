use Rattle.std.proofs.Common.{◌≡◌, ◌≤◌, ◌++◌, drop, length}
use Rattle.ep_packet.specs.PacketHeaders.{header_vlan_ids}
use Rattle.ep_packet.proofs.vlan_tags.vlan_ids_of_headers.Given as goal

abbrev pub invariant-loop-extension : goal.invariant-loop-extension
invariant-loop-extension l =
    (l.ids.items ++ header_vlan_ids (drop l.extension-index l.link_exts.items)
    ≡ header_vlan_ids l.link_exts.items)
    × (length l.ids.items ≤ l.extension-index)
