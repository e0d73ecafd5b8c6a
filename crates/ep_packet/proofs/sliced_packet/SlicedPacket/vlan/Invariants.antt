use Rattle.std.proofs.Common.{◌≡◌, drop}
use Rattle.ep_packet.specs.VlanTags.{vlan_slices}
use Rattle.ep_packet.proofs.TagLemmas.{tags_with}
use Rattle.ep_packet.proofs.sliced_packet.SlicedPacket.vlan.Given as goal

abbrev pub invariant-loop-extension : goal.invariant-loop-extension
invariant-loop-extension l =
    vlan_slices l.self.link_exts.items ≡ tags_with l.outer (vlan_slices (drop l.extension-index l.self.link_exts.items))
