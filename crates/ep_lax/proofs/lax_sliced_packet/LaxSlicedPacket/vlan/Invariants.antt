use Rattle.std.proofs.Common.{◌≡◌, drop}
use Rattle.ep_packet.proofs.TagLemmas.{tags_with}
use Rattle.ep_lax.specs.LaxPayloads.{lax_vlan_slices}
use Rattle.ep_lax.proofs.lax_sliced_packet.LaxSlicedPacket.vlan.Given as goal

abbrev pub invariant-loop-extension : goal.invariant-loop-extension
invariant-loop-extension l =
    lax_vlan_slices l.self.link_exts.items
    ≡ tags_with l.outer (lax_vlan_slices (drop l.extension-index l.self.link_exts.items))
