use Rattle.std.proofs.Common.{false, sym, ap, ◌∙◌}
use Rattle.ep_packet.specs.VlanTags.{vlan_ids_in}
use Rattle.ep_lax.proofs.LaxPayloadLemmas.{extensions_in}
use Rattle.ep_lax.proofs.lax_sliced_packet.LaxSlicedPacket.vlan_ids.Goals as goal

pub returns : goal.returns
returns c =
    c.ids_of_tags.ensures ∙ sym (ap vlan_ids_in (extensions_in false c.args.self.now.link_exts.items))
