use Rattle.std.proofs.Common.{◌≡◌, drop}
use Rattle.ep_packet.specs.PacketHeaders.{vlan_headers}
use Rattle.ep_packet.proofs.HeadersLemmas.{headers_with}
use Rattle.ep_packet.proofs.vlan_tags.outer_vlan_headers.Given as goal

abbrev pub invariant-loop-extension : goal.invariant-loop-extension
invariant-loop-extension l =
    vlan_headers l.link_exts.items ≡ headers_with l.outer
    (vlan_headers (drop l.extension-index l.link_exts.items))
