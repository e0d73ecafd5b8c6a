use Rattle.std.proofs.Common.{◌-◌, length}
use Rattle.ep_packet.specs.Frame.{most_link_exts}
use Rattle.ep_packet.proofs.SliceWalkLemmas.{Reads}
use Rattle.ep_packet.proofs.sliced_packet_walk.fill_extensions.Given as goal

abbrev pub invariant-loop-known : goal.invariant-loop-known
invariant-loop-known l =
    Reads l.fn.offset l.fn.ether_type l.fn.slice l.link_exts.items
    (most_link_exts - length l.link_exts.items) l.inside.offset l.inside.ether_type l.inside.slice.now

abbrev pub decreases-loop-known : goal.decreases-loop-known
decreases-loop-known l = most_link_exts - length l.link_exts.items
