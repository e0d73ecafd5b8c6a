use Rattle.std.proofs.Common.{length, ◌-◌}
use Rattle.ep_packet.specs.Frame.{most_link_exts}
use Rattle.ep_lax.proofs.lax_packet_headers.LaxPacketHeaders.+fill_inside.Given as goal

abbrev pub decreases-fill_inside : goal.decreases-fill_inside
decreases-fill_inside l = most_link_exts - length l.self.now.link_exts.items
