use Rattle.std.proofs.Common.{false, inl, inr}
use Rattle.ep_lax.proofs.lax_sliced_packet_walk.fill_ip.Goals as goal

pub returns-in-Ok-clause-ok : goal.returns-in-Ok-clause-ok
returns-in-Ok-clause-ok c =
    let ok = c.in-Ok.ensures.ok in
    let filled = c.fill_ipv4_packet.ensures false c.args.slice.now ok.0 ok.1 ok.2 in
    record { part = inl filled.0; shows = filled.1 }

pub returns-in-Ok-read-clause-ok : goal.returns-in-Ok-read-clause-ok
returns-in-Ok-read-clause-ok c =
    let ok = c.in-Ok-read.ensures.ok in
    let filled = c.fill_ipv6_packet.ensures false c.args.slice.now ok.0 ok.1 ok.2 ok.4 ok.3 in
    record { part = inr filled.0; shows = filled.1 }
