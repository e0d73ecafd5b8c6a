use Rattle.std.proofs.Common.{sym, ◌∙◌, inr, arith}
use Rattle.ep_base.specs.Readings.{slices}
use Rattle.ep_lax.specs.LaxSlices.{lax_ipv6_of}
use Rattle.ep_ip.proofs.LaxIpLemmas.{reported_stop}
use Rattle.ep_lax.proofs.LaxNetLemmas.{ipv6_stop_within}
use Rattle.ep_lax.proofs.lax_sliced_packet_walk.fill_ipv6.Goals as goal

pub fill_ipv6_packet-requires-clause-stop : goal.fill_ipv6_packet-requires-clause-stop
fill_ipv6_packet-requires-clause-stop c = λ error_with_layer same.
    let read = c.in-Ok.read in
    let ok = c.in-Ok.ensures.ok in
    omega (
      arith,
      ipv6_stop_within slices c.args.inside.incomplete c.args.inside.slice.now (lax_ipv6_of read.0 ok.0 ok.1) ok.3 error_with_layer.0
          (reported_stop ok.1 error_with_layer (sym ok.4 ∙ same)),
      c.requires,
    )

pub returns-in-Ok : goal.returns-in-Ok
returns-in-Ok c =
    let ok = c.in-Ok.ensures.ok in
    let filled = c.fill_ipv6_packet.ensures c.args.inside.incomplete c.args.inside.slice.now ok.0 ok.1 ok.2 ok.4 ok.3 in
    record { part = inr filled.0; shows = filled.1 }
