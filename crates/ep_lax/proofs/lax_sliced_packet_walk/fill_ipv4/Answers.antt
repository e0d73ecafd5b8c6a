use Rattle.std.proofs.Common.{ap, inr, arith}
use Rattle.std.specs.Option.{option_map}
use Rattle.ep_base.specs.Readings.{slices}
use Rattle.ep_ext.specs.ExtensionParts.{auth_refusal}
use Rattle.ep_lax.specs.LaxSlices.{lax_ipv4_of}
use Rattle.ep_lax.proofs.LaxNetLemmas.{ipv4_stop_within}
use Rattle.ep_lax.proofs.lax_sliced_packet_walk.fill_ipv4.Goals as goal

pub fill_ipv4_packet-requires-clause-stop : goal.fill_ipv4_packet-requires-clause-stop
fill_ipv4_packet-requires-clause-stop c = λ error same.
    let read = c.in-Ok.read in
    let ok = c.in-Ok.ensures.ok in
    omega (
      arith,
      ipv4_stop_within slices c.args.inside.incomplete c.args.inside.slice.now (lax_ipv4_of read.0 ok.0 read.1) ok.2 (auth_refusal error)
          (ap (option_map auth_refusal) same),
      c.requires,
    )

pub returns-in-Ok : goal.returns-in-Ok
returns-in-Ok c =
    let ok = c.in-Ok.ensures.ok in
    let filled = c.fill_ipv4_packet.ensures c.args.inside.incomplete c.args.inside.slice.now ok.0 ok.1 ok.2 in
    record { part = inr filled.0; shows = filled.1 }
