use Rattle.std.proofs.Common.{◌≡◌, Some, rules}
use Rattle.etherparse.specs.BuiltFrames.{transport_frame_headers}
use Rattle.etherparse.specs.Steps.{ip_link, ip_step_headers}
use Rattle.etherparse_c.specs.Building.{route_headers}
use Rattle.etherparse_c.specs.TaggedBuilding.{tagged_link}
use Rattle.etherparse_c.proofs.TaggedLemmas.{built_is_answer}
use Rattle.etherparse_c.proofs.building_tagged.build_tagged.Goals as goal

pub returns-then-route-eq4 : goal.returns-then-route-eq4
returns-then-route-eq4 g c =
    let tagged = c.args.tagged.now in
    let step = c.ipv4-step.result in
    let links : tagged_link tagged ≡ Some (ip_link step) = search rules in
    let leads : route_headers tagged.route ≡ Some (ip_step_headers step) = search rules in
    built_is_answer (tagged_link tagged) (route_headers tagged.route)
    (λ part headers. transport_frame_headers part headers (g.Transport.TransportPart.header c.args.transport_part))
    (ip_link step) (ip_step_headers step) c.args.payload.now c.args.buffer.now c.write_transport.new.buffer
    c.write_transport.new.written c.write_transport.result links leads c.write_transport.ensures
