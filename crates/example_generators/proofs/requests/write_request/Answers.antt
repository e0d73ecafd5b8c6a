use Rattle.std.proofs.Common.{◌≡◌, ◌∙◌}
use Rattle.etherparse.specs.Steps.{ip_link, ip_step_headers, transport_step_frame}
use Rattle.etherparse.specs.Types.TransportHeader.TheVariants as header
use Rattle.example_generators.specs.Requests.{request_headers}
use Rattle.example_generators.proofs.BuildingLemmas.{appends_known, same_transport}
use Rattle.example_generators.proofs.requests.write_request.Goals as goal

pub returns : goal.returns
returns c =
    let same : transport_step_frame header.Udp c.udp.result ≡ request_headers =
    c.udp.ensures
    ∙ same_transport (ip_link c.ipv4.result) _ (ip_step_headers c.ipv4.result) _ _
    (c.ipv4.ensures.link ∙ c.ethernet2.ensures) c.ipv4.ensures.headers in
    appends_known (transport_step_frame header.Udp c.udp.result) request_headers c.args.payload.now c.args.buf.now
    c.write.new.buf c.write.result same
    c.write.ensures.ok c.write.ensures.err c.write.ensures.refused c.write.ensures.full
