use Rattle.std.proofs.Common.{◌≡◌, ap, ◌∙◌}
use Rattle.etherparse.specs.BuiltFrames.{transport_frame_headers}
use Rattle.etherparse.specs.Steps.{ip_step_headers, transport_step_frame}
use Rattle.etherparse.specs.Types.IpHeaders.{IpHeaders}
use Rattle.etherparse.specs.Types.LinkPart.{LinkPart}
use Rattle.etherparse.specs.Types.TransportHeader.TheVariants as header
use Rattle.example_generators.specs.Ends.{ethernet_header}
use Rattle.example_generators.specs.Reports.{report_headers, udp_header}
use Rattle.example_generators.proofs.BuildingLemmas.{appends_known}
use Rattle.example_generators.proofs.reports.write_report.Goals as goal

pub returns : goal.returns
returns c =
    let same : transport_step_frame header.Udp c.udp.result ≡ report_headers =
    c.udp.ensures
    ∙ ap (λ (link : LinkPart). transport_frame_headers link (ip_step_headers c.ip.result) udp_header)
    (c.ip.ensures.link ∙ c.ethernet2.ensures)
    ∙ ap (λ (headers : IpHeaders). transport_frame_headers ethernet_header headers udp_header)
    (c.ip.ensures.headers ∙ c.ip_headers.ensures) in
    appends_known (transport_step_frame header.Udp c.udp.result) report_headers c.args.payload.now c.args.buf.now
    c.write.new.buf c.write.result same
    c.write.ensures.ok c.write.ensures.err c.write.ensures.refused c.write.ensures.full
