use Rattle.std.proofs.Common.{◌≡◌, ap, ◌∙◌}
use Rattle.etherparse.specs.BuiltFrames.{ip_frame_headers}
use Rattle.etherparse.specs.Steps.{ip_step_frame, ip_step_headers}
use Rattle.etherparse.specs.Types.IpHeaders.{IpHeaders}
use Rattle.etherparse.specs.Types.LinkPart.{LinkPart}
use Rattle.example_generators.specs.Ends.{ethernet_header}
use Rattle.example_generators.specs.Fragments.{fragment_headers}
use Rattle.example_generators.proofs.BuildingLemmas.{appends_known}
use Rattle.example_generators.proofs.fragments.write_fragment.Goals as goal

pub returns : goal.returns
returns c =
    let same : ip_step_frame c.ip.result (record { 0 = 17 }) ≡ fragment_headers c.args.offset c.args.more =
    ap (λ (link : LinkPart). ip_frame_headers link (ip_step_headers c.ip.result) (record { 0 = 17 }))
    (c.ip.ensures.link ∙ c.ethernet2.ensures)
    ∙ ap (λ (headers : IpHeaders). ip_frame_headers ethernet_header headers (record { 0 = 17 }))
    (c.ip.ensures.headers ∙ c.ip_headers.ensures) in
    appends_known (ip_step_frame c.ip.result (record { 0 = 17 })) (fragment_headers c.args.offset c.args.more)
    c.args.payload.now c.args.buf.now c.write.new.buf c.write.result same
    c.write.ensures.ok c.write.ensures.err c.write.ensures.refused c.write.ensures.full
