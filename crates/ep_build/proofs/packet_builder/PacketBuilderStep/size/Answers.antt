use Rattle.std.proofs.Common.{◌≡◌, ◌+◌, ap, ◌∙◌, arith}
use Rattle.ep_build.specs.BuiltFrames.{built_size}
use Rattle.ep_build.specs.Steps.{part_headers, transport_step_frame}
use Rattle.ep_build.proofs.SizeLemmas.{transport_size}
use Rattle.ep_build.proofs.packet_builder.PacketBuilderStep.size.Goals as goal

pub returns-clause-frame : goal.returns-clause-frame
returns-clause-frame g c = λ payload same.
    let step = c.args.self.now in
    let kind = g.Transport.IsTransport.kind in
    let kept = transport_step_frame kind step in
    let complete = transport_size step.before.0 (part_headers step.before.1) (kind step.last) payload
    c.link_fits.ensures c.header_len-2.ensures.fits c.transport_len.ensures.bytes in
    let sized : built_size kept c.args.payload_size
    ≡ c.header_len.result + c.header_len-2.result + c.transport_len.result + c.args.payload_size = omega arith in
    complete ∙ ap (built_size kept) same ∙ sized
