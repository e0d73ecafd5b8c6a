use Rattle.std.proofs.Common.{◌≡◌, ◌+◌, ap, ◌∙◌, arith}
use Rattle.ep_build.specs.BuiltFrames.{built_size}
use Rattle.ep_build.specs.Steps.{ip_step_frame, ip_step_headers}
use Rattle.ep_build.proofs.SizeLemmas.{ip_size}
use Rattle.ep_build.proofs.packet_builder.ip_step.PacketBuilderStep+IpHeaders.size.Goals as goal

pub returns-clause-frame : goal.returns-clause-frame
returns-clause-frame c = λ last payload same.
    let step = c.args.self.now in
    let complete = ip_size step.before (ip_step_headers step) last payload c.link_fits.ensures
    c.header_len-2.ensures.fits in
    let sized : built_size (ip_step_frame step last) c.args.payload_size
    ≡ c.header_len.result + c.header_len-2.result + c.args.payload_size = omega arith in
    complete ∙ ap (built_size (ip_step_frame step last)) same ∙ sized
