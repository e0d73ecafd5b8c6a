use Rattle.std.proofs.Common.{◌≡◌, ◌+◌, sym, ◌∙◌, arith}
use Rattle.ep_link.specs.ArpSlices.{arp_of}
use Rattle.ep_build.specs.BuiltFrames.{built_size}
use Rattle.ep_build.specs.Steps.{arp_step_frame}
use Rattle.ep_build.proofs.SizeLemmas.{arp_size}
use Rattle.ep_build.proofs.packet_builder.arp_step.PacketBuilderStep+ArpPacket.size.Goals as goal

pub returns-clause-frame : goal.returns-clause-frame
returns-clause-frame c =
    let step = c.args.self.now in
    let complete = arp_size step.before (arp_of step.last) c.link_fits.ensures
    (sym c.packet_len.ensures.bytes ∙ c.packet_len.ensures.value) in
    let sized : built_size (arp_step_frame step) 0 ≡ c.header_len.result + c.packet_len.result = omega arith in
    complete ∙ sized
