use Rattle.std.proofs.Common.{sym, ◌∙◌}
use Rattle.ep_lax.proofs.FrameTestLemmas.{accepts_complete, rejects_others}
use Rattle.ep_lax.proofs.lax_sliced_packet.LaxSlicedPacket.is_frame.Goals as goal

pub returns-clause-frame : goal.returns-clause-frame
returns-clause-frame c = λ entry bytes is accepted.
    accepts_complete c.args.self.now entry bytes is (sym c.is_whole_frame.ensures ∙ accepted)

pub returns-clause-refused : goal.returns-clause-refused
returns-clause-refused c = λ entry bytes fits is rejected.
    rejects_others c.args.self.now entry bytes fits is (sym c.is_whole_frame.ensures ∙ rejected)
