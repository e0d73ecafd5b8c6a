use Rattle.std.proofs.lemmas.Result.{err_from_is_err_and}
use Rattle.ep_packet.specs.Layers.{layers_of}
use Rattle.ep_defrag.proofs.FrameLemmas.{layers_read, refused_read}
use Rattle.ep_defrag.proofs.frame_run.read.Goals as goal

pub returns-in_err-packet-in-Frame : goal.returns-in_err-packet-in-Frame
returns-in_err-packet-in-Frame g c =
    let refused = err_from_is_err_and c.from_residual.result c.from_residual.ensures.1 in
    rw (refused.1, refused.2, c.in-Frame.is)
    (refused_read c.in-Frame.entry c.in-Frame.bytes c.in-Frame.timestamp c.in-Frame.channel_id
    c.slice_at.ensures.decided c.in_err-packet-in-Frame.field-0.0 c.in_err-packet-in-Frame.ensures.err)

pub returns-in_ok-packet-in-Frame : goal.returns-in_ok-packet-in-Frame
returns-in_ok-packet-in-Frame g c =
    rw c.in-Frame.is
    (layers_read c.in-Frame.entry c.in-Frame.bytes c.in-Frame.timestamp c.in-Frame.channel_id
    c.slice_at.ensures.decided (layers_of c.in_ok-packet-in-Frame.packet) c.in_ok-packet-in-Frame.ensures.ok)
