use Rattle.etherparse_c.specs.SliceAnswers.{entry_of}
use Rattle.etherparse_c.proofs.ManyLemmas.{one_more}
use Rattle.etherparse_c.proofs.slicing_many.slice_frames.Goals as goal
use Rattle.std.proofs.Common.{◌<◌, length, arith}

pub frames-preserved : goal.frames-preserved
frames-preserved g c =
    let in_packets : c.frames.index < length c.frames.packets = omega arith in
    one_more (g.Slicing.SlicesFrame.IsAnswer (entry_of c.args.entry c.args.ether_type)) c.args.bytes.now c.args.ends.now
    c.args.packets.now c.frames.packets c.slice.new.packet c.frames.start c.frames.index c.frames.sliced c.slice.result
    c.frames.invariant c.frames-test.true in_packets c.if-end-start.false c.if-bytes-end.false c.slice.ensures
