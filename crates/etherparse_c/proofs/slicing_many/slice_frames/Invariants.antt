use Rattle.etherparse_c.specs.SliceAnswers.{entry_of}
use Rattle.etherparse_c.proofs.ManyLemmas.{Slicing}
use Rattle.etherparse_c.proofs.slicing_many.slice_frames.Given as goal

abbrev pub invariant-frames : goal.invariant-frames
invariant-frames g l =
    Slicing (g.Slicing.SlicesFrame.IsAnswer (entry_of l.entry l.ether_type)) l.bytes l.ends l.initial.packets l.packets
    l.start l.index l.sliced
