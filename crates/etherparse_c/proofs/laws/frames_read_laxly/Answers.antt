use Rattle.etherparse_c.proofs.LaxLemmas.{described_the_same}
use Rattle.etherparse_c.proofs.laws.frames_read_laxly.Goals as goal

pub returns : goal.returns
returns c = λ entry bytes layers frame.
    let read = c.strict_frames.ensures entry bytes layers frame in
    (read.0, read.1, described_the_same entry bytes layers read.0 frame read.2 read.3)
