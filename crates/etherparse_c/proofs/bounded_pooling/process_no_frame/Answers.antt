use Rattle.std.proofs.Common.{refl}
use Rattle.etherparse_c.proofs.BoundedAnswerLemmas.{processes_none}
use Rattle.etherparse_c.proofs.bounded_pooling.process_no_frame.Goals as goal

pub returns-clause-processed : goal.returns-clause-processed
returns-clause-processed c =
    processes_none 0 0 c.process_sliced_packet.result c.new.ensures c.process_sliced_packet.ensures.takes refl
