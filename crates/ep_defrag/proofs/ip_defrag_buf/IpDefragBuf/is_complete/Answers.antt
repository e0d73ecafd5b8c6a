use Rattle.std.proofs.Common.{◌&&◌, is_some, ap, ◌∙◌}
use Rattle.ep_defrag.specs.Buffers.{known_end_of, is_gapless}
use Rattle.ep_defrag.proofs.BufferLemmas.{complete_iff_gapless}
use Rattle.ep_defrag.proofs.ip_defrag_buf.IpDefragBuf.is_complete.Goals as goal

pub returns-clause-shown : goal.returns-clause-shown
returns-clause-shown c =
    c.is_payload_complete.ensures
    ∙ ap (λ sections. is_some (known_end_of c.args.self.now) && is_gapless sections) c.deref.ensures.value

pub returns-clause-complete : goal.returns-clause-complete
returns-clause-complete c accepted holds =
    rw (returns-clause-shown c) (complete_iff_gapless c.args.self.now accepted holds)
