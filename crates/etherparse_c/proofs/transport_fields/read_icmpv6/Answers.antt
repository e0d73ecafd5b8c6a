use Rattle.etherparse_c.proofs.FieldLemmas.{reads_none}
use Rattle.etherparse_c.proofs.transport_fields.read_icmpv6.Goals as goal

pub returns-in_default : goal.returns-in_default
returns-in_default c = reads_none _ (λ other has. c.in_default.ensures.only has.0 has.1)
