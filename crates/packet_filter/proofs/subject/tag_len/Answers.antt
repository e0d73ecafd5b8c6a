use Rattle.ep_lax.specs.LaxViews.{lax_extension_of}
use Rattle.ep_packet.proofs.OffsetLemmas.{tag_bound}
use Rattle.packet_filter.proofs.subject.tag_len.Goals as goal

pub returns-clause-bound : goal.returns-clause-bound
returns-clause-bound c = rw c.header_len.ensures (tag_bound (lax_extension_of c.args.extension.now))
