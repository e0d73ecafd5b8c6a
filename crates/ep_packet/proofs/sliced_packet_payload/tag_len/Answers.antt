use Rattle.ep_link.specs.LinkExtensions.{link_extension_of}
use Rattle.ep_packet.proofs.OffsetLemmas.{tag_bound}
use Rattle.ep_packet.proofs.sliced_packet_payload.tag_len.Goals as goal

pub returns-clause-bound : goal.returns-clause-bound
returns-clause-bound c = rw c.header_len.ensures (tag_bound (link_extension_of c.args.extension.now))
