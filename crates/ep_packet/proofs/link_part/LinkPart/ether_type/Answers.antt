use Rattle.std.proofs.Common.{[], refl, sym}
use Rattle.std.proofs.lemmas.List.{append-nil}
use Rattle.ep_packet.proofs.link_part.LinkPart.ether_type.Goals as goal

pub returns-clause-begins : goal.returns-clause-begins
returns-clause-begins c = record { shows = ([], sym (append-nil c.args.slice.now)); is = refl }
