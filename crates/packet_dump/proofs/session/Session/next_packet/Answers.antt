use Rattle.packet_dump.proofs.SessionLemmas.{none_ahead, some_ahead}
use Rattle.packet_dump.proofs.session.Session.next_packet.Goals as goal

pub returns-clause-some : goal.returns-clause-some
returns-clause-some c = some_ahead _ _ _ _ c.next_packet.ensures

pub returns-clause-none : goal.returns-clause-none
returns-clause-none c = none_ahead _ _ _ _ c.next_packet.ensures
