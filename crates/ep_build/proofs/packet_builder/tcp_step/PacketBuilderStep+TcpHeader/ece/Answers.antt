use Rattle.ep_build.proofs.FlagLemmas.{sets_ece}
use Rattle.ep_build.proofs.packet_builder.tcp_step.PacketBuilderStep+TcpHeader.ece.Goals as goal

pub returns-clause-wire : goal.returns-clause-wire
returns-clause-wire c = sets_ece c.args.self.last
