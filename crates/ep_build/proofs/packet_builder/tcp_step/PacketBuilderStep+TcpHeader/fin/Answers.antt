use Rattle.ep_build.proofs.FlagLemmas.{sets_fin}
use Rattle.ep_build.proofs.packet_builder.tcp_step.PacketBuilderStep+TcpHeader.fin.Goals as goal

pub returns-clause-wire : goal.returns-clause-wire
returns-clause-wire c = sets_fin c.args.self.last
