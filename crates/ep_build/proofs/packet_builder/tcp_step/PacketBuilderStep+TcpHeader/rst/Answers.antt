use Rattle.ep_build.proofs.FlagLemmas.{sets_rst}
use Rattle.ep_build.proofs.packet_builder.tcp_step.PacketBuilderStep+TcpHeader.rst.Goals as goal

pub returns-clause-wire : goal.returns-clause-wire
returns-clause-wire c = sets_rst c.args.self.last
