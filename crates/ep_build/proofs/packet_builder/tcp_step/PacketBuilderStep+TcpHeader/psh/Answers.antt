use Rattle.ep_build.proofs.FlagLemmas.{sets_psh}
use Rattle.ep_build.proofs.packet_builder.tcp_step.PacketBuilderStep+TcpHeader.psh.Goals as goal

pub returns-clause-wire : goal.returns-clause-wire
returns-clause-wire c = sets_psh c.args.self.last
