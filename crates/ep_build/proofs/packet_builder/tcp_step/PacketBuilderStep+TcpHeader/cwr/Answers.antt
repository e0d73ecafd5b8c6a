use Rattle.ep_build.proofs.FlagLemmas.{sets_cwr}
use Rattle.ep_build.proofs.packet_builder.tcp_step.PacketBuilderStep+TcpHeader.cwr.Goals as goal

pub returns-clause-wire : goal.returns-clause-wire
returns-clause-wire c = sets_cwr c.args.self.last
