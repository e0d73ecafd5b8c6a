use Rattle.ep_build.proofs.FlagLemmas.{sets_urg}
use Rattle.ep_build.proofs.packet_builder.tcp_step.PacketBuilderStep+TcpHeader.urg.Goals as goal

pub returns-clause-wire : goal.returns-clause-wire
returns-clause-wire c = sets_urg (record c.args.self.last { urgent_pointer = c.args.urgent_pointer })
