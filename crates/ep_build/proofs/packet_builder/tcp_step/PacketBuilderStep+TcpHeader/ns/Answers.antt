use Rattle.ep_build.proofs.FlagLemmas.{sets_ns}
use Rattle.ep_build.proofs.packet_builder.tcp_step.PacketBuilderStep+TcpHeader.ns.Goals as goal

pub returns-clause-wire : goal.returns-clause-wire
returns-clause-wire c = sets_ns c.args.self.last
