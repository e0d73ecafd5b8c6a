use Rattle.ep_build.proofs.FlagLemmas.{sets_ack}
use Rattle.ep_build.proofs.packet_builder.tcp_step.PacketBuilderStep+TcpHeader.ack.Goals as goal

pub returns-clause-wire : goal.returns-clause-wire
returns-clause-wire c = sets_ack (record c.args.self.last { acknowledgment_number = c.args.acknowledgment_number })
