use Rattle.ep_build.proofs.FlagLemmas.{sets_syn}
use Rattle.ep_build.proofs.packet_builder.tcp_step.PacketBuilderStep+TcpHeader.syn.Goals as goal

pub returns-clause-wire : goal.returns-clause-wire
returns-clause-wire c = sets_syn c.args.self.last
