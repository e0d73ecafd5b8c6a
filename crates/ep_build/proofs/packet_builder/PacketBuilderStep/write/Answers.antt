use Rattle.std.proofs.Common.{subst}
use Rattle.std.specs.Prelude.{OnOk}
use Rattle.ep_build.specs.ReadBack.{IsReadBack}
use Rattle.ep_build.specs.Steps.{part_headers}
use Rattle.ep_build.proofs.packet_builder.PacketBuilderStep.write.Goals as goal

pub returns-clause-read_back : goal.returns-clause-read_back
returns-clause-read_back g c =
    let step = c.args.self in
    subst (λ t. OnOk c.append_transport_step.result
    (IsReadBack step.before.0 (part_headers step.before.1) t c.args.payload.now))
    c.into_transport-transport.ensures c.append_transport_step.ensures.read_back
