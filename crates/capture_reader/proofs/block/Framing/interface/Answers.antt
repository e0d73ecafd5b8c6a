use Rattle.std.proofs.Common.{◌<◌, length, arith}
use Rattle.std.proofs.lemmas.Grind.{common_steps}
use Rattle.capture_reader.specs.Blocks.{most_interfaces}
use Rattle.capture_reader.proofs.ContentLemmas.{interface_content}
use Rattle.capture_reader.proofs.block.Framing.interface.Goals as goal

pub returns-in-Ok-clause-ok : goal.returns-in-Ok-clause-ok
returns-in-Ok-clause-ok c =
    let frame = c.args.self.now in
    let space : length c.args.interfaces.now < most_interfaces = grind (arith, common_steps) in
    interface_content c.args.interfaces.now frame.order frame.len c.args.body.now c.in-Ok.about c.requires space
    c.in-Ok.ensures.none c.in-Ok.ensures.ok
