use Rattle.std.proofs.Common.{◌++◌, sym, ◌∙◌}
use Rattle.std.proofs.lemmas.Result.{on_ok_weaker}
use Rattle.packet_dump.specs.Decoding.{packet_with}
use Rattle.packet_dump.proofs.SavingLemmas.{saves_pushed, saves_stays}
use Rattle.packet_dump.proofs.saving.Saving.save.Goals as goal

pub returns-then-packet-clause-saves : goal.returns-then-packet-clause-saves
returns-then-packet-clause-saves c =
    on_ok_weaker c.push.result
    (λ pushes options packets details is wanted saved saves.
    saves_pushed c.read_back.ensures.more options wanted c.in-Open.link c.push.new.self.state packets
    (packet_with c.args.packet.now details) saved c.args.self.now.bytes.items c.push.new.self.bytes.items
    (sym is ∙ c.if-packet.true) pushes (rw c.in-Open.is at saves))
    c.push.ensures.pushes

pub returns-else-packet-clause-saves : goal.returns-else-packet-clause-saves
returns-else-packet-clause-saves c =
    λ options packets details is wanted saved.
    saves_stays options wanted c.args.self.now.state packets (packet_with c.args.packet.now details)
    (saved ++ c.args.self.now.bytes.items) (λ link open_state. sym is ∙ c.if-packet.false)

pub returns-in-Unasked-clause-saves : goal.returns-in-Unasked-clause-saves
returns-in-Unasked-clause-saves c =
    λ options packets details is wanted saved.
    saves_stays options wanted c.args.self.now.state packets (packet_with c.args.packet.now details)
    (saved ++ c.args.self.now.bytes.items) (λ link open_state. cc)

pub returns-in-Stopped-clause-saves : goal.returns-in-Stopped-clause-saves
returns-in-Stopped-clause-saves c =
    λ options packets details is wanted saved.
    saves_stays options wanted c.args.self.now.state packets (packet_with c.args.packet.now details)
    (saved ++ c.args.self.now.bytes.items) (λ link open_state. cc)
