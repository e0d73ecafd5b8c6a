use Rattle.std.proofs.Common.{◌-◌, arith, length, sym, subst}
use Rattle.std.specs.Prelude.{OnOk}
use Rattle.std.proofs.lemmas.Grind.{common_steps}
use Rattle.std.proofs.lemmas.Result.{IfOk-weaker}
use Rattle.ep_link.specs.EtherPayloads.{EtherPayload}
use Rattle.ep_packet.specs.declared.entry.Entry.{Entry}
use Rattle.ep_packet.specs.Frame.{most_link_exts}
use Rattle.ep_packet.specs.HeadersWalk.{FillsInside}
use Rattle.ep_packet.specs.PacketHeaders.{headers_of}
use Rattle.ep_packet.proofs.EntryHeadersLemmas.{IsFilled, ether_payload_filled, ip_fills}
use Rattle.ep_packet.proofs.packet_headers.PacketHeaders.fill_frame.Goals as goal

pub returns-in-EtherType-clause-ok : goal.returns-in-EtherType-clause-ok
returns-in-EtherType-clause-ok c =
    let bytes = c.args.bytes.now in
    let begun = c.set_link.new.self in
    let new = c.fill_inside.new.self in
    subst (λ (e : Entry). OnOk c.fill_inside.result (IsFilled e bytes (headers_of new))) (sym c.in-EtherType.is)
    (IfOk-weaker c.fill_inside.result _ _
    (λ done fills. ether_payload_filled bytes c.in-EtherType.ether_type (headers_of c.args.self.now) begun new
    c.set_link.ensures
    (subst (λ (p : EtherPayload). FillsInside (most_link_exts - length begun.link_exts.items) p (headers_of begun)
    (headers_of new)) c.link_ether_payload.ensures fills))
    c.fill_inside.ensures.ok)

pub returns-in-Ip-clause-ok : goal.returns-in-Ip-clause-ok
returns-in-Ip-clause-ok c =
    let bytes = c.args.bytes.now in
    let new = headers_of c.fill_ip.new.self in
    subst (λ (e : Entry). OnOk c.fill_ip.result (IsFilled e bytes new)) (sym c.in-Ip.is)
    (IfOk-weaker c.fill_ip.result _ _
    (λ done fills. ip_fills bytes (headers_of c.args.self.now) (headers_of c.set_link-in-Ip.new.self) new
    c.set_link-in-Ip.ensures fills)
    c.fill_ip.ensures.ok)

pub returns-in-LinuxSll-clause-ok : goal.returns-in-LinuxSll-clause-ok
returns-in-LinuxSll-clause-ok c = grind (arith, common_steps)

pub returns-in-LinuxSll-clause-err : goal.returns-in-LinuxSll-clause-err
returns-in-LinuxSll-clause-err c = grind (arith, common_steps)
