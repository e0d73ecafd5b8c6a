use Rattle.std.proofs.Common.{sym, ap, ◌∙◌}
use Rattle.std.proofs.lemmas.Result.{IfOk-weaker, IfErr-weaker}
use Rattle.ep_link.specs.LinuxSll.{protocol_ether_type}
use Rattle.ep_packet.specs.PacketHeaders.{headers_of}
use Rattle.ep_packet.proofs.EntryHeadersLemmas.{sll_after_refused, sll_filled, sll_left_open}
use Rattle.ep_packet.proofs.packet_headers.PacketHeaders.fill_linux_sll.Goals as goal

pub returns-in-Some-clause-ok : goal.returns-in-Some-clause-ok
returns-in-Some-clause-ok c =
    let ok = c.in-Ok.ensures.ok in
    let typed = sym (c.ether_type.ensures ∙ ap protocol_ether_type c.protocol_type.ensures) ∙ c.in-Some.is in
    IfOk-weaker c.fill_inside.result _ _
    (λ done fills. sll_filled c.args.bytes.now ok.0 c.payload_slice-payload.result.now c.in-Ok.frame c.to_header.result
    c.in-Some.ether_type c.link_ether_payload.result (headers_of c.args.self.now) c.set_link.new.self
    c.fill_inside.new.self ok.2
    c.to_header.ensures typed c.link_ether_payload.ensures c.payload_slice-payload.ensures c.set_link.ensures fills)
    c.fill_inside.ensures.ok

pub returns-in-Some-clause-err : goal.returns-in-Some-clause-err
returns-in-Some-clause-err c =
    let ok = c.in-Ok.ensures.ok in
    let typed = sym (c.ether_type.ensures ∙ ap protocol_ether_type c.protocol_type.ensures) ∙ c.in-Some.is in
    IfErr-weaker c.fill_inside.result _ _
    (λ error refused. sll_after_refused c.args.bytes.now ok.0 c.payload_slice-payload.result.now c.in-Ok.frame
    c.in-Some.ether_type c.link_ether_payload.result (headers_of c.args.self.now) c.set_link.new.self _ error ok.2 typed
    c.link_ether_payload.ensures c.payload_slice-payload.ensures c.set_link.ensures refused)
    c.fill_inside.ensures.err

pub returns-in-None-clause-ok : goal.returns-in-None-clause-ok
returns-in-None-clause-ok c =
    let ok = c.in-Ok.ensures.ok in
    let none = sym (c.ether_type.ensures ∙ ap protocol_ether_type c.protocol_type.ensures) ∙ c.in-None.is in
    sll_left_open c.args.bytes.now ok.0 c.payload_slice-payload.result.now c.in-Ok.frame c.to_header.result
    (headers_of c.args.self.now) (headers_of c.set_link.new.self) (headers_of c.set_payload.new.self) ok.2 c.to_header.ensures none
    c.payload_slice-payload.ensures c.set_link.ensures c.set_payload.ensures
