use Rattle.std.proofs.Common.{◌++◌, ◌∙◌}
use Rattle.std.proofs.lemmas.Result.{on_ok_weaker}
use Rattle.std.specs.Prelude.{codes}
use Rattle.packet_text.specs.Networks.{protocol_address_text, who_has_text}
use Rattle.packet_text.proofs.LineLemmas.{four_parts}
use Rattle.packet_text.proofs.networks.push_who_has.Goals as goal

pub returns : goal.returns
unfolding who_has_text
returns c =
    let start = c.args.output.now.items in
    let type = c.proto_addr_type-ether_type in
    let target = c.target_protocol_addr in
    let sender = c.sender_protocol_addr in
    on_ok_weaker c.push_protocol_address-2.result
    (λ last.
    four_parts start c.extend_from_slice.new.self.items c.push_protocol_address.new.output.items
    c.extend_from_slice-2.new.self.items c.push_protocol_address-2.new.output.items (codes " arp who-has ")
    (protocol_address_text type.result.0 target.result.now) (codes " tell ")
    (protocol_address_text type.result.0 sender.result.now) c.in_ok-extend_from_slice.ensures.items
    c.in_ok-push_protocol_address.ensures c.in_ok-extend_from_slice-2.ensures.items last
    ∙ (λ i. start ++ (codes " arp who-has " ++ protocol_address_text (type.ensures i).0 (target.ensures.value i)
    ++ codes " tell " ++ protocol_address_text (type.ensures i).0 (sender.ensures.value i))))
    c.push_protocol_address-2.ensures
