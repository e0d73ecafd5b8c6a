use Rattle.std.proofs.Common.{◌++◌, ◌∙◌, min, slice_range, slice_index, take}
use Rattle.std.proofs.lemmas.Result.{on_ok_weaker}
use Rattle.std.specs.Prelude.{codes}
use Rattle.std.specs.Fmt.{decimal}
use Rattle.packet_text.specs.Links.{sender_text}
use Rattle.packet_text.specs.Links.{sll2_header_text, sll2_interface, way_text}
use Rattle.packet_text.proofs.LineLemmas.{three_parts}
use Rattle.packet_text.proofs.links.push_sll2_header.Goals as goal

pub returns : goal.returns
unfolding sll2_header_text
returns c =
    let start = c.args.output.now.items in
    let bytes = c.args.bytes.now in
    let address = slice_range bytes 12 20 in
    on_ok_weaker c.push_sender.result
    (λ last.
    three_parts start c.push_with_text.new.output.items c.push_way.new.output.items c.push_sender.new.output.items
    (codes " sll2 interface " ++ decimal c.sll2_interface.result) (way_text (slice_index bytes 10))
    (sender_text (take c.min-len.result address)) c.in_ok-push_with_text.ensures.text c.in_ok-push_way.ensures last
    ∙ (λ i. start ++ ((codes " sll2 interface " ++ decimal (c.sll2_interface.ensures i))
    ++ way_text (slice_index bytes 10) ++ sender_text (take (c.min-len.ensures i) address)))
    ∙ (λ i. start ++ ((codes " sll2 interface " ++ decimal (sll2_interface bytes))
    ++ way_text (slice_index bytes 10) ++ sender_text (take (min (c.from.ensures i) 8) address)))) c.push_sender.ensures
