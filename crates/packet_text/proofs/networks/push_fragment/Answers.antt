use Rattle.std.proofs.Common.{◌++◌, ◌*◌, ◌∙◌}
use Rattle.std.proofs.lemmas.Result.{on_ok_weaker}
use Rattle.std.specs.Prelude.{codes}
use Rattle.std.specs.Fmt.{decimal}
use Rattle.packet_text.specs.Networks.{more_text}
use Rattle.packet_text.proofs.LineLemmas.{three_parts}
use Rattle.packet_text.proofs.networks.push_fragment.Goals as goal

pub returns : goal.returns
returns c =
    let start = c.args.output.now.items in
    on_ok_weaker c.push_more.result
    (λ last.
    three_parts start c.push_with_text.new.output.items c.push_with_text-2.new.output.items c.push_more.new.output.items
    (codes " fragment id " ++ decimal c.from.result) (codes " offset " ++ decimal (8 * c.from-2.result))
    (more_text c.args.more) c.in_ok-push_with_text.ensures.text c.in_ok-push_with_text-2.ensures.text last
    ∙ (λ i. start ++ ((codes " fragment id " ++ decimal (c.from.ensures i))
    ++ (codes " offset " ++ decimal (8 * c.from-2.ensures i)) ++ more_text c.args.more))) c.push_more.ensures
