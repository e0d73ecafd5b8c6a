use Rattle.std.proofs.Common.{◌++◌, ◌∙◌}
use Rattle.std.proofs.lemmas.Result.{on_ok_weaker}
use Rattle.std.specs.Prelude.{codes}
use Rattle.std.specs.Fmt.{decimal}
use Rattle.refusal_texts.specs.ReasonTexts.{limit_text}
use Rattle.refusal_texts.proofs.PartLemmas.{three_parts}
use Rattle.refusal_texts.proofs.push_limit.Goals as goal

pub returns : goal.returns
unfolding limit_text
returns c =
    let start = c.args.output.now.items in
    let name = c.as_bytes.ensures.value ∙ c.name.ensures in
    let offset = codes ", offset " ++ decimal c.args.error.now.layer_start_offset in
    on_ok_weaker c.push_with_text.result
    (λ last.
    three_parts start c.extend_from_slice.new.self.items c.extend_from_slice-2.new.self.items
    c.push_with_text.new.output.items (codes " there (limit ") c.as_bytes.result.now offset
    c.in_ok-extend_from_slice.ensures.items c.in_ok-extend_from_slice-2.ensures.items last
    ∙ (λ i. start ++ (codes " there (limit " ++ name i ++ offset))) c.push_with_text.ensures.text
