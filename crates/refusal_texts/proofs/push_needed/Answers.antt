use Rattle.std.proofs.Common.{◌++◌, ◌∙◌}
use Rattle.std.proofs.lemmas.Result.{on_ok_weaker}
use Rattle.std.specs.Prelude.{codes}
use Rattle.std.specs.Fmt.{decimal}
use Rattle.refusal_texts.specs.ReasonTexts.{needed_text}
use Rattle.refusal_texts.proofs.PartLemmas.{three_parts}
use Rattle.refusal_texts.proofs.push_needed.Goals as goal

pub returns : goal.returns
unfolding needed_text
returns c =
    let start = c.args.output.now.items in
    let error = c.args.error.now in
    let name = c.as_bytes.ensures.value ∙ c.name.ensures in
    let needed = codes ": " ++ decimal error.required_len in
    let present = codes " bytes needed, " ++ decimal error.len in
    on_ok_weaker c.push_with_text-2.result
    (λ last.
    three_parts start c.extend_from_slice.new.self.items c.push_with_text.new.output.items
    c.push_with_text-2.new.output.items c.as_bytes.result.now needed present c.in_ok-extend_from_slice.ensures.items
    c.in_ok-push_with_text.ensures.text last
    ∙ (λ i. start ++ (name i ++ needed ++ present))) c.push_with_text-2.ensures.text
