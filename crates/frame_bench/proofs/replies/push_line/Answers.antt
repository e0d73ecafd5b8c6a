use Rattle.std.proofs.Common.{◌∷◌, ◌++◌, ◌∙◌, [], ap, append_assoc}
use Rattle.line_io.specs.Lines.{line_feed}
use Rattle.frame_bench.proofs.replies.push_line.Goals as goal

pub returns-clause-answer : goal.returns-clause-answer
returns-clause-answer c = λ before kept.
    let answer = c.in_ok-push_answer.ensures.answer before kept in
    let old = c.args.output.now.items in (
      answer.0,
      answer.1,
      c.in_ok-push.ensures.items ∙ ap (λ t. t ++ line_feed ∷ []) answer.2
          ∙ append_assoc old answer.0 (line_feed ∷ []),
    )
