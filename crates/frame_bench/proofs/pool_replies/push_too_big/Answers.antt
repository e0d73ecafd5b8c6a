use Rattle.std.proofs.Common.{◌∷◌, ◌++◌, ap, append_assoc}
use Rattle.std.specs.Prelude.{codes}
use Rattle.std.specs.Fmt.{decimal}
use Rattle.line_io.specs.Lines.{space}
use Rattle.line_io.proofs.ResultLemmas.{OnOk-appended_two}
use Rattle.frame_bench.proofs.pool_replies.push_too_big.Goals as goal

pub returns : goal.returns
returns c =
    let pair = space ∷ decimal c.args.payload_len in
    let last = space ∷ decimal c.args.max in
    OnOk-appended_two c.push_with_text.result c.args.output.now.items c.push_pair.new.output.items
    c.push_with_text.new.output.items (codes "err too-big " ++ (decimal c.args.offset ++ pair)) last _
    (rw c.from.ensures at c.in_ok-push_pair.ensures) (rw c.from-2.ensures at c.push_with_text.ensures.text)
    (ap (λ t. codes "err too-big " ++ t) (append_assoc (decimal c.args.offset) pair last))
