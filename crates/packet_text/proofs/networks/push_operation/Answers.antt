use Rattle.std.proofs.Common.{◌≡◌, ◌≢◌, ◌==◌, ◌++◌, ℕ, List, if◌then◌else◌, arith, ap, sym, ◌∙◌}
use Rattle.std.proofs.lemmas.Result.{on_ok_weaker}
use Rattle.std.specs.Prelude.{codes}
use Rattle.std.specs.Fmt.{decimal}
use Rattle.packet_text.proofs.networks.push_operation.Goals as goal

-- A number that is neither 1 nor 2 takes the last case.
neither : (number : ℕ) (a b other : List ℕ) → number ≢ 1 → number ≢ 2
    → (if number == 1 then a else (if number == 2 then b else other)) ≡ other
neither number a b other first second = grind (arith, first, second)

pub returns : goal.returns
returns c =
    let start = c.args.output.now.items in
    on_ok_weaker c.push_with_text.result
    (λ last.
    last ∙ (λ i. start ++ (codes " arp operation " ++ decimal (c.from.ensures i)))
    ∙ ap (λ (t : List ℕ). start ++ t) (sym (neither c.args.operation _ _ _ c.if-operation-eq1.false c.if-operation-eq2.false)))
    c.push_with_text.ensures.text
