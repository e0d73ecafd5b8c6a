use Rattle.std.proofs.Common.{◌≡◌, ◌++◌, ◌∙◌, ap, sym, take, drop, append_assoc, take-append-drop, arith}
use Rattle.std.proofs.KnownBytes.{Appends-trans}
use Rattle.std.proofs.lemmas.Grind.{common_steps}
use Rattle.line_io.proofs.watched.Watched.write_all.Goals as goal

pub parts-preserved : goal.parts-preserved
parts-preserved g c =
    let written = c.parts.invariant.0 in
    let before = c.parts.invariant.4 in
    let kept = c.in_ok-count.ensures.reads in
    let taken = take c.in_ok-count.count c.parts.rest.now in
    let parts : c.args.bytes.now ≡ (written ++ taken) ++ drop c.in_ok-count.count c.parts.rest.now =
    c.parts.invariant.2 ∙ ap (λ t. written ++ t) (sym (take-append-drop c.in_ok-count.count c.parts.rest.now))
    ∙ sym (append_assoc written taken (drop c.in_ok-count.count c.parts.rest.now)) in (
      written ++ taken,
      Appends-trans _ _ _ written taken c.parts.invariant.1 c.in_ok-count.ensures.bytes,
      grind (arith, common_steps, parts),
      grind arith,
      (kept.0 ∙ before.0, kept.1 ∙ before.1),
    )

pub returns-clause-all : goal.returns-clause-all
returns-clause-all g c = grind (arith, common_steps)
