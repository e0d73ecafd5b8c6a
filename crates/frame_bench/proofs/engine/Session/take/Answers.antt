use Rattle.std.proofs.Common.{◌≡◌, ◌∷◌, ◌++◌, ◌∙◌, [], ap, refl, sym, append_assoc}
use Rattle.line_io.specs.Lines.{line_feed}
use Rattle.frame_bench.proofs.StreamLemmas.{AdvancesTo-line, AdvancesTo-none, AdvancesTo-rest}
use Rattle.frame_bench.proofs.engine.Session.take.Goals as goal

pub lines-init : goal.lines-init
lines-init c = (
  [],
  refl,
  λ before kept.
      rw c.clear.ensures.items
      (AdvancesTo-none before c.args.self.now.line.items c.args.self.now.pool c.requires kept),
)

pub lines-preserved : goal.lines-preserved
lines-preserved c =
    let known = c.lines.invariant in
    let end = c.in-Some.end.now in
    let after = c.in-Some.after.now in
    let ended = c.in_ok-end_line.ensures in
    let parts : c.args.piece.now ≡ (known.0 ++ (end ++ line_feed ∷ [])) ++ after =
    known.1 ∙ ap (λ t. known.0 ++ t) (c.in-Some.ensures.some.1 ∙ sym (append_assoc end (line_feed ∷ []) after))
    ∙ sym (append_assoc known.0 (end ++ line_feed ∷ []) after) in (
      known.0 ++ (end ++ line_feed ∷ []),
      parts,
      λ before kept.
          let first = known.2 before kept in
          let lines = before ++ first.0.ended in
          let answer = ended.answer lines first.1 in
          rw (answer.2, ended.line)
          (AdvancesTo-line before c.args.self.now.line.items known.0 c.lines.self.output.items
          c.lines.self.line.items end answer.0 c.end_line.new.self.pool first.0 c.in-Some.ensures.some.0 answer.1
          (ended.holds lines first.1)),
    )

pub returns : goal.returns
returns c = λ before kept.
    let known = c.lines.invariant in
    let first = known.2 before kept in
    rw (c.in_ok-extend_from_slice.ensures.items, known.1)
    (AdvancesTo-rest before c.args.self.now.line.items known.0 c.lines.self.output.items c.lines.self.line.items
    c.lines.rest.now c.lines.self.pool first c.in_default.ensures.none)
