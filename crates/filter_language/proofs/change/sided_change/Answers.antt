use Rattle.std.proofs.Common.{sym, ◌∙◌}
use Rattle.filter_language.proofs.ChangeLemmas.{values_of_side}
use Rattle.filter_language.proofs.change.sided_change.Goals as goal

pub returns-in-Some : goal.returns-in-Some
returns-in-Some c = record {
  value = λ most state text.
      values_of_side most state c.args.sided c.args.side c.args.kind text c.in-Some.head c.in_default.not-Keyword
      (sym c.in-Some.ensures)
      ∙ c.side_values_change.ensures.value most state text;
  apt = c.side_values_change.ensures.apt c.args.sided c.args.side;
}
