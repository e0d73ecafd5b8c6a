use Rattle.std.proofs.Common.{Some, ap, subst, sym, ◌∙◌, eqb-true, vec_len}
use Rattle.std.proofs.lemmas.List.{nil_from_length}
use Rattle.filter_language.specs.declared.mode.Mode.{Mode}
use Rattle.filter_language.specs.Parsing.{IsFrames, state_of}
use Rattle.filter_language.specs.States.{State, expression_of}
use Rattle.filter_language.proofs.AcceptLemmas.{ended_frames}
use Rattle.filter_language.proofs.parser.Parser.finish.Goals as goal

pub returns-then-is_empty : goal.returns-then-is_empty
returns-then-is_empty c = λ frames shown.
    let done = c.in_ok-complete.ensures.ok frames shown c.in-Some.ensures.apt in
    let levels = c.complete.new.self.stack.levels in
    let none = eqb-true (vec_len levels) 0 (sym c.is_empty.ensures ∙ c.if-is_empty.true) in
    let innermost = subst (λ (m : Mode). IsFrames m done.0) done.2 done.1.1 in
    let r =
    ended_frames c.complete.new.self.stack done.0 done.1.0 innermost
    (nil_from_length levels.items (sym levels.ok.0 ∙ none)) in (
      r.0,
      ap expression_of (c.in-Some.ensures.value (state_of c.args.self frames))
          ∙ ap (λ (state : State). expression_of (Some state)) done.3 ∙ r.1,
      r.2,
    )
