use Rattle.std.proofs.Common.{Some, ap, subst, ◌∙◌}
use Rattle.filter_tokens.specs.declared.token.TokenKind.{TokenKind}
use Rattle.filter_tokens.specs.ShownTokens.{shown_token}
use Rattle.filter_language.specs.declared.mode.Mode.{Mode}
use Rattle.filter_language.specs.Parsing.{IsFrames, state_of}
use Rattle.filter_language.specs.States.{left_of_and, left_of_or, read_after}
use Rattle.filter_language.proofs.AcceptLemmas.{joined_frames}
use Rattle.filter_language.proofs.parser.Parser.read_after.Goals as goal

pub returns-in_ok-join_and-in-And : goal.returns-in_ok-join_and-in-And
returns-in_ok-join_and-in-And c = λ frames text shown complete.
    let old = c.args.self.now in
    let r =
    joined_frames old.stack c.join_and.new.self frames old.head old.only_values left_of_and shown.0
    (subst (λ (m : Mode). IsFrames m frames) complete shown.1) (λ inner e none. none)
    (λ inner e are. c.in_ok-join_and-in-And.ensures.ok inner e are) in (
      r.0,
      r.1,
      ap (λ (k : TokenKind). read_after (Some (state_of old frames)) (shown_token k text)) c.in-And.is ∙ r.2,
    )

pub returns-in_ok-join_or-in-Or : goal.returns-in_ok-join_or-in-Or
returns-in_ok-join_or-in-Or c = λ frames text shown complete.
    let old = c.args.self.now in
    let r =
    joined_frames old.stack c.join_or.new.self frames old.head old.only_values left_of_or shown.0
    (subst (λ (m : Mode). IsFrames m frames) complete shown.1) (λ inner e none. none)
    (λ inner e are. c.in_ok-join_or-in-Or.ensures.ok inner e are) in (
      r.0,
      r.1,
      ap (λ (k : TokenKind). read_after (Some (state_of old frames)) (shown_token k text)) c.in-Or.is ∙ r.2,
    )
