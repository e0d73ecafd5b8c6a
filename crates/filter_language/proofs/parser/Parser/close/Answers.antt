use Rattle.std.proofs.Common.{subst}
use Rattle.filter_language.specs.declared.mode.Mode.{Mode}
use Rattle.filter_language.specs.Parsing.{IsFrames}
use Rattle.filter_language.proofs.CloseLemmas.{closed_frames}
use Rattle.filter_language.proofs.parser.Parser.close.Goals as goal

pub returns-in-Some : goal.returns-in-Some
returns-in-Some c = λ frames shown complete.
    closed_frames c.args.self.now.stack c.close.new.self frames c.in-Some.head c.in-Some.only_values c.in_ok-head.field-0
    c.in-Some.is shown.0 (subst (λ (m : Mode). IsFrames m frames) complete shown.1)
    (λ inner e are none. c.in_ok-head.ensures.ok inner e are none)
