-- The argument is read as the value of an option.
use Rattle.std.proofs.Common.{Option, subst, sym}
use Rattle.packet_dump.specs.OptionSteps.{IsStepResult, reading_state, step_from}
use Rattle.packet_dump.specs.declared.options.Awaited.{Awaited}
use Rattle.packet_dump.proofs.options.Reading.push.Goals as goal

pub returns-in-Some : goal.returns-in-Some
returns-in-Some c =
    let state = reading_state c.args.self.now in
    subst (λ (a : Option Awaited). IsStepResult (step_from state c.args.text.now a)
    (reading_state c.push_value.new.self)
    c.push_value.result)
    (sym c.in-Some.is) c.push_value.ensures
