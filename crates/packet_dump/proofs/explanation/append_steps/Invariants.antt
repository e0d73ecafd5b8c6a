use Rattle.std.proofs.Common.{◌≡◌, ◌++◌, drop}
use Rattle.packet_dump.specs.Explanations.{steps_text}
use Rattle.packet_dump.proofs.explanation.append_steps.Given as goal

-- Steps are numbered in order, and the text so far, with the lines of the remaining steps, is the complete text.
abbrev pub invariant-loop-step : goal.invariant-loop-step
invariant-loop-step l =
    (l.number ≡ l.step-index)
    × (l.output.items ++ steps_text l.number (drop l.step-index l.steps)
    ≡ l.initial.output.items ++ steps_text 0 l.steps)
