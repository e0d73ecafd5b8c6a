-- The remaining arguments have the answer of all arguments.
use Rattle.std.proofs.Common.{◌≡◌, drop}
use Rattle.packet_dump.specs.Options.{texts}
use Rattle.packet_dump.specs.OptionSteps.{first_state, reading_state}
use Rattle.packet_dump.proofs.OptionLemmas.{outcome}
use Rattle.packet_dump.proofs.options.parse.Given as goal

abbrev pub invariant-loop-word : goal.invariant-loop-word
invariant-loop-word l =
    outcome (texts (drop l.word-index l.words)) (reading_state l.reading) ≡ outcome (texts l.words) first_state
