-- Running the steps of a filter.
use Rattle.std.specs.Prelude.{ℕ, zero, suc, if◌then◌else◌, not, Bool, List, [], ◌∷◌}
use Rattle.filter_language.specs.declared.step.Step.{Step}
use Rattle.filter_language.specs.declared.step.Step.TheVariants as step
use Rattle.packet_filter.specs.Meaning.{matches_primitive}
use Rattle.packet_filter.specs.Packets.{Packet}

-- The value after these steps, if the first `skipped` are skipped. `held` is the value before the steps.
abbrev pub value_after : List Step → (skipped : ℕ) → (held : Bool) → (packet : Packet) → Bool
value_after [] skipped held packet = held
value_after (first ∷ steps) (suc skipped) held packet = value_after steps skipped held packet
value_after (step.Test primitive ∷ steps) zero held packet =
    value_after steps zero (matches_primitive primitive packet) packet
value_after (step.Negate ∷ steps) zero held packet = value_after steps zero (not held) packet
value_after (step.SkipIfFalse skipped ∷ steps) zero held packet =
    value_after steps (if held then 0 else skipped) held packet
value_after (step.SkipIfTrue skipped ∷ steps) zero held packet =
    value_after steps (if held then skipped else 0) held packet
