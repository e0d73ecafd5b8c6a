use Rattle.std.proofs.Common.{◌≡◌, ◌++◌, map, drop}
use Rattle.std.specs.String.{string_bytes}
use Rattle.packet_dump.specs.Summaries.{plain_count}
use Rattle.packet_dump.specs.SummaryTexts.{errors_text}
use Rattle.packet_dump.proofs.summary.push_errors.Given as goal

-- The text so far, with that of the remaining errors, is the complete text.
abbrev pub invariant-loop-name : goal.invariant-loop-name
invariant-loop-name l =
    string_bytes l.text ++ errors_text (map plain_count (drop l.name-index l.errors))
    ≡ string_bytes l.initial.text ++ errors_text (map plain_count l.errors)
