use Rattle.std.proofs.Common.{◌≡◌, ◌++◌, drop}
use Rattle.packet_text.specs.PacketDetails.{tags_details}
use Rattle.packet_text.proofs.details.push_tags_details.Given as goal

-- The output, with the text of the remaining link extensions, is the result.
abbrev pub invariant-loop-extension : goal.invariant-loop-extension
invariant-loop-extension l =
    l.output.items ++ tags_details (drop l.extension-index l.extensions)
    ≡ l.initial.output.items ++ tags_details l.extensions
