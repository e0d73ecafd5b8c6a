use Rattle.std.proofs.Common.{◌≡◌, ◌++◌, drop}
use Rattle.std.specs.String.{string_bytes}
use Rattle.packet_dump.specs.SummaryTexts.{links_text}
use Rattle.packet_dump.proofs.summary.push_unread_link_types.Given as goal

-- The text so far, with that of the remaining link types, is the complete text.
abbrev pub invariant-loop-link_type : goal.invariant-loop-link_type
invariant-loop-link_type l =
    string_bytes l.text ++ links_text (drop l.link_type-index l.unread)
    ≡ string_bytes l.initial.text ++ links_text l.unread
