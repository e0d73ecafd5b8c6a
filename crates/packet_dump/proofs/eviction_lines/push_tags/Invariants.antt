use Rattle.std.proofs.Common.{◌≡◌, ◌++◌, drop}
use Rattle.packet_dump.specs.EvictionLines.{tags_text}
use Rattle.packet_dump.proofs.eviction_lines.push_tags.Given as goal

-- The text so far, with that of the remaining identifiers, is the complete text.
abbrev pub invariant-loop-vlan_id : goal.invariant-loop-vlan_id
invariant-loop-vlan_id l =
    l.output.items ++ tags_text (drop l.vlan_id-index l.vlan_ids) ≡ l.initial.output.items ++ tags_text l.vlan_ids
