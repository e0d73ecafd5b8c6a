use Rattle.std.proofs.Common.{◌≡◌, ◌++◌, drop}
use Rattle.packet_text.specs.TcpDetails.{sack_blocks_text}
use Rattle.packet_text.proofs.tcp_details.push_sack_blocks.Given as goal

-- The output, with the text of the remaining SACK blocks, is the result.
abbrev pub invariant-loop-place : goal.invariant-loop-place
invariant-loop-place l =
    l.output.items ++ sack_blocks_text (drop l.place-index l.places) ≡ l.initial.output.items ++ sack_blocks_text l.places
