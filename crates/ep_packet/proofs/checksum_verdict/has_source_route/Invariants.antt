use Rattle.std.proofs.Common.{◌≡◌, length}
use Rattle.ep_packet.specs.Verdicts.{has_source_route}
use Rattle.ep_packet.proofs.checksum_verdict.has_source_route.Given as goal

-- A source route is among the remaining options if and only if one is among all of them.
abbrev pub invariant-loop-rest : goal.invariant-loop-rest
invariant-loop-rest l = has_source_route l.rest ≡ has_source_route l.fn.options

abbrev pub decreases-loop-rest : goal.decreases-loop-rest
decreases-loop-rest l = length l.rest
