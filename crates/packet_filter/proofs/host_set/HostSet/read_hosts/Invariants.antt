use Rattle.std.proofs.Common.{length}
use Rattle.packet_filter.proofs.HostLemmas.{HasRead}
use Rattle.packet_filter.proofs.host_set.HostSet.read_hosts.Given as goal

-- The steps begin with the hosts whose numbers are pushed.
abbrev pub invariant-hosts : goal.invariant-hosts
invariant-hosts l = HasRead l.layer l.side l.width l.steps l.rest l.numbers.items

abbrev pub decreases-hosts : goal.decreases-hosts
decreases-hosts l = length l.rest
