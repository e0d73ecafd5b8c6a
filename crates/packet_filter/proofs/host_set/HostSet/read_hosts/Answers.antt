use Rattle.std.proofs.Common.{refl, arith}
use Rattle.packet_filter.proofs.HostLemmas.{one_host, set_begins}
use Rattle.packet_filter.proofs.host_set.HostSet.read_hosts.Goals as goal

pub hosts-preserved : goal.hosts-preserved
hosts-preserved c =
    one_host c.args.layer c.args.side c.args.width c.in-Some.number c.args.steps.now c.hosts.rest.now
    c.split_steps.result.1.now c.hosts.numbers.items c.push.new.self.items c.hosts.invariant c.in-Some.ensures
    c.split_steps.ensures.later c.in_ok-push.ensures.items

pub returns : goal.returns
returns c =
    set_begins _ c.args.steps.now c.hosts.rest.now c.hosts.numbers.items c.hosts.invariant refl refl
    (omega (arith, c.if-len-lt-LEAST_HOSTS.false, c.len.ensures))
    c.sort_unstable.ensures.permutation c.requires.side
