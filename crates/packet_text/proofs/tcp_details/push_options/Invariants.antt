use Rattle.etherparse.specs.TcpOptionSteps.{options_left}
use Rattle.packet_text.proofs.TcpLemmas.{IsAppending}
use Rattle.packet_text.proofs.tcp_details.push_options.Given as goal

abbrev pub invariant-loop-item : goal.invariant-loop-item
invariant-loop-item l =
    IsAppending l.initial.output.items l.output.items (options_left l.fn.options) (options_left l.item-iterator)
    × (goal.iterator-loop-item).can_next l.item-iterator
    × (goal.iterator-loop-item).is_finite l.item-iterator
