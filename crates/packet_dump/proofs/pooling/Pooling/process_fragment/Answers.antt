use Rattle.std.proofs.Common.{None, refl, sym}
use Rattle.std.proofs.lemmas.List.{append-nil}
use Rattle.std.proofs.lemmas.Result.{on_ok_weaker}
use Rattle.etherparse.specs.BoundedSteps.{clears_names}
use Rattle.packet_dump.proofs.PoolLemmas.{holds_step, is_zero, not_zero, processes_fragment}
use Rattle.packet_dump.proofs.pooling.Pooling.process_fragment.Goals as goal

pub returns-then-options-eq0 : goal.returns-then-options-eq0
returns-then-options-eq0 c =
    let old = c.args.self.now in
    let between = record old { pool = c.process_fragment-answer.new.self } in
    let new = record old { pool = c.clear.new.self } in
    let number = c.args.packet.now.captured.number in
    let zero = is_zero c.args.options.now.streams c.if-options-eq0.true in
    on_ok_weaker c.push_cleared.result
    (λ cleared.
    processes_fragment c.args.options.now c.args.packet.now old between new c.args.carried.name c.args.carried.fragment
    c.process_fragment-answer.result c.args.output.now.items _ _ _ c.requires
    c.process_fragment-answer.ensures.takes c.in_ok-push_answer.ensures.memory refl
    (rw c.evicted.ensures.shown at c.in_ok-check_memory.ensures)
    (rw c.evicted-2.ensures.shown at c.in_ok-push_evictions.ensures) c.in_ok-push_answer.ensures.text
    (λ history holds.
    rw zero (holds_step between new history clears_names number history.swept None holds
    (c.clear.ensures.step history.rows number holds.rows) holds.swept))
    (rw zero (cleared c.args.carried.name c.args.carried.fragment c.requires))) c.push_cleared.ensures

pub returns : goal.returns
returns c =
    let old = c.args.self.now in
    let between = record old { pool = c.process_fragment-answer.new.self } in
    let some = not_zero c.args.options.now.streams c.if-options-eq0.false in
    processes_fragment c.args.options.now c.args.packet.now old between between c.args.carried.name
    c.args.carried.fragment c.process_fragment-answer.result c.args.output.now.items _ _ _ c.requires
    c.process_fragment-answer.ensures.takes c.in_ok-push_answer.ensures.memory refl
    (rw c.evicted.ensures.shown at c.in_ok-check_memory.ensures)
    (rw c.evicted-2.ensures.shown at c.in_ok-push_evictions.ensures) c.in_ok-push_answer.ensures.text
    (λ history holds. rw some holds)
    (rw some (sym (append-nil _)))
