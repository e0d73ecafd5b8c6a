use Rattle.std.proofs.Common.{◌≡◌, ◌+◌, Bool, true, not, List, drop, refl, ap, sym, ◌∙◌}
use Rattle.std.proofs.lemmas.List.{drop-drop, take_rest}
use Rattle.filter_language.specs.declared.step.Step.{Step}
use Rattle.packet_filter.specs.Running.{value_after}
use Rattle.packet_filter.specs.Shown.{shown_packet}
use Rattle.packet_filter.proofs.FilterLemmas.{goes_on, set_ends, set_goes_on}
use Rattle.packet_filter.proofs.StepLemmas.{compiled_means, first_runs, skips_if_false, skips_if_true, stays_if_false}
use Rattle.packet_filter.proofs.filter.Filter.matches_subject.Goals as goal

pub loop-steps-init : goal.loop-steps-init
loop-steps-init c =
    rw (c.as_slice-steps.ensures.value, c.as_slice-sets.ensures.value, ← c.self.view_is)
    (compiled_means _ _ c.self.invariant.0, (0, refl), c.self.invariant.1)

pub loop-steps-preserved-in-Test : goal.loop-steps-preserved-in-Test
loop-steps-preserved-in-Test c =
    let packet = shown_packet c.args.subject.now in
    let steps : List Step = c.loop-steps.steps.now in
    goes_on c.args.self.now steps _ c.loop-steps.sets.now c.loop-steps.sets.now packet c.loop-steps.holds
    c.matches_primitive-holds.result 1 (take_rest steps 1) (0, refl)
    (ap (λ (list : List Step). value_after list 0 c.matches_primitive-holds.result packet) (take_rest steps 1)
    ∙ first_runs steps c.step-item.result _ c.loop-steps.holds c.matches_primitive-holds.result packet
    c.in-len1-up.len_at_least c.step-item.is c.in-Test.is
    (λ later. ap (λ (value : Bool). value_after later 0 value packet) c.matches_primitive-holds.ensures))
    c.loop-steps.invariant

pub loop-steps-preserved-in-Negate : goal.loop-steps-preserved-in-Negate
loop-steps-preserved-in-Negate c =
    let packet = shown_packet c.args.subject.now in
    let steps : List Step = c.loop-steps.steps.now in
    goes_on c.args.self.now steps _ c.loop-steps.sets.now c.loop-steps.sets.now packet c.loop-steps.holds
    (not c.loop-steps.holds) 1 (take_rest steps 1) (0, refl)
    (ap (λ (list : List Step). value_after list 0 (not c.loop-steps.holds) packet) (take_rest steps 1)
    ∙ first_runs steps c.step-item.result _ c.loop-steps.holds (not c.loop-steps.holds) packet
    c.in-len1-up.len_at_least c.step-item.is c.in-Negate.is (λ later. refl))
    c.loop-steps.invariant

pub loop-steps-preserved-else-holds : goal.loop-steps-preserved-else-holds
loop-steps-preserved-else-holds c =
    let packet = shown_packet c.args.subject.now in
    let skipped = c.in-SkipIfFalse.skipped in
    let steps : List Step = c.loop-steps.steps.now in
    let next : c.later_steps-steps.result.now ≡ drop skipped (drop 1 steps) =
    c.later_steps-steps.ensures ∙ ap (λ (list : List Step). drop skipped list) (take_rest steps 1) in
    goes_on c.args.self.now steps c.later_steps-steps.result.now c.loop-steps.sets.now c.loop-steps.sets.now packet
    c.loop-steps.holds c.loop-steps.holds (1 + skipped) (next ∙ drop-drop skipped 1 steps) (0, refl)
    (ap (λ (list : List Step). value_after list 0 c.loop-steps.holds packet) next
    ∙ skips_if_false steps c.step-item.result skipped c.loop-steps.holds packet c.in-len1-up.len_at_least
    c.step-item.is c.in-SkipIfFalse.is c.if-holds.false)
    c.loop-steps.invariant

pub loop-steps-smaller-then-set-steps : goal.loop-steps-smaller-then-set-steps
loop-steps-smaller-then-set-steps c =
    set_ends c.args.self.now c.loop-steps.steps.now _ c.loop-steps.sets.now c.later_sets-sets.result.now
    (shown_packet c.args.subject.now) c.loop-steps.holds c.set-item.result c.later_sets-sets.ensures
    c.in-len1-up-sets.len_at_least c.set-item.is c.if-set-steps.true c.later_steps-steps-in-len1-up-sets.ensures
    c.in-len1-up.len_at_least c.loop-steps.invariant

pub loop-steps-preserved-then-set-steps : goal.loop-steps-preserved-then-set-steps
loop-steps-preserved-then-set-steps c =
    set_goes_on c.args.self.now c.loop-steps.steps.now _ c.loop-steps.sets.now c.later_sets-sets.result.now
    (shown_packet c.args.subject.now) c.loop-steps.holds _ c.set-item.result c.later_sets-sets.ensures
    c.in-len1-up-sets.len_at_least c.set-item.is c.if-set-steps.true c.later_steps-steps-in-len1-up-sets.ensures
    c.or_matches-holds.ensures c.loop-steps.invariant

pub loop-steps-preserved-then-holds-2 : goal.loop-steps-preserved-then-holds-2
loop-steps-preserved-then-holds-2 c =
    let packet = shown_packet c.args.subject.now in
    let skipped = c.in-SkipIfTrue.skipped in
    let steps : List Step = c.loop-steps.steps.now in
    let next : List Step = c.steps_if_true-steps.result.now in
    let (n, next_is) = c.steps_if_true-steps.ensures.later in
    goes_on c.args.self.now steps next c.loop-steps.sets.now c.later_sets-sets.result.now packet c.loop-steps.holds
    c.loop-steps.holds (1 + n)
    (next_is ∙ ap (λ (list : List Step). drop n list) (take_rest steps 1) ∙ drop-drop n 1 steps)
    c.later_sets-sets.ensures
    (ap (λ (value : Bool). value_after next 0 value packet) c.if-holds-2.true
    ∙ c.steps_if_true-steps.ensures.value packet
    ∙ ap (λ (list : List Step). value_after (drop skipped list) 0 true packet) (take_rest steps 1)
    ∙ skips_if_true steps c.step-item.result skipped true packet c.in-len1-up.len_at_least c.step-item.is
    c.in-SkipIfTrue.is refl
    ∙ sym (ap (λ (value : Bool). value_after steps 0 value packet) c.if-holds-2.true))
    c.loop-steps.invariant

pub loop-steps-preserved : goal.loop-steps-preserved
loop-steps-preserved c =
    let packet = shown_packet c.args.subject.now in
    let steps : List Step = c.loop-steps.steps.now in
    goes_on c.args.self.now steps _ c.loop-steps.sets.now c.later_sets-sets.result.now packet c.loop-steps.holds
    c.loop-steps.holds 1 (take_rest steps 1) c.later_sets-sets.ensures
    (ap (λ (list : List Step). value_after list 0 c.loop-steps.holds packet) (take_rest steps 1)
    ∙ stays_if_false steps c.step-item.result c.in-SkipIfTrue.skipped c.loop-steps.holds packet
    c.in-len1-up.len_at_least c.step-item.is c.in-SkipIfTrue.is c.if-holds-2.false)
    c.loop-steps.invariant
