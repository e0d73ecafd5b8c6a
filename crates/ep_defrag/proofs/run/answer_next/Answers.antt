use Rattle.std.proofs.Common.{◌≡◌, true, false, sym, ap, ◌∙◌, inl, inr}
use Rattle.std.proofs.lemmas.Bool.{false≢true}
use Rattle.ep_defrag.specs.IpFragments.{fragment_with, reach_of, end_of}
use Rattle.ep_defrag.specs.FragmentRefusals.{is_allocation_failure}
use Rattle.ep_defrag.specs.Runs.{ok_unless}
use Rattle.ep_defrag.proofs.RunLemmas.{no_memory}
use Rattle.ep_defrag.proofs.run.answer_next.Goals as goal

pub returns-then-is_allocation_failure-clause-memory : goal.returns-then-is_allocation_failure-clause-memory
returns-then-is_allocation_failure-clause-memory c accepted holds =
    let wanted : is_allocation_failure c.in-Err.error ≡ true =
    sym c.is_allocation_failure.ensures ∙ c.if-is_allocation_failure.true in
    let inside = c.fragment.inside in
    let fragment = fragment_with inside.offset inside.more_fragments inside.payload.now in
    rw (← c.fragment.view_is)
    (elim (c.in-Err.ensures.refused accepted holds) [
      | inl refused ↦ absurd
          (false≢true (sym
          (no_memory 65535 (end_of accepted) (reach_of accepted) fragment c.in-Err.error refused)
          ∙ wanted))
      | inr wanting ↦ wanting.0
    ])

pub returns-else-is_allocation_failure-clause-answer : goal.returns-else-is_allocation_failure-clause-answer
returns-else-is_allocation_failure-clause-answer c accepted holds =
    let other : is_allocation_failure c.in-Err.error ≡ false =
    sym c.is_allocation_failure.ensures ∙ c.if-is_allocation_failure.false in
    rw (← c.fragment.view_is)
    (elim (c.in-Err.ensures.refused accepted holds) [
      | inl refused ↦ ap ok_unless (sym refused)
      | inr wanting ↦ absurd (false≢true (sym other ∙ ap is_allocation_failure wanting.1))
    ])

pub returns-else-is_allocation_failure-clause-holds : goal.returns-else-is_allocation_failure-clause-holds
returns-else-is_allocation_failure-clause-holds c accepted holds =
    let other : is_allocation_failure c.in-Err.error ≡ false =
    sym c.is_allocation_failure.ensures ∙ c.if-is_allocation_failure.false in
    rw (← c.fragment.view_is)
    (elim (c.in-Err.ensures.refused accepted holds) [
      | inl refused ↦ rw refused (c.in-Err.ensures.keeps accepted holds)
      | inr wanting ↦ absurd (false≢true (sym other ∙ ap is_allocation_failure wanting.1))
    ])
