use Rattle.std.proofs.Common.{Some, inl, refl, ap, ◌∙◌}
use Rattle.etherparse_c.specs.declared.bounded_pool.BoundedPool.{BoundedPool}
use Rattle.etherparse_c.specs.declared.bounded_state.BoundedState.{BoundedState}
use Rattle.etherparse_c.proofs.bounded_pooling.store_pool.Goals as goal

pub returns : goal.returns
returns c =
    let pointer = ap (λ (pool : BoundedPool). pool.pointer.state) c.in-Ok-new.ensures.ok in
    let state = pointer ∙ c.pointer_to.ensures ∙ ap (λ (state : BoundedState). Some state) c.in-Ok.ensures.ok in
    let handle = c.of-2.ensures ∙ ap (λ (pool : BoundedPool). Some pool) c.of.ensures in
    inl (refl, (c.in-Ok-new.made.value, handle, state))
