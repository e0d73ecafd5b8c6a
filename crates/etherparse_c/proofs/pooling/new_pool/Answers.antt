use Rattle.std.proofs.Common.{Some, inl, refl, ap, ◌∙◌}
use Rattle.etherparse_c.specs.declared.pool.Pool.{Pool}
use Rattle.etherparse_c.specs.declared.state.State.{State}
use Rattle.etherparse_c.proofs.pooling.new_pool.Goals as goal

pub returns : goal.returns
returns c =
    let pointer = ap (λ (pool : Pool). pool.pointer.state) c.in-Ok-new.ensures.ok in
    let state = pointer ∙ c.pointer_to.ensures ∙ ap (λ (state : State). Some state) c.in-Ok.ensures.ok in
    let handle = c.of-2.ensures ∙ ap (λ (pool : Pool). Some pool) c.of.ensures in
    inl (refl, (c.in-Ok-new.made.value, handle, (c.empty_state.result, state, c.empty_state.ensures)))
