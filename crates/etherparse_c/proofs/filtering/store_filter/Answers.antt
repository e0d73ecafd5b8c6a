use Rattle.etherparse_c.proofs.filtering.store_filter.Goals as goal
use Rattle.std.proofs.Common.{Some, ap, inl, refl, ◌∙◌}

pub returns : goal.returns
returns c =
    inl (
      refl,
      (
        c.in-Ok-new.made.value,
        c.of-2.ensures ∙ ap Some c.of.ensures,
        ap (λ kept. kept.pointer.filter) c.in-Ok-new.ensures.ok ∙ c.pointer_to.ensures ∙ ap Some c.in-Ok.ensures.ok,
      ),
    )
