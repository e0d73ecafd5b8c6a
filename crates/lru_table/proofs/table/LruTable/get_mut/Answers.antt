use Rattle.std.proofs.Common.{◌≡◌, ◌⊎◌, inl, refl}
use Rattle.lru_table.proofs.TableLemmas.{reversed, table_kept, below_kept}
use Rattle.lru_table.proofs.table.LruTable.get_mut.Goals as goal

same_loan : {G A B C : Type 0} (name : G) (f h : A → B) → ((w : A) → f w ≡ h w)
    → ◌≡◌ {A = (G × (A → B)) ⊎ C} (inl (name, f)) (inl (name, h))
same_loan name f h e = λ i. inl (name, λ w. e w i)

pub invariant_of-self-lent : goal.invariant_of-self-lent
invariant_of-self-lent g c = λ w.
    let at = reversed c.args.slot c.self.inside.cache.entries c.self.invariant.0.distinct in
    let kept = at.keeps_written c.in-Some.field-0.now w c.in-Some.ensures.value in (
      table_kept g.K.PartialEq.eq _ _ c.self.invariant.0 kept,
      c.self.invariant.1,
      c.self.invariant.2,
      below_kept
          c.self.inside.numbers _ _ c.self.invariant.3 kept,
    )

pub returns-in-Some : goal.returns-in-Some
returns-in-Some g c =
    let at = reversed c.args.slot c.self.inside.cache.entries c.self.invariant.0.distinct in
    rw (← c.self.view_is) (
      same_loan _ _ _ (λ w. at.written c.in-Some.field-0.now w c.in-Some.ensures.value),
      record { writes_back = tt; value = rw (← at.value, ← c.in-Some.ensures.value) refl },
    )

pub returns-in-None : goal.returns-in-None
returns-in-None g c =
    let at = reversed c.args.slot c.self.inside.cache.entries c.self.invariant.0.distinct in
    rw (← c.self.view_is) (refl, record { writes_back = tt; value = rw (← at.value, ← c.in-None.ensures.value) refl })
