use Rattle.std.proofs.Common.{ℕ, nat_eq, None, refl, subst}
use Rattle.etherparse.specs.BoundedPools.{DoesStep}
use Rattle.etherparse.specs.BoundedSteps.{expires_names}
use Rattle.etherparse_c.proofs.bounded_pooling.expire.Goals as goal

pub returns : goal.returns
returns c =
    let old = c.args.state.now.pool in
    let new = c.expire.new.self in
    record {
      does = record {
        step = λ rows number kept.
            subst (λ (now : ℕ). DoesStep nat_eq old new (expires_names now c.args.idle) number None rows)
            c.from-time.ensures
            (subst (λ (idle : ℕ). DoesStep nat_eq old new (expires_names c.from-time.result idle) number None rows)
            c.from-longest.ensures (c.expire.ensures.step rows number kept));
        bounded = c.expire.ensures.bounded;
        waiting = refl;
      };
      counted = c.expire.ensures.count;
    }
