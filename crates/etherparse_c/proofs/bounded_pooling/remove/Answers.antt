use Rattle.std.proofs.Common.{◌∙◌, inr, refl, subst, sym}
use Rattle.etherparse.specs.BoundedCounts.{FitCounters}
use Rattle.etherparse_c.proofs.RemovalLemmas.{keeps_names}
use Rattle.etherparse_c.proofs.bounded_pooling.remove.Goals as goal

pub returns-else-remove : goal.returns-else-remove
returns-else-remove c =
    let fit = subst FitCounters c.statistics.ensures.shown c.counters_fit.ensures in
    inr (
      refl,
      record {
        keeps = λ rows kept.
            keeps_names _ rows c.in-Some.ensures (sym (c.remove.ensures.present rows kept) ∙ c.if-remove.false) fit kept
            (c.remove.ensures.step rows 0 kept);
        bounded = c.remove.ensures.bounded;
        waiting = refl;
      },
    )
