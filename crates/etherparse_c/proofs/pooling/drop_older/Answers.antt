use Rattle.std.proofs.Common.{rules, of_calls, nat_le, refl}
use Rattle.etherparse_c.proofs.pooling.drop_older.Goals as goal

pub returns : goal.returns
returns c = record {
  holds = λ table holds.
      c.retain.ensures.holds table holds (nat_le c.args.timestamp)
      (λ timestamp answer met. search (rules, of_calls));
  limit = c.retain.ensures.answered.limit;
  waiting = refl;
}
