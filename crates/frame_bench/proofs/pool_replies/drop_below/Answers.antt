use Rattle.std.proofs.Common.{rules, of_calls, nat_le, ◌∙◌}
use Rattle.etherparse.specs.Calls.{drops_streams}
use Rattle.etherparse.proofs.PoolLemmas.{holds_one_more}
use Rattle.frame_bench.specs.LineCalls.{table_after_lines}
use Rattle.frame_bench.proofs.pool_replies.drop_below.Goals as goal

pub returns : goal.returns
returns c = λ history kept. record {
  limit = c.retain.ensures.answered.limit ∙ kept.limit;
  table = holds_one_more c.one_more_call.ensures c.retain.new.self history.limit history.calls
      (drops_streams c.args.timestamp) (c.retain.ensures.holds (table_after_lines history) kept.table
      (nat_le c.args.timestamp) (λ timestamp answer met. search (rules, of_calls)));
}
