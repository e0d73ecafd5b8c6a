use Rattle.std.proofs.Common.{◌∙◌}
use Rattle.frame_bench.specs.LineCalls.{table_after_lines}
use Rattle.frame_bench.proofs.pool_replies.give_back.Goals as goal

pub returns-in-Ok-Some : goal.returns-in-Ok-Some
returns-in-Ok-Some c = λ history kept. record {
  limit = c.return_buf.ensures.limit ∙ kept.limit;
  table = c.return_buf.ensures.holds (table_after_lines history) kept.table;
}
