use Rattle.std.proofs.Common.{◌≤◌, None, length, arith, rules}
use Rattle.filter_language.specs.Grammar.{most_bytes}
use Rattle.filter_language.proofs.ParseLemmas.{empty_filter, ends_early, none_read, read_more, refuses_token, complete_filter}
use Rattle.filter_language.proofs.parser.parse.Goals as goal

pub loop-parser-init : goal.loop-parser-init
loop-parser-init c =
    (omega arith, none_read c.args.text.now c.new-parser.result c.new-parser.ensures.0 c.new-parser.ensures.1)

pub returns-then-at-eq0-clause-ok : goal.returns-then-at-eq0-clause-ok
returns-then-at-eq0-clause-ok c =
    let small : length c.args.text.now ≤ most_bytes = search rules in
    let read = c.token_at-token.ensures in (
      None,
      empty_filter c.args.text.now c.loop-parser.at c.loop-parser.parser c.token_at-token.result
          c.loop-parser.invariant.1 (read.start, read.order.2, read.some, read.token) c.in-End.is small (search rules),
      c.new.ensures.items,
    )

pub returns-in-Ok-clause-ok : goal.returns-in-Ok-clause-ok
returns-in-Ok-clause-ok c =
    let small : length c.args.text.now ≤ most_bytes = search rules in
    let read = c.token_at-token.ensures in
    complete_filter c.args.text.now c.loop-parser.at c.loop-parser.parser c.token_at-token.result c.in-Ok.steps.items
    c.loop-parser.invariant.1 (read.start, read.order.2, read.some, read.token) c.in-End.is small c.in-Ok.ensures

pub returns-in-Err-clause-err : goal.returns-in-Err-clause-err
returns-in-Err-clause-err c =
    let small : length c.args.text.now ≤ most_bytes = search rules in
    let read = c.token_at-token.ensures in
    ends_early c.args.text.now c.loop-parser.at c.loop-parser.parser c.token_at-token.result c.in-Err.kind
    c.error_at_end.result c.loop-parser.invariant.1 (read.start, read.order.2, read.some, read.token) c.in-End.is small
    (search rules) c.in-Err.ensures c.error_at_end.ensures

pub loop-parser-preserved : goal.loop-parser-preserved
loop-parser-preserved c =
    let read = c.token_at-token.ensures in (
      read.order.2,
      read_more c.args.text.now c.loop-parser.at c.loop-parser.parser c.accept.new.self c.token_at-token.result
          c.loop-parser.invariant.1 (read.start, read.order.2, read.some, read.token) c.in_default.not-End
          c.in-Ok-accept.ensures,
    )

pub returns-in-Err-accept : goal.returns-in-Err-accept
returns-in-Err-accept c =
    let small : length c.args.text.now ≤ most_bytes = search rules in
    let read = c.token_at-token.ensures in record {
      ok = tt;
      err = refuses_token c.args.text.now c.loop-parser.at c.loop-parser.parser c.token_at-token.result
          c.in-Err-accept.kind c.loop-parser.invariant.1 (read.start, read.order.2, read.some, read.token)
          c.in_default.not-End small c.in-Err-accept.ensures;
      place = (read.order.1, read.order.2);
    }
