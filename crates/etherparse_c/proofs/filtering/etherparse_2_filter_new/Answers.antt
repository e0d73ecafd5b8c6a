use Rattle.etherparse_c.proofs.FilterLemmas.{refused}
use Rattle.etherparse_c.proofs.filtering.etherparse_2_filter_new.Goals as goal

pub returns-else-part-eq0 : goal.returns-else-part-eq0
returns-else-part-eq0 c =
    let text = c.in-Ok.ensures.cases in
    refused c.args.text.now c.in-Ok.text.now c.args.filter.now c.in-Err-parse.refused c.filter_error_part-part.result text.0
    text.1 c.in-Err-parse.ensures.err c.filter_error_part-part.ensures c.if-part-eq0.false
