use Rattle.std.proofs.Common.{◌∙◌, ap, option_copied}
use Rattle.ep_base.specs.Tables.{first_row}
use Rattle.capture_reader.proofs.InterfaceLemmas.{interface_of_values, rows_of_values, values_of_options}
use Rattle.capture_reader.proofs.interface.Interface.from_body.Goals as goal

pub returns-in-Ok-clause-none : goal.returns-in-Ok-clause-none
returns-in-Ok-clause-none c =
    let parse = c.parse-options in
    let values = values_of_options c.args.order c.args.body.now parse.result.ended
    (option_copied parse.result.resolution) (option_copied parse.result.offset) parse.ensures.resolution
    parse.ensures.offset parse.ensures.ended in
    ap first_row (rows_of_values c.args.order c.args.body.now _ _ _ _ values) ∙ c.in-Ok.ensures.none

pub returns-in-Ok-clause-ok : goal.returns-in-Ok-clause-ok
returns-in-Ok-clause-ok c =
    let parse = c.parse-options in
    let values = values_of_options c.args.order c.args.body.now parse.result.ended
    (option_copied parse.result.resolution) (option_copied parse.result.offset) parse.ensures.resolution
    parse.ensures.offset parse.ensures.ended in
    interface_of_values c.args.order c.args.body.now _ _ _ _ c.in-Ok.about values
    (c.in-Ok.ensures.link_type ∙ c.word16-link_type.ensures) (c.in-Ok.ensures.snap_len ∙ c.word32-snap_len.ensures)
    c.in-Ok.ensures.per_second c.in-Ok.ensures.offset

pub returns-in-Err-clause-err : goal.returns-in-Err-clause-err
returns-in-Err-clause-err c =
    let parse = c.parse-options in
    let values = values_of_options c.args.order c.args.body.now parse.result.ended
    (option_copied parse.result.resolution) (option_copied parse.result.offset) parse.ensures.resolution
    parse.ensures.offset parse.ensures.ended in
    ap first_row (rows_of_values c.args.order c.args.body.now _ _ _ _ values) ∙ c.in-Err.ensures.err
