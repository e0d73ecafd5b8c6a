-- The error is that of the first text that has one.
use Rattle.std.proofs.Common.{inl, inr, rules, string_bytes}
use Rattle.packet_dump.specs.Filters.{IsFilterFault, IsValidOption, option_places}
use Rattle.packet_dump.proofs.FilterLemmas.{has_expression}
use Rattle.packet_dump.proofs.filters.filter_of.Goals as goal

pub returns-in_err-filter-3-clause-err : goal.returns-in_err-filter-3-clause-err
returns-in_err-filter-3-clause-err c =
    let options = c.args.options in
    let one : IsValidOption options.sixth = search (rules, has_expression, c.in_ok-filter.ensures.ok) in
    let two : IsValidOption options.fifth = search (rules, has_expression, c.in_ok-filter-2.ensures.ok) in
    let fault : IsFilterFault (option_places options) (string_bytes c.args.expression) c.in_err-filter-3.field-0.0 =
    inr (one, inr (two, inl c.in_err-filter-3.ensures.err)) in
    search (rules, fault)

pub returns-in_err-filter-4-clause-err : goal.returns-in_err-filter-4-clause-err
returns-in_err-filter-4-clause-err c =
    let options = c.args.options in
    let one : IsValidOption options.sixth = search (rules, has_expression, c.in_ok-filter.ensures.ok) in
    let two : IsValidOption options.fifth = search (rules, has_expression, c.in_ok-filter-2.ensures.ok) in
    let three : IsValidOption options.fourth = search (rules, has_expression, c.in_ok-filter-3.ensures.ok) in
    let fault : IsFilterFault (option_places options) (string_bytes c.args.expression) c.in_err-filter-4.field-0.0 =
    inr (one, inr (two, inr (three, inl c.in_err-filter-4.ensures.err))) in
    search (rules, fault)

pub returns-in_err-filter-5-clause-err : goal.returns-in_err-filter-5-clause-err
returns-in_err-filter-5-clause-err c =
    let options = c.args.options in
    let one : IsValidOption options.sixth = search (rules, has_expression, c.in_ok-filter.ensures.ok) in
    let two : IsValidOption options.fifth = search (rules, has_expression, c.in_ok-filter-2.ensures.ok) in
    let three : IsValidOption options.fourth = search (rules, has_expression, c.in_ok-filter-3.ensures.ok) in
    let four : IsValidOption options.third = search (rules, has_expression, c.in_ok-filter-4.ensures.ok) in
    let fault : IsFilterFault (option_places options) (string_bytes c.args.expression) c.in_err-filter-5.field-0.0 =
    inr (one, inr (two, inr (three, inr (four, inl c.in_err-filter-5.ensures.err)))) in
    search (rules, fault)

pub returns-in_err-filter-6-clause-err : goal.returns-in_err-filter-6-clause-err
returns-in_err-filter-6-clause-err c =
    let options = c.args.options in
    let one : IsValidOption options.sixth = search (rules, has_expression, c.in_ok-filter.ensures.ok) in
    let two : IsValidOption options.fifth = search (rules, has_expression, c.in_ok-filter-2.ensures.ok) in
    let three : IsValidOption options.fourth = search (rules, has_expression, c.in_ok-filter-3.ensures.ok) in
    let four : IsValidOption options.third = search (rules, has_expression, c.in_ok-filter-4.ensures.ok) in
    let five : IsValidOption options.second = search (rules, has_expression, c.in_ok-filter-5.ensures.ok) in
    let fault : IsFilterFault (option_places options) (string_bytes c.args.expression) c.in_err-filter-6.field-0.0 =
    inr (one, inr (two, inr (three, inr (four, inr (five, inl c.in_err-filter-6.ensures.err))))) in
    search (rules, fault)

pub returns-in_err-parse_text-clause-err : goal.returns-in_err-parse_text-clause-err
returns-in_err-parse_text-clause-err c =
    let options = c.args.options in
    let one : IsValidOption options.sixth = search (rules, has_expression, c.in_ok-filter.ensures.ok) in
    let two : IsValidOption options.fifth = search (rules, has_expression, c.in_ok-filter-2.ensures.ok) in
    let three : IsValidOption options.fourth = search (rules, has_expression, c.in_ok-filter-3.ensures.ok) in
    let four : IsValidOption options.third = search (rules, has_expression, c.in_ok-filter-4.ensures.ok) in
    let five : IsValidOption options.second = search (rules, has_expression, c.in_ok-filter-5.ensures.ok) in
    let six : IsValidOption options.first = search (rules, has_expression, c.in_ok-filter-6.ensures.ok) in
    let fault : IsFilterFault (option_places options) (string_bytes c.args.expression) c.in_err-parse_text.field-0.0 =
    inr (one, inr (two, inr (three, inr (four, inr (five, inr (six, c.in_err-parse_text.ensures.err)))))) in
    search (rules, fault)
