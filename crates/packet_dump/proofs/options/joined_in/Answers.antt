-- The first `=` separates the option from its value.
use Rattle.std.proofs.Common.{◌<◌, ap, sym, ◌∙◌, arith}
use Rattle.std.proofs.lemmas.Str.Pattern.{split_parts}
use Rattle.packet_dump.specs.OptionSteps.{joined_from, joined_in, option_with}
use Rattle.packet_dump.specs.declared.options.Word.{Word}
use Rattle.packet_dump.proofs.JoinedLemmas.{no_parts, these_parts}
use Rattle.packet_dump.proofs.options.joined_in.Goals as goal

pub returns-in-Some : goal.returns-in-Some
returns-in-Some c =
    let name = c.in-Some.name.now in
    let value = c.in-Some.value.now in
    let small : 61 < 128 = omega arith in
    let parts = split_parts 61 c.args.text.now c.split_once.result c.split_once.ensures.cases small in
    let here = rw c.in-Some.is at parts in
    c.option_with.ensures ∙ ap (λ (w : Word). option_with w value) c.of.ensures
    ∙ sym (ap joined_in here.0 ∙ ap joined_from (these_parts name value here.1))

pub returns-in-None : goal.returns-in-None
returns-in-None c =
    let small : 61 < 128 = omega arith in
    let parts = split_parts 61 c.args.text.now c.split_once.result c.split_once.ensures.cases small in
    let nowhere = rw c.in-None.is at parts in
    sym (ap joined_from (no_parts c.args.text.now nowhere))
