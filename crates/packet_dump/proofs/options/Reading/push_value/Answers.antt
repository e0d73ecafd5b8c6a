-- The value of an option is valid, or it is not.
use Rattle.std.proofs.Common.{◌≡◌, Bool, Option, None, ap, rules, sym, ◌∙◌}
use Rattle.packet_dump.specs.Options.{Item}
use Rattle.packet_dump.proofs.ValueLemmas.{value_in-none, value_in-some}
use Rattle.packet_dump.specs.OptionSteps.{State, item_or_fault_step, more, reading_state, value_step}
use Rattle.packet_dump.specs.declared.options.Awaited.TheVariants.{Input}
use Rattle.packet_dump.proofs.OptionLemmas.{no_input, set_item}
use Rattle.packet_dump.proofs.options.Reading.push_value.Goals as goal

pub returns-in_err-set : goal.returns-in_err-set
returns-in_err-set c =
    let no_value_in = value_in-none c.args.option c.args.text.now c.in_err-set.ensures.bad in
    search (rules, no_value_in)

pub returns : goal.returns
returns c =
    let option = c.args.option in
    let text = c.args.text.now in
    let state = reading_state c.args.self.now in
    let stated = c.in_ok-set.ensures.ok in
    let apart : option ≡ Input → ⊥ = search rules in
    let free = no_input state.settings option text stated.0 stated.1 apart in
    let set = set_item option text stated.0 state _ stated.1 stated.2 apart in
    ap (λ (o : Option Item). value_step state option text o) (value_in-some option text stated.0 stated.1)
    ∙ ap (λ (b : Bool). item_or_fault_step state text stated.0 b) free
    ∙ ap (λ (s : State). more (record s { awaited = None })) (sym (c.add_filter.ensures ∙ set))
