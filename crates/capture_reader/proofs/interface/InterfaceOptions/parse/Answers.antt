use Rattle.std.proofs.Common.{◌≡◌, ◌+◌, ◌∙◌, true, false, refl, sym, ap, drop, length-drop}
use Rattle.std.proofs.Common.{option_copied, arith}
use Rattle.std.proofs.lemmas.List.{take_all}
use Rattle.capture_reader.specs.Options.{ends_options, has_option}
use Rattle.capture_reader.proofs.OptionLemmas.{reported_end, reported_start, reported_step}
use Rattle.capture_reader.proofs.interface.InterfaceOptions.parse.Goals as goal

pub options-init : goal.options-init
options-init c = reported_start c.args.order c.args.bytes.now

pub options-preserved : goal.options-preserved
options-preserved c =
    let rest = c.options.rest.now in
    let has : has_option c.args.order rest ≡ true = sym c.has_option.ensures ∙ c.options-test.true in
    reported_step c.args.order c.args.bytes.now rest (option_copied c.options.resolution) (option_copied c.options.offset)
    (option_copied c.first_of-resolution.result) (option_copied c.first_of-offset.result)
    c.word16-code.result c.word16-len.result c.padding_of.result _ _ c.options.invariant has
    c.word16-code.ensures c.word16-len.ensures c.padding_of.ensures refl
    (take_all _ (drop (4 + c.word16-len.result + c.padding_of.result) rest)
    (omega (arith, length-drop (4 + c.word16-len.result + c.padding_of.result) rest)))
    c.first_of-resolution.ensures c.first_of-offset.ensures

pub returns-clause-resolution : goal.returns-clause-resolution
returns-clause-resolution c =
    let stuck : has_option c.args.order c.options.rest.now ≡ false = sym c.has_option.ensures ∙ c.options-test.false in
    (reported_end c.args.order c.args.bytes.now c.options.rest.now (option_copied c.options.resolution)
    (option_copied c.options.offset) c.options.invariant stuck).0

pub returns-clause-offset : goal.returns-clause-offset
returns-clause-offset c =
    let stuck : has_option c.args.order c.options.rest.now ≡ false = sym c.has_option.ensures ∙ c.options-test.false in
    (reported_end c.args.order c.args.bytes.now c.options.rest.now (option_copied c.options.resolution)
    (option_copied c.options.offset) c.options.invariant stuck).1

pub returns-clause-ended : goal.returns-clause-ended
returns-clause-ended c =
    let stuck : has_option c.args.order c.options.rest.now ≡ false = sym c.has_option.ensures ∙ c.options-test.false in
    c.ends_options.ensures ∙ ap (ends_options c.args.order)
    (reported_end c.args.order c.args.bytes.now c.options.rest.now (option_copied c.options.resolution)
    (option_copied c.options.offset) c.options.invariant stuck).2
