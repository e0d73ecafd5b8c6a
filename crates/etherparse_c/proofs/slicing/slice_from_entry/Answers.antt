use Rattle.std.proofs.Common.{◌<◌, ◌^◌, length, rules, sym, ◌∙◌, arith}
use Rattle.std.proofs.lemmas.Grind.{common_steps}
use Rattle.etherparse.specs.Layers.{layers_of}
use Rattle.etherparse_c.specs.SliceAnswers.{entry_of}
use Rattle.etherparse_c.proofs.AnswerLemmas.{sliced}
use Rattle.etherparse_c.proofs.slicing.slice_from_entry.Goals as goal

pub describe-requires : goal.describe-requires
describe-requires c =
    let fits : length c.args.bytes.now < 2 ^ 64 = search rules in
    let layers = layers_of c.slice_into.new.self in
    omega (arith, c.frame_offsets.ensures.within c.in-Some.entry c.args.bytes.now layers c.in-Ok.ensures.ok, fits)

pub returns-in-Ok : goal.returns-in-Ok
returns-in-Ok c =
    let layers = layers_of c.slice_into.new.self in
    let described = c.describe.new.described in
    sliced (entry_of c.args.entry c.args.ether_type) c.in-Some.entry c.args.bytes.now layers described
    (sym c.entry_of.ensures ∙ c.in-Some.is)
    (c.frame_offsets.ensures.places c.in-Some.entry c.args.bytes.now layers described c.in-Ok.ensures.ok c.describe.ensures)

pub returns-in-Err : goal.returns-in-Err
returns-in-Err c = grind (arith, common_steps)
