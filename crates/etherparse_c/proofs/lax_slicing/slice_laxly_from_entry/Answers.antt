use Rattle.std.proofs.Common.{◌<◌, ◌^◌, length, rules, sym, ◌∙◌, arith}
use Rattle.etherparse.specs.LaxPackets.{lax_layers_of}
use Rattle.etherparse_c.specs.SliceAnswers.{entry_of}
use Rattle.etherparse_c.proofs.AnswerLemmas.{read_laxly}
use Rattle.etherparse_c.proofs.lax_slicing.slice_laxly_from_entry.Goals as goal

pub describe_lax-requires : goal.describe_lax-requires
describe_lax-requires c =
    let fits : length c.args.bytes.now < 2 ^ 64 = search rules in
    let read = lax_layers_of c.slice_into.new.self in
    omega (arith, c.lax_offsets.ensures.within c.in-Some.entry c.args.bytes.now read c.in-Ok.ensures.ok, fits)

pub returns-in-Ok : goal.returns-in-Ok
returns-in-Ok c =
    let read = lax_layers_of c.slice_into.new.self in
    let described = c.describe_lax.new.described in
    read_laxly (entry_of c.args.entry c.args.ether_type) c.in-Some.entry c.args.bytes.now read described
    (sym c.entry_of.ensures ∙ c.in-Some.is)
    (c.lax_offsets.ensures.places c.in-Some.entry c.args.bytes.now read described c.in-Ok.ensures.ok c.describe_lax.ensures)
