use Rattle.etherparse.specs.Bytes.{bit}
use Rattle.etherparse.specs.LaxPackets.{lax_layers_of}
use Rattle.etherparse_c.proofs.FilterLemmas.{bit_of_bool, has_layers}
use Rattle.etherparse_c.proofs.filtering.matches_packet.Goals as goal
use Rattle.std.proofs.Common.{ap, ◌∙◌}

pub returns : goal.returns
returns c =
    let sliced = c.slice_into.ensures in
    let layers = lax_layers_of c.slice_into.new.self in (
      layers,
      has_layers c.slice_into.result c.args.entry c.args.bytes.now layers sliced.ok sliced.err sliced.none,
      c.from.ensures ∙ bit_of_bool c.matches.result ∙ ap bit c.matches.ensures,
    )
