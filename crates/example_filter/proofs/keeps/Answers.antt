use Rattle.std.proofs.Common.{ap, sym, ◌∙◌}
use Rattle.std.proofs.lemmas.Bool.{false≢true}
use Rattle.etherparse.specs.Layers.{layers_of}
use Rattle.example_filter.specs.Wanted.{is_wanted}
use Rattle.example_filter.proofs.keeps.Goals as goal

pub returns-in-Ok : goal.returns-in-Ok
returns-in-Ok c = (
  λ yes. (layers_of c.slice_into.new.self, c.in-Ok.ensures.ok, sym c.wants.ensures ∙ yes),
  λ found. c.wants.ensures ∙ ap (is_wanted c.args.vlan c.args.port) (c.in-Ok.ensures.only found.0 found.1) ∙ found.2,
)

pub returns-in-Err : goal.returns-in-Err
returns-in-Err c = (λ yes. absurd (false≢true yes), λ found. absurd (c.in-Err.ensures.only found.0 found.1))
