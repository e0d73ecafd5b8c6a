use Rattle.std.proofs.Common.{◌≡◌, Some, None, option_map, rules, sym, ap, ◌∙◌}
use Rattle.etherparse.specs.Layers.{layers_of}
use Rattle.etherparse.specs.Steps.{transport_step_frame}
use Rattle.etherparse.specs.Types.TransportHeader.TheVariants as header
use Rattle.example_generators.specs.Requests.{answer_to}
use Rattle.example_generators.proofs.BuildingLemmas.{appends_some, appends_none}
use Rattle.example_generators.proofs.requests.write_answer.Goals as goal

pub returns-in_err-answer_to-in-Ok-clause-frames :
    goal.returns-in_err-answer_to-in-Ok-clause-frames
returns-in_err-answer_to-in-Ok-clause-frames c = λ layers is.
    let none : answer_to (layers_of c.in-Ok.packet) ≡ None =
    sym c.answer_to.ensures ∙ ap (option_map (transport_step_frame header.Udp)) c.in_err-answer_to-in-Ok.was in
    appends_none _ _ _ _ (sym (ap answer_to (c.in-Ok.ensures.only layers is)) ∙ none) (search rules)

pub returns-in_ok-answer_to-in-Ok-clause-frames : goal.returns-in_ok-answer_to-in-Ok-clause-frames
returns-in_ok-answer_to-in-Ok-clause-frames c = λ layers is.
    let found : answer_to (layers_of c.in-Ok.packet)
    ≡ Some (transport_step_frame header.Udp c.in_ok-answer_to-in-Ok.field-0) =
    sym c.answer_to.ensures ∙ ap (option_map (transport_step_frame header.Udp)) c.in_ok-answer_to-in-Ok.was in
    appends_some _ _ _ _ _ _ (sym (ap answer_to (c.in-Ok.ensures.only layers is)) ∙ found) (record {
      ok = c.write.ensures.ok;
      err = c.write.ensures.err;
      refused = c.write.ensures.refused;
      full = c.write.ensures.full;
    })

pub returns-in-Err-clause-frames : goal.returns-in-Err-clause-frames
returns-in-Err-clause-frames c = λ layers is. absurd (c.in-Err.ensures.only layers is)
