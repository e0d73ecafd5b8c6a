use Rattle.std.proofs.Common.{refl, sym}
use Rattle.etherparse.specs.Layers.{layers_of}
use Rattle.example_reader.proofs.take.Goals as goal

pub returns-in-Ok : goal.returns-in-Ok
returns-in-Ok c = record {
  frames = λ layers is. rw (sym (c.in-Ok.ensures.only layers is)) c.process_sliced_packet.ensures.takes;
  others = λ none. absurd (none (layers_of c.slice_into.new.self) c.in-Ok.ensures.ok);
}

pub returns-in-Err : goal.returns-in-Err
returns-in-Err c = record {
  frames = λ layers is. absurd (c.in-Err.ensures.only layers is);
  others = λ none. (c.in-Err.ensures.err, refl);
}
