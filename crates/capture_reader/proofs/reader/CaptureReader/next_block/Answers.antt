use Rattle.std.proofs.Common.{ℕ, List, subst}
use Rattle.capture_reader.specs.Blocks.{RefusesBlock}
use Rattle.capture_reader.specs.BlockContents.{section_of}
use Rattle.capture_reader.specs.Readers.{reader_rest}
use Rattle.capture_reader.specs.declared.interface.Interface.{Interface}
use Rattle.capture_reader.proofs.reader.CaptureReader.next_block.Goals as goal

pub returns-in-Ok-clause-ok : goal.returns-in-Ok-clause-ok
returns-in-Ok-clause-ok c = record {
  next_is_block = c.requires;
  is = rw (c.as_slice.ensures.value, c.rest.ensures) at c.in-Ok.ensures.ok;
  within = rw c.rest.ensures at c.in-Ok.ensures.within;
  fits = c.in-Ok.ensures.fits;
  after = rw (c.as_slice.ensures.value, c.rest.ensures) at c.in-Ok.ensures.after;
  shown = rw (c.as_slice.ensures.value, c.rest.ensures) at c.in-Ok.ensures.shown;
}

pub returns-in-Err-clause-err : goal.returns-in-Err-clause-err
returns-in-Err-clause-err c =
    let self = c.args.self.now in
    subst (λ (s : List Interface). RefusesBlock (section_of c.args.order s) (reader_rest self) c.in-Err.refusal)
    c.as_slice.ensures.value
    (subst (λ (b : List ℕ). RefusesBlock (section_of c.args.order c.as_slice.result.now) b c.in-Err.refusal)
    c.rest.ensures c.in-Err.ensures.err)
