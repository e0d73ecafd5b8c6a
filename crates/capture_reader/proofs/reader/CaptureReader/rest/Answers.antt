use Rattle.std.proofs.Common.{length-drop, arith}
use Rattle.std.proofs.lemmas.List.{take_all}
use Rattle.capture_reader.specs.Readers.{reader_rest}
use Rattle.capture_reader.proofs.reader.CaptureReader.rest.Goals as goal

pub returns : goal.returns
returns c =
    let self = c.args.self.now in
    rw c.as_slice.ensures.value (take_all _ (reader_rest self) (omega (arith, length-drop self.end self.buffer.items)))
