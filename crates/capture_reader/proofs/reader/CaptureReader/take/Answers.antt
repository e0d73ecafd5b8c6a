use Rattle.std.proofs.Common.{◌≡◌, ◌++◌, refl, arith}
use Rattle.std.proofs.lemmas.Grind.{common_steps}
use Rattle.capture_reader.specs.Readers.{reader_rest}
use Rattle.capture_reader.proofs.ReaderLemmas.{takes_more}
use Rattle.capture_reader.proofs.reader.CaptureReader.take.Goals as goal

pub returns-clause-ok : goal.returns-clause-ok
returns-clause-ok c =
    let self = c.args.self.now in
    let buffer : c.extend_from_slice.new.self.items ≡ reader_rest self ++ c.args.chunk.now =
    grind (arith, common_steps) in
    takes_more self _ c.args.chunk.now refl c.reserve-2.ensures.items buffer refl
