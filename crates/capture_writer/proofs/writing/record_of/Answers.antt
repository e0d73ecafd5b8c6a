use Rattle.std.proofs.Common.{arith}
use Rattle.capture_reader.specs.Readers.{shown_of}
use Rattle.capture_writer.proofs.WrittenLemmas.{accepted}
use Rattle.capture_writer.proofs.writing.record_of.Goals as goal

pub returns-clause-written : goal.returns-clause-written
returns-clause-written c = record {
  accepted = accepted c.args.link_type (shown_of c.args.shown.now) c.in-Some.time c.in-Some.is (record {
    same = omega (arith, c.if-shown-link_type.false);
    short = omega (arith, c.if-bytes.false);
    from = omega (arith, c.if-instant-lt-EPOCH.false, c.instant_of-instant.ensures.value);
    to = omega (
      arith,
      c.if-instant-lt-EPOCH.false,
      c.if-since-ge4294967296.false,
      c.instant_of-instant.ensures.value,
    );
  });
  original_len = c.value_fits.ensures.original_len;
  bytes = c.value_fits.ensures.bytes;
}
