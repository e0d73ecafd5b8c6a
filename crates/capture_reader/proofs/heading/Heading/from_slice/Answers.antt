use Rattle.std.proofs.Common.{◌≡◌, Some, ap, sym, arith}
use Rattle.capture_reader.specs.Classic.{style_in, style_of}
use Rattle.capture_reader.proofs.ClassicLemmas.{Passes, read_with}
use Rattle.capture_reader.proofs.heading.Heading.from_slice.Goals as goal

pub returns-clause-ok : goal.returns-clause-ok
returns-clause-ok c =
    let bytes = c.args.bytes.now in
    let magic = ap style_of (sym c.word32-magic.ensures) in
    let stated = c.style_of.ensures in
    let style : style_in bytes ≡ Some (c.in-Some.order, c.in-Some.resolution) = cc (magic, stated, c.in-Some.is) in
    let passed : Passes (c.in-Some.order, c.in-Some.resolution) bytes = record {
      long = omega arith;
      major = omega (arith, c.word16-major.ensures);
      minor = omega (arith, c.word16-minor.ensures);
    } in
    rw (c.word32.ensures, c.word32-2.ensures, c.word32-3.ensures, c.word32-4.ensures)
    (read_with (c.in-Some.order, c.in-Some.resolution) bytes (λ i. omega (arith, c.type_inv.bytes i)) style passed)
