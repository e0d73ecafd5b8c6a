use Rattle.std.proofs.Common.{◌+◌, ◌≤◌, length, arith}
use Rattle.std.proofs.lemmas.Grind.{common_steps}
use Rattle.capture_reader.specs.Numbers.{word32_at}
use Rattle.capture_reader.proofs.ClassicLemmas.{record_is_read_by}
use Rattle.capture_reader.proofs.packet.Record.from_slice.Goals as goal

pub returns-clause-ok : goal.returns-clause-ok
returns-clause-ok c =
    let bytes = c.args.bytes.now in
    let order = c.args.order in
    let kept = c.word32-kept.ensures in
    let within : 16 + word32_at order bytes 8 ≤ length bytes = omega (arith, kept) in
    let is = (record_is_read_by order).reads bytes (λ i. omega (arith, c.type_inv.bytes i))
    (grind (arith, common_steps)) in
    rw (c.word32.ensures, c.word32-2.ensures, c.word32-3.ensures, kept) is

pub returns-then-kept-gt-MOST_KEPT-clause-err : goal.returns-then-kept-gt-MOST_KEPT-clause-err
returns-then-kept-gt-MOST_KEPT-clause-err c = grind (arith, common_steps)
