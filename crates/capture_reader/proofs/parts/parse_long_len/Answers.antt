use Rattle.std.proofs.Common.{◌≡◌, ◌%◌, arith}
use Rattle.ep_base.specs.Bytes.{AreBytes}
use Rattle.capture_reader.specs.Numbers.{word32_at}
use Rattle.capture_reader.proofs.CaptureLemmas.{long_facts, long_header_fits}
use Rattle.capture_reader.proofs.parts.parse_long_len.Goals as goal

pub word32-len-requires : goal.word32-len-requires
word32-len-requires c = (long_facts c.args.order c.args.bytes.now c.requires).0

pub returns-clause-fits : goal.returns-clause-fits
returns-clause-fits c =
    let bytes = c.args.bytes.now in
    let fits : AreBytes bytes = λ i. omega (arith, c.type_inv.bytes i) in
    let aligned : word32_at c.args.order bytes 4 % 4 ≡ 0 = omega (arith, c.word32-len.ensures) in
    rw c.word32-len.ensures (long_header_fits c.args.order bytes fits c.requires aligned).0

pub returns-clause-parts : goal.returns-clause-parts
returns-clause-parts c =
    let bytes = c.args.bytes.now in
    let fits : AreBytes bytes = λ i. omega (arith, c.type_inv.bytes i) in
    let aligned : word32_at c.args.order bytes 4 % 4 ≡ 0 = omega (arith, c.word32-len.ensures) in
    rw c.word32-len.ensures (long_header_fits c.args.order bytes fits c.requires aligned).1

pub returns-clause-long : goal.returns-clause-long
returns-clause-long c = (long_facts c.args.order c.args.bytes.now c.requires).0
