use Rattle.std.proofs.Common.{arith}
use Rattle.slice_bench.proofs.FileLemmas.{first_frame}
use Rattle.slice_bench.proofs.files.split_frame.Goals as goal

pub returns-clause-some : goal.returns-clause-some
returns-clause-some c =
    let shown = c.in_ok-field.ensures in
    first_frame c.args.bytes.now c.in_ok-field.field.now c.in_ok-field.rest.now c.from_le_bytes-len.result
    (λ i. omega (arith, c.type_inv.bytes i)) shown.cases.0 shown.cases.1 shown.cases.2 c.from_le_bytes-len.ensures
    c.from_le_bytes-len.type_inv c.if-rest-len.false
