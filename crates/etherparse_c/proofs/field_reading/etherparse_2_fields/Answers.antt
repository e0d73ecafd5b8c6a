use Rattle.std.proofs.Common.{inl, refl}
use Rattle.etherparse_c.proofs.field_reading.etherparse_2_fields.Goals as goal

pub returns-then-read_plain_fields : goal.returns-then-read_plain_fields
returns-then-read_plain_fields c =
    let reads = c.read_plain_fields.ensures c.if-read_plain_fields.true in
    inl (refl, reads.found refl, λ other are. (reads.only other are).1)
