use Rattle.std.proofs.Common.{inl, inr, refl}
use Rattle.etherparse_c.proofs.FieldLemmas.{not_read}
use Rattle.etherparse_c.proofs.field_reading.read_any_fields.Goals as goal

pub returns-then-read_fields : goal.returns-then-read_fields
returns-then-read_fields c = inl (
  refl,
  c.read_fields.ensures.found c.if-read_fields.true,
  λ other are. (c.read_fields.ensures.only other are).1,
)

pub returns : goal.returns
returns c = inr (refl, c.clear_fields.ensures, not_read c.read_fields.ensures c.if-read_fields.false)
