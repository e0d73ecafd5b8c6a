use Rattle.etherparse_c.proofs.DescribedFieldLemmas.{frame_fields, lax_fields}
use Rattle.etherparse_c.proofs.laws.described_fields.Goals as goal

pub returns : goal.returns
returns c = record {
  frames = λ entry bytes layers packet status fields describes. frame_fields entry bytes layers packet status fields
      (c.frame_offsets.ensures.within entry bytes layers describes.frame) describes;
  lax = λ entry bytes read packet status fields describes. lax_fields entry bytes read packet status fields
      (c.lax_offsets.ensures.within entry bytes read describes.is) describes;
}
