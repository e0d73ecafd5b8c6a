use Rattle.etherparse.specs.StrictFrames.{layers_in}
use Rattle.etherparse_c.proofs.PlaceLemmas.{lax_offsets, within}
use Rattle.etherparse_c.proofs.laws.lax_offsets.Goals as goal

pub returns : goal.returns
returns c = record {
  places = λ entry bytes read packet is. lax_offsets c.header_lens.ensures entry bytes read packet is
      (c.lax_bytes.ensures entry bytes read is);
  within = λ entry bytes read is. within c.header_lens.ensures bytes (layers_in read)
      (c.lax_bytes.ensures entry bytes read is);
}
