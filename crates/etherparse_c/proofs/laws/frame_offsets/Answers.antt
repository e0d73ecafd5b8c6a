use Rattle.etherparse.specs.Readings.{slices}
use Rattle.etherparse_c.proofs.PlaceLemmas.{places, within}
use Rattle.etherparse_c.proofs.laws.frame_offsets.Goals as goal

pub returns : goal.returns
returns c = record {
  places = λ entry bytes layers packet frame. places c.header_lens.ensures entry bytes layers packet frame
      (c.frame_bytes.ensures slices entry bytes layers frame);
  within = λ entry bytes layers frame. within c.header_lens.ensures bytes layers
      (c.frame_bytes.ensures slices entry bytes layers frame);
}
