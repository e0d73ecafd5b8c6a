use Rattle.std.proofs.Common.{◌∙◌}
use Rattle.ep_base.proofs.SumLemmas.{residue_halves}
use Rattle.ep_base.proofs.checksum.in_64_bits.Goals as goal

pub returns : goal.returns
returns c = c.add_word.ensures ∙ residue_halves c.args.sum
