use Rattle.std.proofs.Common.{◌∙◌, ap, rules}
use Rattle.ep_base.specs.Checksum.{residue}
use Rattle.ep_base.proofs.SumLemmas.{ones_add-words, sum_with_last, words_of_128}
use Rattle.ep_base.proofs.checksum.Sum16BitWords.add_16bytes.Goals as goal

pub returns : goal.returns
returns c =
    let word = c.in_64_bits.ensures ∙ ap residue c.from_be_bytes.ensures ∙ words_of_128 c.args.value (search rules) in
    let taken = sum_with_last _ _ _ _ c.add_word.ensures word in
    rw (← c.self.view_is) (taken ∙ ones_add-words c.self.inside.sum c.args.value)
