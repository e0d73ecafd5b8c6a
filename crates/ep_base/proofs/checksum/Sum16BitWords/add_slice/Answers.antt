use Rattle.std.proofs.Common.{◌≡◌, ◌∙◌, ◌+◌, ap}
use Rattle.ep_base.specs.Checksum.{residue, word_sum}
use Rattle.ep_base.proofs.SumLemmas.{ones_add-words}
use Rattle.ep_base.proofs.checksum.Sum16BitWords.add_slice.Goals.{then-slice-lt-LONG, else-slice-lt-LONG}
use Rattle.ep_base.proofs.checksum.Sum16BitWords.add_slice.Goals as goal

pub returns : goal.returns
returns c =
    let sum = c.self.inside.sum in
    let bytes = c.args.slice.now in
    let complete : residue c.if-slice-lt-LONG.result ≡ residue (sum + word_sum bytes) =
    elim c.if-slice-lt-LONG.branch [
      | then-slice-lt-LONG w ↦ ap residue w.result-is ∙ w.add_short.ensures
      | else-slice-lt-LONG w ↦ ap residue w.result-is ∙ w.add_long.ensures
    ] in
    rw (← c.self.view_is) (complete ∙ ones_add-words sum bytes)
