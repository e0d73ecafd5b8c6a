use Rattle.std.proofs.Common.{◌≡◌, ◌∙◌, ◌+◌, ◌*◌, ◌/◌, ap, arith, refl}
use Rattle.std.proofs.lemmas.Nat.{and_le_r}
use Rattle.std.specs.Int.Bits.{bit_and}
use Rattle.ep_base.specs.Checksum.{residue}
use Rattle.ep_base.proofs.SumLemmas.{even_and_odd, sum_with_piece, turned_even_and_odd}
use Rattle.ep_base.proofs.checksum.block_sum.Goals as goal

pub loop-piece-preserved : goal.loop-piece-preserved
loop-piece-preserved c =
    let piece = c.in-Some.piece.now in
    let cut = c.in-Some.ensures.cases in
    let word = c.from_le_bytes-word.result in
    let fits = c.from_le_bytes-word.type_inv in
    let even = bit_and word 71777214294589695 in
    let odd = bit_and (word / 256) 71777214294589695 in
    let evens = c.loop-piece.invariant.0 in
    let known = c.loop-piece.invariant.1 in
    let before = 256 * evens + c.loop-piece.odd in
    let following = 256 * (evens + even) + (c.loop-piece.odd + odd) in
    let added : residue following ≡ residue (before + (256 * even + odd)) = ap residue (omega arith) in (
      evens + even,
      record {
        even_fits = omega (arith, known.even_fits, and_le_r word 71777214294589695, cut.2);
        odd_fits = omega (arith, known.odd_fits, and_le_r (word / 256) 71777214294589695, cut.2);
        words = omega (arith, known.words, cut.2);
        both = omega (arith, known.both, even_and_odd word fits);
        same =
            sum_with_piece 8 before (256 * even + odd) following piece c.in-Some.after.now c.loop-piece.rest.now refl cut
            added (λ long. turned_even_and_odd word piece long c.from_le_bytes-word.ensures fits)
            ∙ known.same;
      },
    )
