use Rattle.std.proofs.Common.{◌∙◌, ◌+◌, ◌*◌, ◌/◌, arith}
use Rattle.std.proofs.lemmas.Nat.{and_le_r}
use Rattle.std.specs.Int.Bits.{bit_and}
use Rattle.ep_base.proofs.SumLemmas.{joined_even_and_odd}
use Rattle.ep_base.proofs.checksum.joined.Goals as goal

pub returns : goal.returns
returns c =
    let even = c.args.even in
    let odd = c.args.odd in
    let lower = bit_and even 71777214294589695 + bit_and odd 71777214294589695 * 256 in
    let upper = bit_and (even / 256) 71777214294589695 + bit_and (odd / 256) 71777214294589695 * 256 in
    c.in_64_bits.ensures
    ∙ joined_even_and_odd even odd lower upper c.swap_bytes.result c.swap_bytes-2.result c.ranges.even.fits
    c.ranges.odd.fits (omega (arith, and_le_r even 71777214294589695, and_le_r odd 71777214294589695))
    (omega (arith, and_le_r (even / 256) 71777214294589695, and_le_r (odd / 256) 71777214294589695))
    (omega arith) (omega arith) c.swap_bytes.ensures c.swap_bytes-2.ensures
