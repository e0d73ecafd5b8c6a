use Rattle.std.proofs.Common.{◌+◌, ◌*◌, ◌/◌, arith}
use Rattle.std.proofs.lemmas.Nat.{and_mask}
use Rattle.std.specs.Int.Bits.{bit_and}
use Rattle.ep_packet.proofs.LittleEndianLemmas.{full}
use Rattle.ep_packet.proofs.little_endian_sum.is_all_ones.Goals as goal

pub returns-then-sum-gt0 : goal.returns-then-sum-gt0
returns-then-sum-gt0 c =
    let n = c.args.sum in
    let folded = n / 18446744073709551616 + bit_and n 18446744073709551615 in
    let halves = and_mask n 64 in
    let carried = and_mask folded 64 in
    full n _ (281479271743489 * (n / 18446744073709551616 + folded / 18446744073709551616))
    (omega (arith, halves, carried)) c.if-sum-gt0.true
