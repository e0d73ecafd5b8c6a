use Rattle.std.proofs.Common.{◌∙◌, ◌+◌, ◌*◌, ◌++◌, List, ℕ, [], ◌∷◌, length, ap, refl, arith}
use Rattle.std.specs.Int.{w16, to_be_bytes}
use Rattle.ep_base.specs.Checksum.{residue, word_sum}
use Rattle.ep_base.proofs.SumLemmas.{sum_more}
use Rattle.ep_transport.specs.PseudoHeaders.{pseudo_header_ipv4}
use Rattle.ep_packet.proofs.LittleEndianLemmas.{message_words}
use Rattle.ep_packet.proofs.VerdictLemmas.{verdict_by_sum}
use Rattle.ep_packet.proofs.checksum_verdict.message_ipv4.Goals as goal

pub returns-then-len-ge-LONG : goal.returns-then-len-ge-LONG
returns-then-len-ge-LONG c =
    let a = c.args in
    let len = length a.message.now in
    let pseudo : List ℕ = pseudo_header_ipv4 a.source a.destination a.number.0 len in
    let sum = sum_more pseudo a.message.now _ _ c.sum_ipv4-pseudo.ensures.sum c.sum_ipv4-pseudo.ensures.even c.add_slice.ensures in
    verdict_by_sum 65535 len _ (pseudo ++ a.message.now) _ c.if-len-gt65535.false sum c.verdict_of_sum.ensures

pub returns : goal.returns
returns c =
    let a = c.args in
    let len = length a.message.now in
    let stated = c.add_little_endian-sum-2.ensures.value
    ∙ ap (λ (b : List ℕ). residue (256 * c.add_little_endian-sum.result + word_sum b)) c.to_be_bytes.ensures in
    let sum = message_words a.source a.destination (0 ∷ a.number.0 ∷ []) (to_be_bytes w16 len) a.message.now _ _ _ _ _
    (omega arith) (omega arith) refl refl c.add_little_endian-sum.ensures.value stated
    c.add_little_endian-sum-3.ensures.value c.add_little_endian-sum-4.ensures.value c.add_little_endian.ensures.value in
    verdict_by_sum 65535 len _ (pseudo_header_ipv4 a.source a.destination a.number.0 len ++ a.message.now) _
    c.if-len-gt65535.false sum c.verdict_of_words.ensures
