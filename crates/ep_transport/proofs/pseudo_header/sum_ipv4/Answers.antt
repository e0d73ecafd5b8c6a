use Rattle.std.proofs.Common.{◌≡◌, ◌++◌, ℕ, List, [], ◌∷◌, length, ap, ◌∙◌, append_assoc, arith}
use Rattle.std.specs.Int.{w16, to_be_bytes}
use Rattle.std.proofs.lemmas.List.{length-append}
use Rattle.ep_base.specs.Checksum.{ones_sum, ones_add}
use Rattle.ep_base.proofs.SumLemmas.{ones_add-none, sum_more}
use Rattle.ep_transport.proofs.SumLemmas.{sum_piece}
use Rattle.ep_transport.proofs.pseudo_header.sum_ipv4.Goals as goal

pub returns-clause-sum : goal.returns-clause-sum
returns-clause-sum c =
    let source : List ℕ = c.args.source in
    let destination : List ℕ = c.args.destination in
    let number : List ℕ = 0 ∷ c.args.number.0 ∷ [] in
    let len = to_be_bytes w16 c.args.len in
    let s : length source ≡ 4 = omega arith in
    let d : length destination ≡ 4 = omega arith in
    let first =
    c.add_4bytes.ensures ∙ ap (λ (n : ℕ). ones_add n (ones_sum source)) c.new.ensures ∙ ones_add-none source in
    let second = sum_more source destination _ _ first (omega (arith, s)) c.add_4bytes-2.ensures in
    let third =
    sum_more (source ++ destination) number _ _ second (omega (arith, s, d, length-append source destination))
    c.add_2bytes.ensures in
    let fourth =
    sum_piece ((source ++ destination) ++ number) len _ _ _ third
    (omega (arith, s, d, length-append source destination, length-append (source ++ destination) number))
    c.to_be_bytes.ensures c.add_2bytes-2.ensures in
    fourth ∙ ap ones_sum (append_assoc (source ++ destination) number len
    ∙ append_assoc source destination (number ++ len))
