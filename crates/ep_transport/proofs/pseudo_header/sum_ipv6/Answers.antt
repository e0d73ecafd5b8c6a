use Rattle.std.proofs.Common.{◌≡◌, ◌++◌, ℕ, List, [], ◌∷◌, length, ap, ◌∙◌, append_assoc, arith}
use Rattle.std.specs.Int.{w32, to_be_bytes}
use Rattle.std.proofs.lemmas.List.{length-append}
use Rattle.ep_base.specs.Checksum.{ones_sum, ones_add}
use Rattle.ep_base.proofs.SumLemmas.{ones_add-none, sum_more}
use Rattle.ep_transport.proofs.SumLemmas.{sum_piece}
use Rattle.ep_transport.proofs.pseudo_header.sum_ipv6.Goals as goal

pub returns-clause-sum : goal.returns-clause-sum
returns-clause-sum c =
    let source : List ℕ = c.args.source in
    let destination : List ℕ = c.args.destination in
    let number : List ℕ = 0 ∷ 0 ∷ 0 ∷ c.args.number.0 ∷ [] in
    let len = to_be_bytes w32 c.args.len in
    let s : length source ≡ 16 = omega arith in
    let d : length destination ≡ 16 = omega arith in
    let first =
    c.add_16bytes.ensures ∙ ap (λ (n : ℕ). ones_add n (ones_sum source)) c.new.ensures ∙ ones_add-none source in
    let second = sum_more source destination _ _ first (omega (arith, s)) c.add_16bytes-2.ensures in
    let third =
    sum_piece (source ++ destination) len _ _ _ second (omega (arith, s, d, length-append source destination))
    c.to_be_bytes.ensures c.add_4bytes.ensures in
    let fourth =
    sum_more ((source ++ destination) ++ len) number _ _ third
    (omega (arith, s, d, length-append source destination, length-append (source ++ destination) len))
    c.add_4bytes-2.ensures in
    fourth ∙ ap ones_sum (append_assoc (source ++ destination) len number
    ∙ append_assoc source destination (len ++ number))
