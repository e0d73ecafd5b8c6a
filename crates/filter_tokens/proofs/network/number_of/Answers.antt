use Rattle.std.proofs.Common.{List, ℕ, arith, ap, ◌∙◌}
use Rattle.std.proofs.lemmas.List.{take_all}
use Rattle.std.specs.Int.{w32, w128, from_be_bytes}
use Rattle.filter_tokens.proofs.NumberLemmas.{four_bytes, sixteen_bytes}
use Rattle.filter_tokens.proofs.network.number_of.Goals as goal

pub returns-in-Some-clause-bytes : goal.returns-in-Some-clause-bytes
returns-in-Some-clause-bytes c = λ i. omega (arith, c.type_inv.address i)

pub returns-in-Some-clause-ipv4 : goal.returns-in-Some-clause-ipv4
returns-in-Some-clause-ipv4 c = λ four. absurd (omega (arith, four, c.in-Some.ensures.cases.enough))

pub returns-in-Some-clause-ipv6 : goal.returns-in-Some-clause-ipv6
returns-in-Some-clause-ipv6 c =
    λ full. c.from_be_bytes.ensures
    ∙ ap (λ (bytes : List ℕ). from_be_bytes w128 bytes)
    (c.in-Some.ensures.cases.same ∙ take_all 16 c.args.address.now (omega (arith, full)))
    ∙ sixteen_bytes c.args.address.now full

pub returns-in-Some-first_chunk-clause-bytes : goal.returns-in-Some-first_chunk-clause-bytes
returns-in-Some-first_chunk-clause-bytes c = λ i. omega (arith, c.type_inv.address i)

pub returns-in-Some-first_chunk-clause-ipv4 : goal.returns-in-Some-first_chunk-clause-ipv4
returns-in-Some-first_chunk-clause-ipv4 c =
    λ four. c.from.ensures ∙ c.from_be_bytes-in-Some-first_chunk.ensures
    ∙ ap (λ (bytes : List ℕ). from_be_bytes w32 bytes)
    (c.in-Some-first_chunk.ensures.cases.same ∙ take_all 4 c.args.address.now (omega (arith, four)))
    ∙ four_bytes c.args.address.now four

pub returns-in-Some-first_chunk-clause-ipv6 : goal.returns-in-Some-first_chunk-clause-ipv6
returns-in-Some-first_chunk-clause-ipv6 c = λ full. absurd (omega (arith, full, c.in-None.ensures.cases))

pub returns-in-None-first_chunk-clause-bytes : goal.returns-in-None-first_chunk-clause-bytes
returns-in-None-first_chunk-clause-bytes c = λ i. omega (arith, c.type_inv.address i)

pub returns-in-None-first_chunk-clause-ipv4 : goal.returns-in-None-first_chunk-clause-ipv4
returns-in-None-first_chunk-clause-ipv4 c = λ four. absurd (omega (arith, four, c.in-None-first_chunk.ensures.cases))

pub returns-in-None-first_chunk-clause-ipv6 : goal.returns-in-None-first_chunk-clause-ipv6
returns-in-None-first_chunk-clause-ipv6 c = λ full. absurd (omega (arith, full, c.in-None.ensures.cases))
