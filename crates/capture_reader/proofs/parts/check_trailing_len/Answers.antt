use Rattle.std.proofs.Common.{◌≡◌, ℕ, ◌++◌, ◌∙◌, ap, drop, arith}
use Rattle.ep_base.specs.Bytes.{AreBytes}
use Rattle.capture_reader.specs.Numbers.{word32, word32_at}
use Rattle.capture_reader.proofs.NumberLemmas.{word32_prefix}
use Rattle.capture_reader.proofs.parts.check_trailing_len.Goals as goal

pub returns-clause-parts : goal.returns-clause-parts
returns-clause-parts c =
    let bytes = c.args.bytes.now in
    let order = c.args.order in
    let fits : AreBytes bytes = λ i. omega (arith, c.type_inv.bytes i) in
    let same : word32_at order bytes 0 ≡ c.args.len = omega (arith, c.word32-trailing.ensures) in
    word32_prefix order bytes 0 fits (omega arith) ∙ ap (λ (n : ℕ). word32 order n ++ drop 4 bytes) same
