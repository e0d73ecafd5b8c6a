use Rattle.std.proofs.Common.{◌∙◌, ℕ, ◌^◌, [], ◌∷◌, ap, sym, length, bit_or}
use Rattle.std.specs.Hash.FoldHasher as std_hasher
use Rattle.std.specs.declared.hash.FoldHasher.{FoldHasher}
use Rattle.std.proofs.lemmas.List.Sums.{fold-append}
use Rattle.ep_defrag.specs.declared.name_hasher.NameHasher.{NameHasher}
use Rattle.std.proofs.lemmas.Bool.{eq-eqb, ne_eqb}
use Rattle.ep_defrag.specs.NameHashes.{rest_of, wait_step, number_step, step_of, stepped, with_bytes}
use Rattle.ep_defrag.proofs.name_hasher.NameHasherHasher.write.Goals as goal

abbrev state_alone : FoldHasher → NameHasher
state_alone state = record { state = state; waiting = 1; count = 0 }

pub returns-then-bytes-eq1 : goal.returns-then-bytes-eq1
unfolding step_of with_bytes
returns-then-bytes-eq1 c =
    let self = c.args.self.now in
    rw (eq-eqb (length c.args.bytes.now) 1 c.if-bytes-eq1.true)
    (c.append_bytes.ensures ∙ ap (λ (byte : ℕ). stepped self (wait_step self.waiting self.count 1 byte)) c.from.ensures)

pub returns-then-bytes-eq2 : goal.returns-then-bytes-eq2
unfolding step_of with_bytes
returns-then-bytes-eq2 c =
    let self = c.args.self.now in
    rw (
      ne_eqb (length c.args.bytes.now) 1 c.if-bytes-eq1.false,
      eq-eqb (length c.args.bytes.now) 2 c.if-bytes-eq2.true,
    )
    (c.append_bytes-then-bytes-eq2.ensures ∙ ap
    (λ (number : ℕ). stepped self (wait_step self.waiting self.count 2 (bit_or (2 ^ 40) number)))
    (c.from-number.ensures ∙ c.from_le_bytes.ensures))

pub returns-then-bytes-eq8 : goal.returns-then-bytes-eq8
unfolding step_of with_bytes
returns-then-bytes-eq8 c =
    let self = c.args.self.now in
    rw (
      ne_eqb (length c.args.bytes.now) 1 c.if-bytes-eq1.false,
      ne_eqb (length c.args.bytes.now) 2 c.if-bytes-eq2.false,
      eq-eqb (length c.args.bytes.now) 8 c.if-bytes-eq8.true,
    )
    (c.write_number.ensures ∙ ap (λ (number : ℕ). stepped self (number_step self.waiting number))
    c.from_le_bytes-then-bytes-eq8.ensures)

pub returns : goal.returns
unfolding step_of stepped with_bytes
returns c =
    rw (
      ne_eqb (length c.args.bytes.now) 1 c.if-bytes-eq1.false,
      ne_eqb (length c.args.bytes.now) 2 c.if-bytes-eq2.false,
      ne_eqb (length c.args.bytes.now) 8 c.if-bytes-eq8.false,
      c.write.ensures,
      c.flush.ensures,
    )
    (ap state_alone
    (sym
    (fold-append std_hasher.write c.args.self.now.state (rest_of c.args.self.now.waiting) (c.args.bytes.now ∷ []))))
