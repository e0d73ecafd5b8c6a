use Rattle.std.proofs.Common.{◌≤◌, ◌+◌, ℕ, ap, inl, inr, arith}
use Rattle.std.proofs.lemmas.Bool.{cases_lt, le-leb, lt-leb}
use Rattle.ep_defrag.specs.NameHashes.{capacity_step, wait_step, stepped}
use Rattle.ep_defrag.specs.declared.name_hasher.NameHasher.{NameHasher}
use Rattle.ep_defrag.proofs.name_hasher.NameHasher.append_bytes.Goals as goal

few_wait : (waiting count bytes : ℕ) → (capacity_step waiting count bytes).count ≤ 3
unfolding capacity_step
few_wait waiting count bytes = elim (cases_lt 3 (count + bytes)) [
  | inl many ↦ rw (lt-leb (count + bytes) 3 many) (omega arith)
  | inr few ↦ rw (le-leb (count + bytes) 3 few) (omega arith)
]

pub overflow_add-self : goal.overflow_add-self
unfolding stepped
overflow_add-self c =
    omega (
      arith,
      ap (λ (hasher : NameHasher). hasher.count) c.reserve_bytes.ensures,
      few_wait c.args.self.now.waiting c.args.self.now.count c.args.bytes,
    )

pub returns : goal.returns
unfolding wait_step stepped
returns c = rw c.reserve_bytes.ensures
