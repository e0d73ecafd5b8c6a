use Rattle.std.proofs.Common.{◌≡◌, ℕ, ◌++◌, List, replicate, ap, ◌∙◌, arith}
use Rattle.std.proofs.lemmas.List.{take-replicate}
use Rattle.ep_defrag.specs.Buffers.{extended}
use Rattle.ep_defrag.proofs.WritingLemmas.{extended-more}
use Rattle.ep_defrag.proofs.ip_defrag_bytes.fill_gap.Goals as goal

pub loop-bytes-preserved : goal.loop-bytes-preserved
loop-bytes-preserved c =
    let filled = c.loop-bytes.bytes.items in
    let start = c.args.start in
    let count = c.min-count.result in
    let more : c.extend_from_slice.new.self.items ≡ filled ++ replicate count 0 =
    rw c.unwrap.ensures at c.extend_from_slice.ensures.items
    ∙ ap (λ (zeros : List ℕ). filled ++ zeros) (take-replicate count 1024 0 (omega (arith, c.min-count.ensures))) in (
      ap (λ (items : List ℕ). extended items start) more
          ∙ extended-more filled start count (omega (arith, c.min-count.ensures, c.len-in-loop-bytes.ensures))
          ∙ c.loop-bytes.invariant.0,
      omega (arith, c.loop-bytes.invariant.1, c.extend_from_slice.ensures.capacity),
    )
