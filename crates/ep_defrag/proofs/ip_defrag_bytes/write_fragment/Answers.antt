use Rattle.std.proofs.Common.{◌≡◌, ◌∙◌, ◌++◌, ◌-◌, min, length, ap, arith}
use Rattle.ep_defrag.specs.Buffers.{extended}
use Rattle.ep_defrag.proofs.WritingLemmas.{put_in_parts}
use Rattle.ep_defrag.proofs.ip_defrag_bytes.write_fragment.Goals as goal

pub returns-clause-items : goal.returns-clause-items
returns-clause-items c =
    let start = c.args.range.start in
    let old = c.args.bytes.now.items in
    let payload = c.args.payload.now in
    let filled = c.fill_gap.new.bytes in
    let gap : filled.items ≡ extended old start = c.fill_gap.ensures.items ∙ ap (extended old) c.from-start.ensures in
    let more : c.extend_from_slice.new.self.items ≡ filled.items ++ c.split_at.result.1.now =
    rw c.unwrap.ensures at c.extend_from_slice.ensures.items in
    let split : c.min.result ≡ min (length payload) (length (extended old start) - start) =
    omega (arith, c.min.ensures, c.len.ensures, c.from-start.ensures, filled.ok.0, ap length gap) in
    c.overwrite.ensures.items
    ∙ rw (more, c.from-start.ensures, c.split_at.ensures.front, c.split_at.ensures.back, gap, c.requires.len)
    (put_in_parts old payload start c.min.result split)
