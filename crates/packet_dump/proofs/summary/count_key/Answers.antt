use Rattle.std.proofs.Common.{◌≡◌, ◌<◌, ℕ, ap, arith, length, slice_set, sym, ◌∙◌}
use Rattle.std.proofs.lemmas.List.{get_or_read}
use Rattle.packet_dump.proofs.SummaryLemmas.{counted_here}
use Rattle.packet_dump.proofs.summary.count_key.Goals as goal

pub returns-then-eq : goal.returns-then-eq
returns-then-eq g c =
    let entries = c.loop-index.counts.items in
    let i = c.loop-index.index in
    let entry = c.index_mut.result.now in
    let within : i < length entries = omega (arith, c.loop-index.counts.ok.0) in
    let same : c.index.result.now ≡ entry =
    get_or_read entries i c.index.result.now within c.index.ensures entry ∙ sym c.index_mut.ensures.value in
    let found = rw same at (sym c.eq.ensures ∙ c.if-eq.true) in
    ap (λ (n : ℕ). slice_set entries i (entry.0, n)) c.more.ensures
    ∙ sym (counted_here g.K.PartialEq.eq c.args.key entries i entry within c.index_mut.ensures.value found)
    ∙ c.loop-index.invariant
