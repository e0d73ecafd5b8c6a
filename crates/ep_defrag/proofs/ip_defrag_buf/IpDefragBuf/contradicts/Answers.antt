use Rattle.std.proofs.Common.{◌≡◌, ℕ, ◌+◌, ◌*◌, List, length, sym, ◌∙◌, ap, arith}
use Rattle.std.specs.List.{slice_range}
use Rattle.ep_defrag.specs.IpFragments.{fragment_with}
use Rattle.ep_defrag.specs.Buffers.{data_of}
use Rattle.ep_defrag.proofs.BoundedOverlapLemmas.{overlap_found, tests_found, no_contradiction}
use Rattle.ep_defrag.proofs.BoundedOverlapLemmas.{no_contradiction-after, contradicts-beyond, within_data}
use Rattle.ep_defrag.proofs.BoundedOverlapLemmas.{contradicts-compared}
use Rattle.ep_defrag.proofs.ip_defrag_buf.IpDefragBuf.contradicts.Goals as goal

pub returns-then-start-reach : goal.returns-then-start-reach
returns-then-start-reach c accepted more holds =
    sym
    (no_contradiction-after c.args.self.now accepted (fragment_with c.args.offset more c.args.payload.now) holds
    (omega (arith, c.byte_offset-start.ensures, c.reach.ensures, c.if-start-reach.true)))

pub returns-then-not-overlaps : goal.returns-then-not-overlaps
returns-then-not-overlaps c accepted more holds =
    let self = c.args.self.now in
    let fragment = fragment_with c.args.offset more c.args.payload.now in
    let found =
    overlap_found self fragment c.byte_offset-start.result c.byte_offset-start.ensures c.near-near.result.now
    c.near-near.ensures c.overlaps.result c.overlaps.ensures in
    sym (no_contradiction self accepted fragment holds (found ∙ c.if-not-overlaps.true))

pub returns-then-not-includes : goal.returns-then-not-includes
returns-then-not-includes c accepted more holds =
    let self = c.args.self.now in
    let fragment = fragment_with c.args.offset more c.args.payload.now in
    let found =
    tests_found self fragment c.byte_offset-start.result c.byte_offset-start.ensures c.near-near.result.now
    c.near-near.ensures c.overlaps.result c.includes.result c.overlaps.ensures c.includes.ensures in
    sym
    (contradicts-beyond self accepted fragment holds (found.0 ∙ c.if-not-overlaps.false)
    (found.1 ∙ c.if-not-includes.true))

pub returns-in-Some : goal.returns-in-Some
returns-in-Some c accepted more holds =
    let self = c.args.self.now in
    let payload = c.args.payload.now in
    let fragment = fragment_with c.args.offset more payload in
    let found =
    tests_found self fragment c.byte_offset-start.result c.byte_offset-start.ensures c.near-near.result.now
    c.near-near.ensures c.overlaps.result c.includes.result c.overlaps.ensures c.includes.ensures in
    let start : c.from.result ≡ 8 * c.args.offset = c.from.ensures ∙ c.byte_offset-start.ensures in
    let end : c.from-2.result ≡ 8 * c.args.offset + length payload =
    c.from-2.ensures ∙ ap (λ (from : ℕ). from + length payload) c.byte_offset-start.ensures in
    let came : c.in-Some.came.now
    ≡ slice_range (data_of self) (8 * c.args.offset) (8 * c.args.offset + length payload) =
    c.in-Some.ensures.lookup.0.2
    ∙ ap (λ (bytes : List ℕ). slice_range bytes c.from.result c.from-2.result) c.deref.ensures.value
    ∙ ap (λ (from : ℕ). slice_range (data_of self) from c.from-2.result) start
    ∙ ap (λ (to : ℕ). slice_range (data_of self) (8 * c.args.offset) to) end in
    contradicts-compared self accepted fragment holds (found.0 ∙ c.if-not-overlaps.false)
    (found.1 ∙ c.if-not-includes.false) c.in-Some.came.now came c.ne.result c.ne.ensures

pub returns-in-None : goal.returns-in-None
returns-in-None c accepted more holds =
    let self = c.args.self.now in
    let fragment = fragment_with c.args.offset more c.args.payload.now in
    let found =
    tests_found self fragment c.byte_offset-start.result c.byte_offset-start.ensures c.near-near.result.now
    c.near-near.ensures c.overlaps.result c.includes.result c.overlaps.ensures c.includes.ensures in
    let within =
    within_data self accepted fragment holds (found.0 ∙ c.if-not-overlaps.false) (found.1 ∙ c.if-not-includes.false) in
    absurd (omega (
      arith,
      c.in-None.ensures.lookup.0,
      within,
      c.from.ensures,
      c.from-2.ensures,
      c.byte_offset-start.ensures,
      ap length c.deref.ensures.value,
    ))
