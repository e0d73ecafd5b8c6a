use Rattle.std.proofs.Common.{◌-◌, List, take, drop, length, ap, ◌∙◌, sym, arith}
use Rattle.ep_defrag.specs.declared.ip_frag_range.IpFragRange.{IpFragRange}
use Rattle.ep_defrag.specs.Buffers.{data_of, sections_of}
use Rattle.ep_defrag.specs.BoundedOverlaps.{data_with_missing}
use Rattle.ep_defrag.proofs.SectionLemmas.{IsOrdered}
use Rattle.ep_defrag.proofs.JoiningLemmas.{near_sections, near_apart}
use Rattle.ep_defrag.proofs.BoundedOverlapLemmas.{data_near, length-missing}
use Rattle.ep_defrag.proofs.ip_defrag_buf.IpDefragBuf.accept_missing.Goals as goal

pub write_missing-requires-clause-separate : goal.write_missing-requires-clause-separate
write_missing-requires-clause-separate c =
    let self = c.reserve.new.self in
    let near = c.in_ok-near.near in
    rw c.deref.ensures.value
    (near_apart c.args.range (omega (arith, c.requires)) (sections_of self) self.in_order near.start near.end
    c.in_ok-near.ensures.near)

pub invariant_of-self-clause-short : goal.invariant_of-self-clause-short
invariant_of-self-clause-short c =
    omega (
      arith,
      c.write_missing.new.bytes.ok.0,
      ap length c.write_missing.ensures.items,
      length-missing (data_of c.reserve.new.self)
          (take (c.in_ok-near.near.end - c.in_ok-near.near.start) (drop c.in_ok-near.near.start c.deref.result.now))
          c.args.range c.args.payload.now,
      c.reserve.new.self.bytes.ok.0,
      c.reserve.new.self.short,
    )

pub returns-clause-data : goal.returns-clause-data
returns-clause-data c =
    let self = c.reserve.new.self in
    let range = c.args.range in
    let payload = c.args.payload.now in
    let near = c.in_ok-near.near in
    let ordered : IsOrdered range = omega (arith, c.requires) in
    let same = c.in_ok-near.ensures.same in
    let filtered =
    near_sections range ordered (sections_of self) self.in_order near.start near.end c.in_ok-near.ensures.near in
    c.merge.ensures.data
    ∙ c.write_missing.ensures.items
    ∙ ap (λ (sections : List IpFragRange).
    data_with_missing (data_of self) (take (near.end - near.start) (drop near.start sections)) range payload)
    c.deref.ensures.value
    ∙ ap (λ (sections : List IpFragRange). data_with_missing (data_of self) sections range payload) (sym filtered)
    ∙ data_near range (sections_of self) (data_of self) payload
    ∙ ap (λ contents. data_with_missing contents (sections_of self) range payload) same.contents
    ∙ ap (λ (sections : List IpFragRange). data_with_missing (data_of c.args.self.now) sections range payload)
    same.sections
