use Rattle.std.proofs.Common.{◌-◌, List, take, drop, ap, subst, sym, ◌∙◌}
use Rattle.ep_defrag.specs.declared.ip_frag_range.IpFragRange.{IpFragRange}
use Rattle.ep_defrag.specs.Buffers.{sections_of, AreNeighbours}
use Rattle.ep_defrag.proofs.JoiningLemmas.{near_sections}
use Rattle.ep_defrag.proofs.ip_defrag_buf.IpDefragBuf.near.Goals as goal

pub returns : goal.returns
returns c =
    let self = c.args.self.now in
    let near = c.neighbours-near.result in
    ap (λ (sections : List IpFragRange). take (near.end - near.start) (drop near.start sections))
    c.deref-2.ensures.value
    ∙ sym
    (near_sections c.args.range c.requires (sections_of self) self.in_order near.start near.end
    (subst (λ (sections : List IpFragRange). AreNeighbours c.args.range sections near.start near.end)
    c.deref.ensures.value c.neighbours-near.ensures.near))
