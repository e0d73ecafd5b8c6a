use Rattle.std.proofs.Common.{None, ap, subst, ◌∙◌, ◌-◌, List, length}
use Rattle.ep_link.specs.declared.link_ext.link_ext_header.LinkExtHeader.{LinkExtHeader}
use Rattle.ep_packet.specs.Frame.{most_link_exts}
use Rattle.ep_lax.specs.LaxHeadersWalk.{FillsLaxInside}
use Rattle.ep_lax.specs.LaxPacketHeaders.{LaxHeaders, lax_headers_of}
use Rattle.ep_lax.proofs.LaxPacketHeadersLemmas.{first_payload, link_filled, link_untyped_filled}
use Rattle.ep_lax.proofs.lax_packet_headers.LaxPacketHeaders.fill_link.Goals as goal

pub returns-in-Some : goal.returns-in-Some
returns-in-Some c =
    let begun = lax_headers_of c.set_link.new.self in
    let new = lax_headers_of c.fill_inside.new.self in
    let none = ap (λ (h : LaxHeaders). h.link_exts) c.set_link.ensures in
    link_filled c.args.part c.in-Some.ether_type begun new c.in-Some.is
    (ap (λ (h : LaxHeaders). h.link) c.set_link.ensures ∙ c.to_header.ensures) none
    (subst (λ (tags : List LinkExtHeader). FillsLaxInside (most_link_exts - length tags) c.args.part.offset
    (first_payload c.in-Some.ether_type c.args.part.slice.now) begun new) none c.fill_inside.ensures)

pub returns-in-None : goal.returns-in-None
returns-in-None c =
    let begun = lax_headers_of c.set_link.new.self in
    let new = lax_headers_of c.set_payload.new.self in
    link_untyped_filled c.args.part begun new c.in-None.is
    (ap (λ (h : LaxHeaders). h.link) c.set_link.ensures ∙ c.to_header.ensures)
    (ap (λ (h : LaxHeaders). h.link_exts) c.set_link.ensures)
    (c.set_payload.ensures ∙ (λ i. record begun {
      net = None;
      transport = None;
      payload = c.untyped_payload.ensures i;
      stop = None;
    }))
