use Rattle.std.proofs.Common.{ℕ, List, map, Some, ap, sym, ◌∙◌}
use Rattle.std.proofs.lemmas.List.{drop_all, take_rest}
use Rattle.ep_lax.specs.LaxViews.{lax_extension_of}
use Rattle.ep_lax.specs.declared.lax_link_ext_slice.LaxLinkExtSlice.{LaxLinkExtSlice}
use Rattle.ep_packet.specs.Offsets.{tags_len}
use Rattle.packet_filter.specs.Packets.{type_number}
use Rattle.packet_filter.specs.Shown.{shown_packet}
use Rattle.packet_filter.proofs.TagLemmas.{bytes_after_tags, shown_tags}
use Rattle.packet_filter.proofs.subject.Subject.bytes_of_type.Goals as goal

pub returns-then-offset-self : goal.returns-then-offset-self
returns-then-offset-self c =
    ap (λ (bytes : List ℕ). Some bytes) (take_rest c.args.self.now.bytes.now _)
    ∙ bytes_after_tags c.args.ether_type.0 (shown_packet c.args.self.now) (type_number c.type_after_tags.result) _ _
    (sym c.is_type.ensures ∙ c.if-not-is_type.false) c.type_after_tags.ensures c.link_len.ensures.value
    (c.tags_len.ensures.value
    ∙ ap (λ (slices : List LaxLinkExtSlice). tags_len (map lax_extension_of slices)) c.as_slice.ensures.value
    ∙ ap tags_len (sym (shown_tags _ c.args.self.now.packet.now.link_exts.items)))

pub returns-else-offset-self : goal.returns-else-offset-self
returns-else-offset-self c =
    ap (λ (bytes : List ℕ). Some bytes) (sym (drop_all _ c.args.self.now.bytes.now c.if-offset-self.false))
    ∙ bytes_after_tags c.args.ether_type.0 (shown_packet c.args.self.now) (type_number c.type_after_tags.result) _ _
    (sym c.is_type.ensures ∙ c.if-not-is_type.false) c.type_after_tags.ensures c.link_len.ensures.value
    (c.tags_len.ensures.value
    ∙ ap (λ (slices : List LaxLinkExtSlice). tags_len (map lax_extension_of slices)) c.as_slice.ensures.value
    ∙ ap tags_len (sym (shown_tags _ c.args.self.now.packet.now.link_exts.items)))
