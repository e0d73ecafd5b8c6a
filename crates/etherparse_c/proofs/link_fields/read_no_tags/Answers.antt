use Rattle.std.proofs.Common.{[], ◌∷◌, ◌∙◌, inl, sym}
use Rattle.etherparse_c.proofs.FieldLemmas.{reads_one, tag_kind_0}
use Rattle.etherparse_c.proofs.FieldTagLemmas.{in_slots, of_slots}
use Rattle.etherparse_c.proofs.link_fields.read_no_tags.Goals as goal

pub returns-then-inner-eq0 : goal.returns-then-inner-eq0
returns-then-inner-eq0 c = λ is_read bytes.
    let none = c.no_tag_fields.ensures in
    let none_2 = c.no_tag_fields-then-inner-eq0.ensures in
    let none_3 = c.no_tag_fields-then-inner-eq0-2.ensures in
    reads_one _
    (of_slots c.args.tags.now bytes _ _ _ c.told-tags (inl (c.if-outer-eq0.true, none))
    (inl (c.if-middle-eq0.true, none_2)) (inl (c.if-inner-eq0.true, none_3)))
    (λ other are.
    let slots = in_slots c.args.tags.now bytes other c.told-tags are in
    let outer = tag_kind_0 c.if-outer-eq0.true slots.first ∙ sym none in
    let middle = tag_kind_0 c.if-middle-eq0.true slots.second ∙ sym none_2 in
    let inner = tag_kind_0 c.if-inner-eq0.true slots.third ∙ sym none_3 in
    slots.same ∙ (λ i. outer i ∷ middle i ∷ inner i ∷ []))
