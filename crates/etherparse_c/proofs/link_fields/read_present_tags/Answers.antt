use Rattle.std.proofs.Common.{[], ◌∷◌, ◌∙◌}
use Rattle.etherparse_c.proofs.FieldLemmas.{not_read, reads_none, reads_one}
use Rattle.etherparse_c.proofs.FieldTagLemmas.{in_slots, of_slots}
use Rattle.etherparse_c.proofs.link_fields.read_present_tags.Goals as goal

pub returns-then-not-read_tag : goal.returns-then-not-read_tag
returns-then-not-read_tag c = reads_none _ (λ other are.
    let slots = in_slots c.args.tags.now c.args.bytes.now other c.told-tags are in
    not_read c.read_tag.ensures c.if-not-read_tag.true slots.outer slots.first)

pub returns-then-not-read_tag-2 : goal.returns-then-not-read_tag-2
returns-then-not-read_tag-2 c = reads_none _ (λ other are.
    let slots = in_slots c.args.tags.now c.args.bytes.now other c.told-tags are in
    not_read c.read_tag-2.ensures c.if-not-read_tag-2.true slots.middle slots.second)

pub returns-then-not-read_tag-3 : goal.returns-then-not-read_tag-3
returns-then-not-read_tag-3 c = reads_none _ (λ other are.
    let slots = in_slots c.args.tags.now c.args.bytes.now other c.told-tags are in
    not_read c.read_tag-3.ensures c.if-not-read_tag-3.true slots.inner slots.third)

pub returns : goal.returns
returns c = reads_one _
    (of_slots c.args.tags.now c.args.bytes.now _ _ _ c.told-tags (c.read_tag.ensures.found c.if-not-read_tag.false)
    (c.read_tag-2.ensures.found c.if-not-read_tag-2.false) (c.read_tag-3.ensures.found c.if-not-read_tag-3.false))
    (λ other are.
    let slots = in_slots c.args.tags.now c.args.bytes.now other c.told-tags are in
    let outer = (c.read_tag.ensures.only slots.outer slots.first).1 in
    let middle = (c.read_tag-2.ensures.only slots.middle slots.second).1 in
    let inner = (c.read_tag-3.ensures.only slots.inner slots.third).1 in
    slots.same ∙ (λ i. outer i ∷ middle i ∷ inner i ∷ []))
