use Rattle.std.proofs.Common.{inl, inr}
use Rattle.etherparse_c.specs.FieldAnswers.{HasMacsec, HasVlan}
use Rattle.etherparse_c.proofs.FieldLemmas.{tag_kind_1, tag_kind_2, reads_as, reads_at}
use Rattle.etherparse_c.proofs.link_fields.read_tag.Goals as goal

pub returns-in-1 : goal.returns-in-1
returns-in-1 c = reads_as
    (reads_at HasVlan c.args.bytes.now c.in-Some.header.now c.args.tag.now.offset c.args.tag.now.len
    c.in-Some.ensures.0 c.in-Some.ensures.1 c.read_vlan.ensures)
    (λ other holds. inr (inl (c.in-1.is, holds)))
    (λ other at. tag_kind_1 c.in-1.is at)

pub returns-in-2 : goal.returns-in-2
returns-in-2 c = reads_as
    (reads_at HasMacsec c.args.bytes.now c.in-Some.header.now c.args.tag.now.offset c.args.tag.now.len
    c.in-Some.ensures.0 c.in-Some.ensures.1 c.read_macsec.ensures)
    (λ other holds. inr (inr (c.in-2.is, holds)))
    (λ other at. tag_kind_2 c.in-2.is at)
