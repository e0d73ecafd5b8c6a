use Rattle.std.proofs.Common.{inl, inr}
use Rattle.etherparse_c.specs.FieldAnswers.{HasEthernet2}
use Rattle.etherparse_c.proofs.FieldLemmas.{reads_as, reads_at, reads_true, tag_kind_1}
use Rattle.etherparse_c.proofs.plain_fields.read_plain_link.Goals as goal

pub returns-then-link-eq-LINK_ETHERNET2 : goal.returns-then-link-eq-LINK_ETHERNET2
returns-then-link-eq-LINK_ETHERNET2 c = λ is_read. reads_true is_read (reads_as
    (reads_at HasEthernet2 c.args.bytes.now c.in-Some.header.now c.args.link.now.offset c.args.link.now.len
    c.in-Some.ensures.0 c.in-Some.ensures.1 c.read_ethernet2.ensures)
    (λ other holds. inr (inl (c.if-link-eq-LINK_ETHERNET2.true, holds)))
    (λ other at. tag_kind_1 c.if-link-eq-LINK_ETHERNET2.true at))
