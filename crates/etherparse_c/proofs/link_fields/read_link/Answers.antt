use Rattle.std.proofs.Common.{inl, inr}
use Rattle.etherparse_c.specs.FieldAnswers.{HasEthernet2, HasLinuxSll}
use Rattle.etherparse_c.proofs.FieldLemmas.{tag_kind_1, tag_kind_2, reads_as, reads_at}
use Rattle.etherparse_c.proofs.link_fields.read_link.Goals as goal

pub returns-then-link-eq-LINK_ETHERNET2 : goal.returns-then-link-eq-LINK_ETHERNET2
returns-then-link-eq-LINK_ETHERNET2 c = reads_as
    (reads_at HasEthernet2 c.args.bytes.now c.in-Some.header.now c.args.link.now.offset c.args.link.now.len
    c.in-Some.ensures.0 c.in-Some.ensures.1 c.read_ethernet2.ensures)
    (λ other holds. inr (inl (c.if-link-eq-LINK_ETHERNET2.true, holds)))
    (λ other at. tag_kind_1 c.if-link-eq-LINK_ETHERNET2.true at)

pub returns-then-link-eq-LINK_LINUX_SLL : goal.returns-then-link-eq-LINK_LINUX_SLL
returns-then-link-eq-LINK_LINUX_SLL c = reads_as
    (reads_at HasLinuxSll c.args.bytes.now c.in-Some.header.now c.args.link.now.offset c.args.link.now.len
    c.in-Some.ensures.0 c.in-Some.ensures.1 c.read_linux_sll.ensures)
    (λ other holds. inr (inr (c.if-link-eq-LINK_LINUX_SLL.true, holds)))
    (λ other at. tag_kind_2 c.if-link-eq-LINK_LINUX_SLL.true at)
