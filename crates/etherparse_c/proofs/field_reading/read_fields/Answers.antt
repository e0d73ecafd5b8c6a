use Rattle.etherparse_c.proofs.AllFieldLemmas.{reads_fields}
use Rattle.etherparse_c.proofs.FieldLemmas.{not_read, reads_none}
use Rattle.etherparse_c.proofs.field_reading.read_fields.Goals as goal

pub returns-then-not-read_link : goal.returns-then-not-read_link
returns-then-not-read_link c =
    reads_none _ (λ other are. not_read c.read_link.ensures c.if-not-read_link.true other.link are.link)

pub returns-then-not-read_tags : goal.returns-then-not-read_tags
returns-then-not-read_tags c =
    reads_none _ (λ other are. not_read c.read_tags.ensures c.if-not-read_tags.true other.tags are.tags)

pub returns-then-not-read_net : goal.returns-then-not-read_net
returns-then-not-read_net c =
    reads_none _ (λ other are. not_read c.read_net.ensures c.if-not-read_net.true (other.ip, other.arp) are.net)

pub returns : goal.returns
returns c = reads_fields c.if-not-read_link.ensures c.if-not-read_tags.ensures c.if-not-read_net.ensures
    c.read_transport.ensures
