use Rattle.etherparse_c.proofs.AllFieldLemmas.{reads_fields}
use Rattle.etherparse_c.proofs.plain_fields.read_plain_fields.Goals as goal

pub returns : goal.returns
returns c = λ is_read. reads_fields (c.read_plain_link.ensures is_read)
    (c.read_no_tags.ensures c.if-not-read_no_tags.false c.args.bytes.now)
    (c.read_plain_ipv4.ensures c.if-not-read_plain_ipv4.false)
    (c.read_plain_transport.ensures c.if-not-read_plain_transport.false)
