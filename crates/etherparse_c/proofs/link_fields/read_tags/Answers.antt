use Rattle.etherparse_c.proofs.link_fields.read_tags.Goals as goal

pub returns-then-read_no_tags : goal.returns-then-read_no_tags
returns-then-read_no_tags c = c.read_no_tags.ensures c.if-read_no_tags.true c.args.bytes.now
