use Rattle.etherparse_c.proofs.laws.header_lens.Goals as goal

pub returns : goal.returns
returns c = record {
  link = c.header_lens.ensures.link;
  tag = c.header_lens.ensures.tag;
  tags = c.header_lens.ensures.tags;
  net = c.header_lens.ensures.net;
  transport = c.header_lens.ensures.transport;
}
