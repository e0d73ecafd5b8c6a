use Rattle.ep_packet.proofs.OffsetLemmas.{link_encoded, net_encoded, tag_encoded, tags_encoded, transport_encoded}
use Rattle.ep_packet.proofs.laws.header_lens.Goals as goal

pub returns : goal.returns
returns c = record {
  link = link_encoded;
  tag = tag_encoded;
  tags = tags_encoded;
  net = net_encoded;
  transport = transport_encoded;
}
