use Rattle.ep_transport.proofs.CutRefusalLemmas.{icmpv4_cut, icmpv6_cut, tcp_cut, transport_with_trailing_bytes, udp_cut, udp_header_cut}
use Rattle.ep_transport.proofs.laws.truncation.Goals as goal

pub returns : goal.returns
returns c = record {
  udp_header = udp_header_cut;
  udp = udp_cut;
  tcp = tcp_cut;
  icmpv4 = icmpv4_cut;
  icmpv6 = icmpv6_cut;
  transport = transport_with_trailing_bytes;
}
