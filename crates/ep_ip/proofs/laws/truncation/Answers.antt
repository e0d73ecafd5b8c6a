use Rattle.ep_ip.proofs.CutRefusalLemmas.{ip_cut, ipv4_cut, ipv4_header_cut, ipv4_packet_cut, ipv6_cut, ipv6_header_cut, ipv6_packet_cut}
use Rattle.ep_ip.proofs.laws.truncation.Goals as goal

pub returns : goal.returns
returns c = record {
  ipv4_header = ipv4_header_cut;
  ipv6_header = ipv6_header_cut;
  ipv4_packet = ipv4_packet_cut;
  ipv6_packet = ipv6_packet_cut;
  ipv4 = ipv4_cut;
  ipv6 = ipv6_cut;
  ip = ip_cut;
}
