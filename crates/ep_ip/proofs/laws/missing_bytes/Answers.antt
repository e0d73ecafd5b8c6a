use Rattle.ep_ip.proofs.MissingLemmas.{ip_tells, ipv4_header_tells, ipv4_packet_tells, ipv4_tells, ipv6_header_tells, ipv6_packet_tells, ipv6_tells, open_payload}
use Rattle.ep_ip.proofs.laws.missing_bytes.Goals as goal

pub returns : goal.returns
returns c = record {
  ipv4_header = ipv4_header_tells;
  ipv4_packet = ipv4_packet_tells;
  ipv6_header = ipv6_header_tells;
  ipv6_packet = ipv6_packet_tells;
  ipv4 = ipv4_tells;
  ipv6 = ipv6_tells;
  ip = ip_tells;
  payload = open_payload;
}
