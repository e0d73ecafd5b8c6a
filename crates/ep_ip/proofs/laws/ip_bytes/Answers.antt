use Rattle.ep_ip.proofs.IpBytesLemmas.{ipv4_packet_bytes, ipv6_packet_bytes}
use Rattle.ep_ip.proofs.laws.ip_bytes.Goals as goal

pub returns : goal.returns
returns c = record { ipv4 = ipv4_packet_bytes; ipv6 = ipv6_packet_bytes }
