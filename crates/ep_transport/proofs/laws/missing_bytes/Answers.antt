use Rattle.ep_base.specs.declared.err.tcp.HeaderSliceError.TheVariants.{Len}
use Rattle.ep_transport.proofs.MissingLemmas.{icmpv4_tells, icmpv6_tells, tcp_tells, transport_counts, transport_tells, udp_header_tells, udp_tells}
use Rattle.ep_transport.proofs.laws.missing_bytes.Goals as goal

pub returns : goal.returns
returns c = record {
  udp_header = udp_header_tells;
  udp = udp_tells;
  tcp = tcp_tells;
  icmpv4 = icmpv4_tells;
  icmpv6 = icmpv6_tells;
  transport = transport_tells;
  limit = λ reading number fragmented bytes error refused.
      (transport_counts reading number fragmented bytes (Len error) refused).1;
}
