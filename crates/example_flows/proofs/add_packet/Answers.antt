use Rattle.std.proofs.Common.{rules, length, ◌≡◌}
use Rattle.std.specs.Prelude.{unwrap_or}
use Rattle.etherparse.specs.Layers.{layers_of}
use Rattle.etherparse.specs.TcpSlices.{tcp_slice_header, tcp_slice_payload}
use Rattle.etherparse.specs.Types.TcpSlice.{TcpSlice}
use Rattle.example_flows.specs.Flows.{Addresses, Segment, nothing, segment_in, v4, v6}
use Rattle.example_flows.proofs.CountingLemmas.{seen_before, counted, not_counted}
use Rattle.example_flows.proofs.add_packet.Goals as goal
use Rattle.example_flows.proofs.add_packet.Goals.{in-Some-Ipv4, in-Some-Ipv6}

-- the segment of a TCP slice with these addresses
abbrev segment : TcpSlice → Addresses → Segment
segment slice addresses =
    record { addresses = addresses; tcp = tcp_slice_header slice; len = length (tcp_slice_payload slice) }

pub returns : goal.returns
returns c =
    let before : c.unwrap_or_default-before.result ≡ unwrap_or c.copied.result nothing =
    seen_before _ c.copied.result _ (λ count is. search rules) c.unwrap_or_default-before.ensures in
    elim c.match-packet-4.branch [
      | in-Some-Ipv4 w ↦ counted _ _ (segment_in (layers_of c.args.packet.now)) c.args.flows.now c.insert.new.self
          (segment c.in-Some-Tcp.tcp (v4 _ _)) _ _ c.match-packet-4.flow _ _ _
          (w.from.ensures, w.from-in-Some-Ipv4.ensures) w.flow-is
          (search rules) (search rules) (search rules) (search rules) c.in_ok-insert.ensures.updates
      | in-Some-Ipv6 w ↦ counted _ _ (segment_in (layers_of c.args.packet.now)) c.args.flows.now c.insert.new.self
          (segment c.in-Some-Tcp.tcp (v6 _ _)) _ _ c.match-packet-4.flow _ _ _
          (w.from-in-Some-Ipv6.ensures, w.from-in-Some-Ipv6-2.ensures) w.flow-is
          (search rules) (search rules) (search rules) (search rules) c.in_ok-insert.ensures.updates
    ]

pub returns-in_err-insert : goal.returns-in_err-insert
returns-in_err-insert c =
    elim c.match-packet-4.branch [
      | in-Some-Ipv4 w ↦ not_counted _ _ _ (segment_in (layers_of c.args.packet.now)) c.args.flows.now c.insert.new.self
          (segment c.in-Some-Tcp.tcp (v4 _ _)) _ _ c.match-packet-4.flow _ _ c.from_residual.ensures.0
          (w.from.ensures, w.from-in-Some-Ipv4.ensures) w.flow-is
          (search rules) (search rules) (search rules) c.in_err-insert.ensures.absent c.in_err-insert.ensures.err
      | in-Some-Ipv6 w ↦ not_counted _ _ _ (segment_in (layers_of c.args.packet.now)) c.args.flows.now c.insert.new.self
          (segment c.in-Some-Tcp.tcp (v6 _ _)) _ _ c.match-packet-4.flow _ _ c.from_residual.ensures.0
          (w.from-in-Some-Ipv6.ensures, w.from-in-Some-Ipv6-2.ensures) w.flow-is
          (search rules) (search rules) (search rules) c.in_err-insert.ensures.absent c.in_err-insert.ensures.err
    ]
