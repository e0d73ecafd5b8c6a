-- The headers of the first segment of a TCP connection.
use Rattle.std.specs.Prelude.{ℕ, true, [], ◌∷◌}
use Rattle.etherparse.specs.BuiltFrames.{FrameHeaders, transport_frame_headers}
use Rattle.etherparse.specs.Steps.{ipv4_headers_between}
use Rattle.etherparse.specs.Tcp.{default_tcp_header}
use Rattle.etherparse.specs.Types.TcpHeader.{TcpHeader}
use Rattle.etherparse.specs.Types.TransportHeader.TheVariants as header
use Rattle.example_generators.specs.Ends.{ethernet_header}

-- the TCP header with the options maximum segment size 1460, no-operation, and window scale 7
abbrev pub tcp_header : ℕ → TcpHeader
tcp_header sequence_number = record default_tcp_header {
  source_port = 4000;
  destination_port = 53;
  sequence_number = sequence_number;
  window_size = 65535;
  syn = true;
  options = 2 ∷ 4 ∷ 5 ∷ 180 ∷ 1 ∷ 3 ∷ 3 ∷ 7 ∷ [];
}

-- all headers of the frame
abbrev pub syn_headers : ℕ → FrameHeaders
syn_headers sequence_number = transport_frame_headers
    ethernet_header
    (ipv4_headers_between (192 ∷ 0 ∷ 2 ∷ 1 ∷ []) (192 ∷ 0 ∷ 2 ∷ 2 ∷ []) 64)
    (header.Tcp (tcp_header sequence_number))
