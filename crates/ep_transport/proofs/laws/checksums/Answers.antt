use Rattle.std.proofs.Common.{◌++◌, take, drop, refl, arith}
use Rattle.std.specs.Int.{w16, to_be_bytes}
use Rattle.std.proofs.lemmas.List.{length-take}
use Rattle.ep_transport.specs.Tcp.{tcp_bytes}
use Rattle.ep_transport.proofs.SumLemmas.{filled, filled_no_zero}
use Rattle.ep_transport.proofs.laws.checksums.Goals as goal

pub returns-clause-udp : goal.returns-clause-udp
returns-clause-udp c = λ prefix header payload even.
    filled_no_zero prefix (to_be_bytes w16 header.source_port ++ to_be_bytes w16 header.destination_port
    ++ to_be_bytes w16 header.length) payload even refl

pub returns-clause-tcp : goal.returns-clause-tcp
returns-clause-tcp c = λ prefix header payload even.
    filled prefix (take 16 (tcp_bytes header)) (drop 18 (tcp_bytes header ++ payload)) even refl

pub returns-clause-segment_bytes : goal.returns-clause-segment_bytes
returns-clause-segment_bytes c = λ prefix bytes even long.
    filled prefix (take 16 bytes) (drop 18 bytes) even (omega (arith, length-take 16 bytes, long))
