use Rattle.std.proofs.Common.{◌≡◌, [], ◌∷◌, true, ap, rules, ◌∙◌}
use Rattle.etherparse.specs.BuiltFrames.{transport_frame_headers}
use Rattle.etherparse.specs.Steps.{ipv4_headers_between, transport_step_frame}
use Rattle.etherparse.specs.Tcp.{default_tcp_header}
use Rattle.etherparse.specs.Types.TcpHeader.{TcpHeader}
use Rattle.etherparse.specs.Types.TransportHeader.TheVariants as header
use Rattle.example_generators.specs.Ends.{ethernet_header}
use Rattle.example_generators.specs.Segments.{syn_headers}
use Rattle.example_generators.proofs.BuildingLemmas.{appends_known, kept_with_tcp, unwrapped}
use Rattle.example_generators.proofs.segments.write_syn.Goals as goal

pub returns : goal.returns
returns c =
    let with_syn : TcpHeader → TcpHeader = λ tcp. record tcp { syn = true } in
    let with_options : TcpHeader → TcpHeader = λ tcp. record tcp { options = 2 ∷ 4 ∷ 5 ∷ 180 ∷ 1 ∷ 3 ∷ 3 ∷ 7 ∷ [] } in
    let plain : transport_step_frame header.Tcp c.tcp.result ≡ transport_frame_headers
    ethernet_header
    (ipv4_headers_between (192 ∷ 0 ∷ 2 ∷ 1 ∷ []) (192 ∷ 0 ∷ 2 ∷ 2 ∷ []) 64)
    (header.Tcp (record default_tcp_header {
      source_port = 4000;
      destination_port = 53;
      sequence_number = c.args.sequence_number;
      window_size = 65535;
    })) = search rules in
    let same : transport_step_frame header.Tcp c.unwrap.result ≡ syn_headers c.args.sequence_number =
    ap (transport_step_frame header.Tcp) (unwrapped _ _ _ _ c.unwrap.ensures c.options.ensures).1
    ∙ ap (kept_with_tcp with_options)
    (ap (transport_step_frame header.Tcp) c.syn.ensures.header ∙ ap (kept_with_tcp with_syn) plain) in
    appends_known (transport_step_frame header.Tcp c.unwrap.result) (syn_headers c.args.sequence_number) [] c.args.buf.now
    c.write.new.buf c.write.result same
    c.write.ensures.ok c.write.ensures.err c.write.ensures.refused c.write.ensures.full
