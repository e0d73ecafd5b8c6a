use Rattle.std.proofs.lemmas.Result.{on_ok_weaker}
use Rattle.std.specs.Prelude.{codes}
use Rattle.etherparse.specs.Tcp.{tcp_header_of}
use Rattle.packet_text.specs.Transports.{ports_at, state_text}
use Rattle.packet_text.proofs.LineLemmas.{three_parts}
use Rattle.packet_text.proofs.transports.push_tcp.Goals as goal

pub returns : goal.returns
returns c =
    let bytes = c.args.bytes.now in
    on_ok_weaker c.push_state.result
    (λ last.
    three_parts c.args.output.now.items c.extend_from_slice.new.self.items c.push_ports_at.new.output.items
    c.push_state.new.output.items (codes " tcp ") (ports_at bytes) (state_text (tcp_header_of bytes))
    c.in_ok-extend_from_slice.ensures.items c.in_ok-push_ports_at.ensures last) c.push_state.ensures
