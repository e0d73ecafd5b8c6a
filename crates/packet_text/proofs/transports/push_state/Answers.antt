use Rattle.std.proofs.Common.{◌++◌, ◌∙◌}
use Rattle.std.proofs.lemmas.Result.{on_ok_weaker}
use Rattle.std.specs.Prelude.{codes}
use Rattle.std.specs.Fmt.{decimal}
use Rattle.etherparse.specs.Tcp.{tcp_header_of}
use Rattle.packet_text.specs.Transports.{acknowledgment_text, flags_text, state_text}
use Rattle.packet_text.proofs.LineLemmas.{four_parts}
use Rattle.packet_text.proofs.transports.push_state.Goals as goal

pub returns : goal.returns
unfolding state_text
returns c =
    let start = c.args.output.now.items in
    let header = tcp_header_of c.args.bytes.now in
    let number = c.from.ensures ∙ c.long_at.ensures in
    on_ok_weaker c.push_acknowledgment.result
    (λ last.
    four_parts start c.extend_from_slice.new.self.items c.push_flags.new.output.items c.push_with_text.new.output.items
    c.push_acknowledgment.new.output.items (codes " [") (flags_text header) (codes "] seq " ++ decimal c.from.result)
    (acknowledgment_text header) c.in_ok-extend_from_slice.ensures.items c.in_ok-push_flags.ensures
    c.in_ok-push_with_text.ensures.text last
    ∙ (λ i. start ++ (codes " [" ++ flags_text header ++ (codes "] seq " ++ decimal (number i))
    ++ acknowledgment_text header))) c.push_acknowledgment.ensures
