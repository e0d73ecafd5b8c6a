use Rattle.std.proofs.Common.{arith}
use Rattle.ep_packet.proofs.EntryHeadersLemmas.{filled_bytes, filled_only}
use Rattle.ep_packet.proofs.packet_headers.PacketHeaders.fill.Goals as goal

pub returns-clause-only : goal.returns-clause-only
returns-clause-only c =
    filled_only c.args.entry c.args.bytes.now (λ i. omega (arith, c.type_inv.bytes i)) c.fill_frame.result
    c.fill_frame.new.self c.fill_frame.ensures.ok c.fill_frame.ensures.err

pub returns-clause-bytes : goal.returns-clause-bytes
returns-clause-bytes c =
    filled_bytes c.args.entry c.args.bytes.now c.fill_frame.result c.fill_frame.new.self c.fill_frame.ensures.ok
