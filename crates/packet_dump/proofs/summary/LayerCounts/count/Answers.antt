use Rattle.std.proofs.Common.{false}
use Rattle.packet_text.proofs.LayerLemmas.{extensions_in}
use Rattle.packet_dump.proofs.summary.LayerCounts.count.Goals as goal

pub returns : goal.returns
returns c =
    rw (c.count_transport.ensures, c.count_fragment.ensures, c.is_ip_payload_fragmented.ensures, c.count_net.ensures)
    (rw (c.count_extensions.ensures, c.as_slice.ensures.value, c.count_link.ensures, c.count_cooked.ensures)
    (rw (extensions_in false c.args.read.now.link_exts.items)))
