use Rattle.std.proofs.lemmas.Result.{IfOk-weaker, IfErr-weaker}
use Rattle.ep_packet.specs.PacketHeaders.{headers_of}
use Rattle.ep_packet.proofs.EntryHeadersLemmas.{ethernet_after_refused, ethernet_filled}
use Rattle.ep_packet.proofs.packet_headers.PacketHeaders.fill_ethernet.Goals as goal

pub returns-clause-ok : goal.returns-clause-ok
returns-clause-ok c =
    let ok = c.in-Ok.ensures.ok in
    IfOk-weaker c.fill_inside.result _ _
    (λ done fills. ethernet_filled c.args.bytes.now ok.0 c.in-Ok.frame c.to_header.result c.payload.result
    (headers_of c.args.self.now) c.set_link.new.self c.fill_inside.new.self ok.2 c.to_header.ensures
    c.payload.ensures.ether_type c.payload.ensures.len_source c.payload.ensures.payload c.set_link.ensures fills)
    c.fill_inside.ensures.ok

pub returns-clause-err : goal.returns-clause-err
returns-clause-err c =
    let ok = c.in-Ok.ensures.ok in
    IfErr-weaker c.fill_inside.result _ _
    (λ error refused. ethernet_after_refused c.args.bytes.now ok.0 c.in-Ok.frame c.payload.result
    (headers_of c.args.self.now) c.set_link.new.self _ error ok.2 c.payload.ensures.ether_type c.payload.ensures.payload
    c.set_link.ensures refused)
    c.fill_inside.ensures.err
