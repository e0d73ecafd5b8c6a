use Rattle.std.proofs.Common.{arith}
use Rattle.ep_packet.proofs.IpHeadersLemmas.{set_ipv4}
use Rattle.ep_packet.proofs.ip_headers.IpHeaders.set_payload_len.Goals as goal

pub returns-in-Some : goal.returns-in-Some
returns-in-Some c =
    let more = c.header_len-extensions_len.ensures.bytes in
    let short = c.header_len-ip_header_len.ensures in
    set_ipv4 c.args.self.now c.in-Ipv4.header c.set_payload_len.new.self c.in-Ipv4.extensions c.args.len
    c.in-Some.content_len c.set_payload_len.result c.in-Ipv4.is (omega (arith, c.in-Some.ensures, more))
    (omega (arith, c.in-Some.ensures)) (omega (arith, short.value, short.bound)) c.set_payload_len.ensures
