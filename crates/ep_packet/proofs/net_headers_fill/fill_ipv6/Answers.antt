use Rattle.std.proofs.Common.{◌≡◌, [], false, sym, ◌∙◌, arith}
use Rattle.ep_base.specs.IpPayload.{ip_payload_of}
use Rattle.ep_base.specs.declared.ip_payload_slice.IpPayloadSlice.{IpPayloadSlice}
use Rattle.ep_ext.specs.Chains.{chain_of}
use Rattle.ep_ip.specs.IpPackets.{ipv6_part}
use Rattle.ep_ip.specs.Ipv6.{ipv6_payload_source}
use Rattle.ep_ip.proofs.PacketLemmas.{shown_packet}
use Rattle.ep_packet.proofs.HeadersLemmas.{fills_read}
use Rattle.ep_packet.proofs.NetFillLemmas.{plain_ipv6}
use Rattle.ep_packet.proofs.net_headers_fill.fill_ipv6.Goals as goal

pub returns-clause-ok : goal.returns-clause-ok
returns-clause-ok c =
    let bytes = c.args.slice.now in
    let header = c.in-Ok.cut.0 in
    let content = c.in-Ok.cut.1.now in
    let cut = c.in-Ok.ensures.ok in
    let number = header.next_header.0 in
    let none = sym c.is_extension.ensures ∙ c.if-is_extension.false in
    let source = c.in-Ok.ensures.source in
    let packet = shown_packet header (chain_of [] number content) false (ipv6_payload_source header content) cut.0 in
    let is = plain_ipv6 bytes content cut.0 header cut.1 none in
    let payload : IpPayloadSlice = record {
      ip_number = header.next_header;
      fragmented = false;
      len_source = c.in-Ok.cut.2;
      payload = c.in-Ok.cut.1;
    } in
    let same : ip_payload_of payload ≡ packet.payload =
    λ i. record { number = number; fragmented = false; source = source i; bytes = content } in (
      packet,
      is,
      fills_read bytes (ipv6_part packet) c.store_ipv6.new.net payload 40 is c.store_ipv6.ensures same
          (omega arith),
    )
