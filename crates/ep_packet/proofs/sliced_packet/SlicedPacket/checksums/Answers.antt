use Rattle.std.proofs.Common.{◌≡◌, false, Option, Some, sym, ap, ◌∙◌, rules}
use Rattle.std.specs.Option.{option_and_then, option_map}
use Rattle.ep_ip.specs.Ipv4Slices.{ipv4_slice_bytes, ipv4_slice_content, ipv4_slice_extensions, ipv4_slice_header}
use Rattle.ep_packet.specs.Layers.{net_layer_of}
use Rattle.ep_packet.specs.Verdicts.{message_of, slice_header_verdict, transport_verdict}
use Rattle.ep_packet.specs.declared.checksum_verdict.ChecksumVerdicts.{ChecksumVerdicts}
use Rattle.ep_packet.specs.declared.net_slice.NetSlice.{NetSlice}
use Rattle.ep_packet.specs.declared.net_slice.NetSlice.TheVariants as net
use Rattle.ep_packet.proofs.VerdictLemmas.{ipv4_verdicts}
use Rattle.ep_packet.proofs.sliced_packet.SlicedPacket.checksums.Goals as goal

pub returns-in-Some-Ipv4 : goal.returns-in-Some-Ipv4
returns-in-Some-Ipv4 c =
    let packet = c.in-Some-Ipv4.packet in
    let extensions = ipv4_slice_extensions packet in
    let message = option_map message_of c.args.self.now.transport in
    let is : c.args.self.now.net ≡ Some (net.Ipv4 packet) = search rules in
    let verdicts : Option NetSlice → ChecksumVerdicts = λ layer. record {
      ipv4_header = option_and_then slice_header_verdict layer;
      transport = transport_verdict (option_map net_layer_of layer) false message;
    } in
    ipv4_verdicts c.of_ipv4.result c.header-header.result (ipv4_slice_header packet) (ipv4_slice_content packet)
    (ipv4_slice_bytes packet) extensions _ _ false message c.of_ipv4.ensures.header (c.of_ipv4.ensures.transport extensions)
    c.header-header.ensures.bytes c.header-header.ensures.header c.payload.ensures
    ∙ ap verdicts (sym is)
