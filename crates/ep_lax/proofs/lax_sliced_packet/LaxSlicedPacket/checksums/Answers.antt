use Rattle.std.proofs.Common.{◌≡◌, Bool, false, Option, Some, sym, ap, ◌∙◌, rules}
use Rattle.std.specs.Option.{option_and_then, option_map}
use Rattle.ep_transport.specs.TransportParts.{transport_layer_of}
use Rattle.ep_packet.specs.Verdicts.{message_of, transport_verdict}
use Rattle.ep_packet.specs.declared.checksum_verdict.ChecksumVerdicts.{ChecksumVerdicts}
use Rattle.ep_packet.proofs.VerdictLemmas.{ipv4_verdicts}
use Rattle.ep_lax.specs.LaxPackets.{extensions_incomplete, net_incomplete, transport_incomplete}
use Rattle.ep_lax.specs.LaxSlices.{lax_ipv4_slice_bytes, lax_ipv4_slice_content, lax_ipv4_slice_extensions}
use Rattle.ep_lax.specs.LaxSlices.{lax_ipv4_slice_header}
use Rattle.ep_lax.specs.LaxVerdicts.{lax_header_verdict}
use Rattle.ep_lax.specs.LaxViews.{lax_net_layer_of}
use Rattle.ep_lax.specs.declared.lax_net_slice.LaxNetSlice.{LaxNetSlice}
use Rattle.ep_lax.specs.declared.lax_net_slice.LaxNetSlice.TheVariants as net
use Rattle.ep_lax.proofs.lax_sliced_packet.LaxSlicedPacket.checksums.Goals as goal

pub returns-in-Some-Ipv4 : goal.returns-in-Some-Ipv4
returns-in-Some-Ipv4 c =
    let packet = c.in-Some-Ipv4.packet in
    let shown = c.args.self.now in
    let extensions = lax_ipv4_slice_extensions packet in
    let message = option_map message_of shown.transport in
    let is : shown.net ≡ Some (net.Ipv4 packet) = search rules in
    let inside : Bool → Bool = λ outer. transport_incomplete outer (option_map transport_layer_of shown.transport) in
    let verdicts : Bool → Option LaxNetSlice → ChecksumVerdicts = λ incomplete layer. record {
      ipv4_header = option_and_then lax_header_verdict layer;
      transport = transport_verdict (option_map lax_net_layer_of layer) incomplete message;
    } in
    let outer = extensions_incomplete false shown.link_exts.items in
    let incomplete = c.transport_incomplete.result in
    ipv4_verdicts c.of_ipv4.result c.header.result (lax_ipv4_slice_header packet) (lax_ipv4_slice_content packet)
    (lax_ipv4_slice_bytes packet) extensions _ _ incomplete message c.of_ipv4.ensures.header (c.of_ipv4.ensures.transport extensions)
    c.header.ensures.bytes c.header.ensures.header (c.available.ensures ∙ c.payload-payload.ensures.payload)
    ∙ ap (λ (missing : Bool). verdicts missing (Some (net.Ipv4 packet)))
    (c.transport_incomplete.ensures ∙ ap inside c.payload-payload.ensures.incomplete)
    ∙ ap (λ (layer : Option LaxNetSlice). verdicts (inside (net_incomplete outer layer)) layer) (sym is)
