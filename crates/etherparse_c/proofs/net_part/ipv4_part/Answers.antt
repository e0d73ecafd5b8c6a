use Rattle.std.proofs.Common.{ap, sym, ◌∙◌}
use Rattle.etherparse.specs.IpPayload.{IpPayload}
use Rattle.etherparse.specs.Ipv4Slices.{ipv4_slice_payload}
use Rattle.etherparse.specs.Types.Ipv4Header.{Ipv4Header}
use Rattle.etherparse_c.specs.Description.{ipv4_part}
use Rattle.etherparse_c.proofs.net_part.ipv4_part.Goals as goal

pub returns : goal.returns
returns c =
    let payload = ipv4_slice_payload c.args.packet.now in
    let payload_is = c.payload-payload.ensures in
    c.ipv4_header_part.ensures payload (sym (ap (λ (p : IpPayload). p.number) payload_is))
    (sym (ap (λ (p : IpPayload). p.fragmented) payload_is))
    ∙ ap (λ (header : Ipv4Header). ipv4_part header payload) c.header.ensures.header
