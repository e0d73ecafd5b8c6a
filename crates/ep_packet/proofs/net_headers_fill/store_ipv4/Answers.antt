use Rattle.std.proofs.Common.{Some, sym, ap, ◌∙◌}
use Rattle.ep_packet.specs.IpHeaders.{ipv4_extensions_of}
use Rattle.ep_packet.specs.declared.net_headers.NetHeaders.TheVariants as variant
use Rattle.ep_packet.proofs.IpHeadersLemmas.{ipv4_slice_value}
use Rattle.ep_packet.proofs.net_headers_fill.store_ipv4.Goals as goal

pub returns : goal.returns
returns c = λ left.
    let extensions = sym (ipv4_slice_value c.extensions.result) ∙ ap ipv4_extensions_of c.extensions.ensures.headers in
    c.store_ipv4_headers.ensures ∙ (λ i. Some (variant.Ipv4 (c.header.ensures.header i) (extensions i)))
