use Rattle.std.proofs.Common.{Bool, List, ℕ, [], ◌∷◌, ap, ◌∙◌}
use Rattle.ep_ip.specs.declared.ipv4_header.Ipv4Header.{Ipv4Header}
use Rattle.ep_lax.specs.LaxSlices.{lax_ipv4_slice_header}
use Rattle.packet_filter.specs.Meaning.{at_side_of}
use Rattle.packet_filter.proofs.addresses.has_ipv4_address.Goals as goal

pub returns : goal.returns
returns g c =
    let within : List ℕ → Bool = g.A.HasAddress.holds c.args.addresses.now in
    let shown = lax_ipv4_slice_header c.args.packet.now in
    let same_header = c.header-header.ensures.header in
    c.is_at_side.ensures
    ∙ ap (λ (source : List ℕ). at_side_of c.args.side within (source ∷ c.destination.result ∷ []))
    (c.source.ensures ∙ ap (λ (header : Ipv4Header). header.source) same_header)
    ∙ ap (λ (destination : List ℕ). at_side_of c.args.side within (shown.source ∷ destination ∷ []))
    (c.destination.ensures ∙ ap (λ (header : Ipv4Header). header.destination) same_header)
