use Rattle.std.proofs.Common.{false, Option, ap, sym, ◌∙◌}
use Rattle.std.specs.Option.{option_map, option_map_or}
use Rattle.ep_lax.specs.LaxViews.{lax_net_layer_of}
use Rattle.ep_lax.specs.declared.lax_net_slice.LaxNetSlice.{LaxNetSlice}
use Rattle.filter_tokens.specs.declared.primitive.Primitive.{Primitive}
use Rattle.filter_tokens.specs.Networks.{is_within}
use Rattle.packet_filter.specs.Meaning.{at_side_of, matches_primitive}
use Rattle.packet_filter.specs.Packets.{addresses_of}
use Rattle.packet_filter.specs.Shown.{shown_packet}
use Rattle.packet_filter.proofs.matching.matches_primitive.Goals as goal

pub returns-in-Some-net : goal.returns-in-Some-net
returns-in-Some-net c =
    let addressed = c.in-Address in
    c.has_address.ensures
    ∙ sym (ap (λ (net : Option LaxNetSlice). option_map_or
    (λ layer. at_side_of addressed.side (is_within addressed.network) (addresses_of addressed.layer layer))
    (option_map lax_net_layer_of net) false) c.in-Some-net.is)
    ∙ sym (ap (λ (primitive : Primitive). matches_primitive primitive (shown_packet c.args.subject.now)) addressed.is)
