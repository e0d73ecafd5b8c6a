use Rattle.std.proofs.Common.{◌≡◌, ◌-◌, false, map, length, Some, None, sym, ap, ◌∙◌, rules, tests}
use Rattle.std.specs.Prelude.{slice_get}
use Rattle.std.specs.Option.{option_map}
use Rattle.ep_base.specs.declared.len_source.LenSource.TheVariants as source
use Rattle.ep_link.specs.LinkExtensions.{extension_type}
use Rattle.ep_link.specs.LinkSlices.{link_layer_of}
use Rattle.ep_lax.specs.LaxPackets.{extensions_incomplete}
use Rattle.ep_lax.specs.LaxPayloads.{lax_ether_payload_of, source_after, typed_payload}
use Rattle.ep_lax.specs.LaxViews.{lax_extension_of}
use Rattle.ep_lax.proofs.LaxPayloadLemmas.{ether_payload_of_last}
use Rattle.ep_lax.proofs.lax_sliced_packet.LaxSlicedPacket.ether_payload.Goals as goal

pub returns-in_err-ether_type : goal.returns-in_err-ether_type
returns-in_err-ether_type c =
    let slices = c.args.self.now.link_exts.items in
    let last = c.in-Some.last.now in
    let found : slice_get slices (length slices - 1) ≡ Some last = search (rules, tests) in
    let shown = ether_payload_of_last (option_map link_layer_of c.args.self.now.link) slices last found in
    let type_is : extension_type (lax_extension_of last) ≡ None =
    sym c.next_ether_type.ensures ∙ c.in_err-ether_type.was in
    ap (option_map lax_ether_payload_of) c.from_residual-in_err-ether_type.ensures
    ∙ ap (option_map (typed_payload (source_after source.Slice (map lax_extension_of slices))
    (lax_extension_of last, extensions_incomplete false slices))) (sym type_is)
    ∙ sym shown

pub returns : goal.returns
returns c =
    let slices = c.args.self.now.link_exts.items in
    let last = c.in-Some.last.now in
    let found : slice_get slices (length slices - 1) ≡ Some last = search (rules, tests) in
    let shown = ether_payload_of_last (option_map link_layer_of c.args.self.now.link) slices last found in
    let type = c.in_ok-ether_type.ether_type in
    let type_is : extension_type (lax_extension_of last) ≡ Some type =
    sym c.next_ether_type.ensures ∙ c.in_ok-ether_type.was in
    (λ i. Some (record {
      ether_type = type;
      len_source = c.extensions_len_source.ensures i;
      bytes = c.payload_slice.ensures i;
      incomplete = c.extensions_incomplete.ensures i;
    }))
    ∙ ap (option_map (typed_payload (source_after source.Slice (map lax_extension_of slices))
    (lax_extension_of last, extensions_incomplete false slices))) (sym type_is)
    ∙ sym shown
