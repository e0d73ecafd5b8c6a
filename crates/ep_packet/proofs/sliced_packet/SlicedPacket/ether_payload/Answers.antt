use Rattle.std.proofs.Common.{◌≡◌, ◌-◌, map, length, Some, sym, ap, ◌∙◌, rules, tests}
use Rattle.std.specs.Prelude.{slice_get}
use Rattle.std.specs.Option.{option_map}
use Rattle.ep_base.specs.declared.len_source.LenSource.{LenSource}
use Rattle.ep_link.specs.EtherPayloads.{ether_payload_of}
use Rattle.ep_link.specs.LinkSlices.{link_layer_of}
use Rattle.ep_link.specs.LinkExtensions.{link_extension_of}
use Rattle.ep_packet.specs.Payloads.{extensions_len_source}
use Rattle.ep_packet.proofs.PayloadLemmas.{ether_payload_of_last, last_shown, with_source}
use Rattle.ep_packet.proofs.sliced_packet.SlicedPacket.ether_payload.Goals as goal

pub returns-in_err-payload : goal.returns-in_err-payload
returns-in_err-payload c =
    let slices = c.args.self.now.link_exts.items in
    let extensions = map link_extension_of slices in
    let last = link_extension_of c.in-Some.last.now in
    let found : slice_get slices (length slices - 1) ≡ Some c.in-Some.last.now = search (rules, tests) in
    let shown = ether_payload_of_last (option_map link_layer_of c.args.self.now.link)
    extensions last (last_shown slices c.in-Some.last.now found) in
    let source = with_source (extensions_len_source extensions) in
    ap (option_map ether_payload_of) c.from_residual-in_err-payload.ensures
    ∙ ap (λ o. option_map source (option_map ether_payload_of o)) (sym c.in_err-payload.was)
    ∙ ap (option_map source) c.ether_payload-2.ensures ∙ sym shown

pub returns : goal.returns
returns c =
    let slices = c.args.self.now.link_exts.items in
    let extensions = map link_extension_of slices in
    let last = link_extension_of c.in-Some.last.now in
    let found : slice_get slices (length slices - 1) ≡ Some c.in-Some.last.now = search (rules, tests) in
    let shown = ether_payload_of_last (option_map link_layer_of c.args.self.now.link)
    extensions last (last_shown slices c.in-Some.last.now found) in
    let source = with_source (extensions_len_source extensions) in
    ap (λ (s : LenSource). Some (with_source s (ether_payload_of c.in_ok-payload.payload)))
    c.extensions_len_source.ensures
    ∙ ap (λ o. option_map source (option_map ether_payload_of o)) (sym c.in_ok-payload.was)
    ∙ ap (option_map source) c.ether_payload-2.ensures ∙ sym shown
