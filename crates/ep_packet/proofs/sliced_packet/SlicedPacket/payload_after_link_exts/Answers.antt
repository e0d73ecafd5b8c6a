use Rattle.std.proofs.Common.{◌≡◌, ◌-◌, map, length, Some, sym, ◌∙◌, rules, tests}
use Rattle.std.specs.Prelude.{slice_get}
use Rattle.std.specs.Option.{option_map}
use Rattle.ep_link.specs.LinkExtensions.{link_extension_of}
use Rattle.ep_link.specs.LinkSlices.{link_layer_of}
use Rattle.ep_packet.specs.FrameBytes.{link_payload}
use Rattle.ep_packet.proofs.PayloadLemmas.{last_shown, payload_of_last}
use Rattle.ep_packet.proofs.sliced_packet.SlicedPacket.payload_after_link_exts.Goals as goal

pub returns-in-Some : goal.returns-in-Some
returns-in-Some c =
    let slices = c.args.self.now.link_exts.items in
    let found : slice_get slices (length slices - 1) ≡ Some c.in-Some.extension.now = search (rules, tests) in
    let last = payload_of_last (link_payload (option_map link_layer_of c.args.self.now.link))
    (map link_extension_of slices) (link_extension_of c.in-Some.extension.now)
    (last_shown slices c.in-Some.extension.now found) in
    c.payload_slice.ensures ∙ sym last
