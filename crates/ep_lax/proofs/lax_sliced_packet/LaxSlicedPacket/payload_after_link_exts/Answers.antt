use Rattle.std.proofs.Common.{◌≡◌, ◌-◌, length, Some, sym, ◌∙◌, rules, tests}
use Rattle.std.specs.Prelude.{slice_get}
use Rattle.std.specs.Option.{option_map}
use Rattle.ep_link.specs.LinkSlices.{link_layer_of}
use Rattle.ep_packet.specs.FrameBytes.{link_payload}
use Rattle.ep_lax.proofs.LaxPayloadLemmas.{open_payload_of_last}
use Rattle.ep_lax.proofs.lax_sliced_packet.LaxSlicedPacket.payload_after_link_exts.Goals as goal

pub returns-in-Some : goal.returns-in-Some
returns-in-Some c =
    let slices = c.args.self.now.link_exts.items in
    let found : slice_get slices (length slices - 1) ≡ Some c.in-Some.extension.now = search (rules, tests) in
    c.payload_slice.ensures
    ∙ sym (open_payload_of_last (link_payload (option_map link_layer_of c.args.self.now.link)) slices
    c.in-Some.extension.now found)
