use Rattle.std.proofs.Common.{List, ap, map, ◌∙◌, arith}
use Rattle.ep_link.specs.declared.link_ext.link_ext_slice.LinkExtSlice.{LinkExtSlice}
use Rattle.ep_link.specs.LinkExtensions.{link_extension_of}
use Rattle.ep_packet.specs.Layers.{layers_of}
use Rattle.ep_packet.specs.Offsets.{tags_len}
use Rattle.ep_packet.proofs.OffsetLemmas.{payload_present}
use Rattle.ep_packet.proofs.sliced_packet.SlicedPacket.payload_offset.Goals as goal

pub returns-clause-place : goal.returns-clause-place
returns-clause-place c = λ bytes order. payload_present bytes (layers_of c.args.self.now) _
    (omega (
      arith,
      c.link_len.ensures.value,
      c.tags_len.ensures.value
          ∙ ap (λ (extensions : List LinkExtSlice). tags_len (map link_extension_of extensions)) c.as_slice.ensures.value,
      c.net_len.ensures.value,
      c.transport_len.ensures.value,
    ))
    order
