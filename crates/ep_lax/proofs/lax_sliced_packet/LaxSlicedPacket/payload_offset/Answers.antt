use Rattle.std.proofs.Common.{List, ap, map, ◌∙◌, arith}
use Rattle.ep_packet.specs.Offsets.{tags_len}
use Rattle.ep_packet.proofs.OffsetLemmas.{payload_present}
use Rattle.ep_lax.specs.declared.lax_link_ext_slice.LaxLinkExtSlice.{LaxLinkExtSlice}
use Rattle.ep_lax.specs.LaxPackets.{lax_layers_of}
use Rattle.ep_lax.specs.LaxViews.{lax_extension_of}
use Rattle.ep_lax.specs.StrictFrames.{layers_in}
use Rattle.ep_lax.proofs.LaxPayloadLemmas.{tags_in}
use Rattle.ep_lax.proofs.lax_sliced_packet.LaxSlicedPacket.payload_offset.Goals as goal

pub returns-clause-value : goal.returns-clause-value
returns-clause-value c = omega (
  arith,
  c.link_len.ensures.value,
  c.tags_len.ensures.value
      ∙ ap (λ (extensions : List LaxLinkExtSlice). tags_len (map lax_extension_of extensions)) c.as_slice.ensures.value
      ∙ tags_in c.args.self.now.link_exts.items,
  c.net_len.ensures.value,
  c.transport_len.ensures.value,
)

pub returns-clause-place : goal.returns-clause-place
returns-clause-place c = λ bytes order. payload_present bytes (layers_in (lax_layers_of c.args.self.now)) _
    (omega (
      arith,
      c.link_len.ensures.value,
      c.tags_len.ensures.value
          ∙ ap (λ (extensions : List LaxLinkExtSlice). tags_len (map lax_extension_of extensions))
          c.as_slice.ensures.value
          ∙ tags_in c.args.self.now.link_exts.items,
      c.net_len.ensures.value,
      c.transport_len.ensures.value,
    ))
    order
