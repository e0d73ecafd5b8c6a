use Rattle.std.proofs.Common.{◌+◌, ◌<◌, ◌^◌, ap, subst, sym, ◌∙◌}
use Rattle.ep_base.specs.declared.err.macsec.HeaderSliceError.{HeaderSliceError as TagError}
use Rattle.ep_packet.specs.declared.err.slice_error.SliceError.TheVariants.{Len}
use Rattle.ep_packet.specs.FrameRefusals.{extension_refusal}
use Rattle.ep_lax.specs.LaxWalk.{extension_start}
use Rattle.ep_lax.proofs.lax_stop.extension_stop.Goals as goal

pub add_offset-requires : goal.add_offset-requires
add_offset-requires c =
    subst (λ (error : TagError). extension_start error + c.args.offset < 2 ^ 64) c.in-Len.is c.requires

pub returns-in-Len : goal.returns-in-Len
returns-in-Len c = ap Len c.add_offset.ensures ∙ ap (extension_refusal c.args.offset) (sym c.in-Len.is)

pub returns-in-Content : goal.returns-in-Content
returns-in-Content c = ap (extension_refusal c.args.offset) (sym c.in-Content.is)
