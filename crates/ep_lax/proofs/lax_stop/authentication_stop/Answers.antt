use Rattle.std.proofs.Common.{◌+◌, ◌<◌, ◌^◌, ap, subst, sym, ◌∙◌}
use Rattle.ep_base.specs.declared.err.ip_auth.HeaderSliceError.{HeaderSliceError as AuthSliceError}
use Rattle.ep_ext.specs.Chains.{ipv4, offset_of}
use Rattle.ep_ext.specs.ExtensionParts.{auth_refusal}
use Rattle.ep_packet.specs.declared.err.slice_error.SliceError.TheVariants.{Len}
use Rattle.ep_lax.specs.Lax.{chain_refusal}
use Rattle.ep_lax.proofs.lax_stop.authentication_stop.Goals as goal

pub add_offset-requires : goal.add_offset-requires
add_offset-requires c =
    subst (λ (error : AuthSliceError). offset_of (auth_refusal error) + c.args.offset < 2 ^ 64) c.in-Len.is c.requires

pub returns-in-Len : goal.returns-in-Len
returns-in-Len c =
    ap Len c.add_offset.ensures
    ∙ ap (λ (error : AuthSliceError). chain_refusal ipv4 c.args.offset (auth_refusal error)) (sym c.in-Len.is)

pub returns-in-Content : goal.returns-in-Content
returns-in-Content c =
    ap (λ (error : AuthSliceError). chain_refusal ipv4 c.args.offset (auth_refusal error)) (sym c.in-Content.is)
