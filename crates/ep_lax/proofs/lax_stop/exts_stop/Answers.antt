use Rattle.std.proofs.Common.{◌≡◌, ◌+◌, ◌<◌, ◌^◌, ℕ, ap, refl, subst, sym, ◌∙◌}
use Rattle.ep_base.specs.declared.err.ipv6_exts.HeaderError.{HeaderError}
use Rattle.ep_base.specs.declared.err.ipv6_exts.HeaderError.TheVariants as content
use Rattle.ep_base.specs.declared.err.ipv6_exts.HeaderSliceError.{HeaderSliceError}
use Rattle.ep_base.specs.declared.err.ipv6_exts.HeaderSliceError.TheVariants as header_error
use Rattle.ep_ext.specs.Chains.{ipv6, offset_of}
use Rattle.ep_packet.specs.declared.err.slice_error.SliceError.TheVariants.{Len, Ipv6Exts}
use Rattle.ep_lax.specs.Lax.{chain_refusal}
use Rattle.ep_lax.proofs.lax_stop.exts_stop.Goals as goal

content_refusal : (offset : ℕ) (error : HeaderError)
    → Ipv6Exts error ≡ chain_refusal ipv6 offset (header_error.Content error)
content_refusal offset content.HopByHopNotAtStart = refl
content_refusal offset (content.IpAuth error) = refl

pub add_offset-requires : goal.add_offset-requires
add_offset-requires c =
    subst (λ (error : HeaderSliceError). offset_of error + c.args.offset < 2 ^ 64) c.in-Len.is c.requires

pub returns-in-Len : goal.returns-in-Len
returns-in-Len c = ap Len c.add_offset.ensures ∙ ap (chain_refusal ipv6 c.args.offset) (sym c.in-Len.is)

pub returns-in-Content : goal.returns-in-Content
returns-in-Content c =
    content_refusal c.args.offset _ ∙ ap (chain_refusal ipv6 c.args.offset) (sym c.in-Content.is)
