use Rattle.std.proofs.Common.{ap, sym, ◌∙◌}
use Rattle.etherparse.specs.LaxViews.{lax_extension_of}
use Rattle.etherparse.specs.LaxSlices.{lax_macsec_slice_payload}
use Rattle.etherparse.specs.Types.LaxLinkExtSlice.{LaxLinkExtSlice}
use Rattle.etherparse_c.specs.Description.{tag_part}
use Rattle.etherparse_c.proofs.tags.LaxLinkExtSliceTagSlice.tag_part.Goals as goal

pub returns-in-Macsec : goal.returns-in-Macsec
returns-in-Macsec c =
    c.macsec_part.ensures (lax_macsec_slice_payload c.in-Macsec.packet)
    ∙ sym (ap (λ (slice : LaxLinkExtSlice). tag_part c.args.offset (lax_extension_of slice)) c.in-Macsec.is)
