use Rattle.std.proofs.Common.{◌≡◌, ◌∙◌, false}
use Rattle.ep_base.specs.LaxCut.{LaxCut}
use Rattle.ep_link.specs.Macsec.{RefusesMacsecHeader}
use Rattle.ep_lax.specs.declared.lax_macsec_slice.LaxMacsecSlice.{LaxMacsecSlice}
use Rattle.ep_lax.specs.LaxMacsec.{lax_macsec_payload}
use Rattle.ep_lax.specs.LaxSlices.{ShowsLaxMacsec, lax_macsec_slice_header, lax_macsec_slice_incomplete, lax_macsec_slice_payload}
use Rattle.ep_lax.proofs.LaxMacsecLemmas.{one_lax_macsec, refused_no_lax_macsec}
use Rattle.ep_base.proofs.LaxSliceLemmas.{only_answer}
use Rattle.ep_lax.proofs.lax_macsec_slice.LaxMacsecSlice.from_slice.Goals as goal

pub returns-clause-only : goal.returns-clause-only
returns-clause-only c =
    let bytes = c.args.slice.now in
    λ read is. only_answer c.read.result
    (λ (shown : LaxMacsecSlice). (cut : LaxCut) × ShowsLaxMacsec false bytes shown cut)
    (λ (shown : LaxMacsecSlice). (lax_macsec_slice_header shown ≡ read.0)
    × (lax_macsec_slice_payload shown ≡ lax_macsec_payload read.0 read.1)
    × (lax_macsec_slice_incomplete shown ≡ read.1.incomplete))
    (RefusesMacsecHeader bytes) c.read.ensures.ok c.read.ensures.err
    (λ shown ok.
    let one = one_lax_macsec false bytes (lax_macsec_slice_header shown, ok.0) read ok.1.is is in (
      λ i. (one i).0,
      ok.1.payload ∙ (λ i. lax_macsec_payload (one i).0 (one i).1),
      ok.1.incomplete ∙ (λ i. (one i).1.incomplete),
    ))
    (λ error refused. refused_no_lax_macsec false bytes error refused read is)
