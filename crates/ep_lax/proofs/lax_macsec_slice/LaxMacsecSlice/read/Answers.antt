use Rattle.std.proofs.Common.{length, ap, arith}
use Rattle.std.proofs.lemmas.List.{length-append}
use Rattle.ep_link.specs.MacsecSlices.{macsec_header_slice_bytes, macsec_header_slice_header}
use Rattle.ep_base.specs.LaxCut.{lax_cut_of}
use Rattle.ep_lax.specs.LaxSlices.{lax_macsec_payload_of}
use Rattle.ep_lax.proofs.LaxMacsecLemmas.{macsec_assembled}
use Rattle.ep_lax.proofs.lax_macsec_slice.LaxMacsecSlice.read.Goals as goal

pub limit_by_length_field-content-requires-clause-header : goal.limit_by_length_field-content-requires-clause-header
limit_by_length_field-content-requires-clause-header c =
    let ok = c.in-Ok.ensures.ok in
    let prefix = macsec_header_slice_bytes c.in-Ok.header in
    omega (arith, ap length ok.1, length-append prefix ok.0, c.header_len-header_len.ensures.bytes)

pub returns-clause-ok : goal.returns-clause-ok
returns-clause-ok c =
    let bytes = c.args.slice.now in
    let n = c.header_len-header_len.result in
    let ok = c.in-Ok.ensures.ok in
    let tag = macsec_header_slice_bytes c.in-Ok.header in
    let header = macsec_header_slice_header c.in-Ok.header in
    let cutting = c.limit_by_length_field-content.ensures in
    let cut = lax_cut_of c.limit_by_length_field-content.result cutting.0 in
    let payload = lax_macsec_payload_of c.of_tag-payload.result in
    let is = macsec_assembled c.args.outer bytes tag ok.0 header ok.1 ok.2 n
    c.header_len-header_len.ensures.bytes c.header_len-header_len.ensures.value _ c.macsec_stated_len.ensures cut cutting.1
    payload c.of_tag-payload.ensures.payload in (
      cut,
      record {
        parts = is.parts;
        is = is.is;
        payload = c.of_tag-payload.ensures.payload;
        incomplete = c.of_tag-payload.ensures.incomplete;
      },
    )
