use Rattle.std.proofs.Common.{sym, ap, ◌∙◌}
use Rattle.etherparse.specs.MacsecSlices.{macsec_header_slice_header}
use Rattle.etherparse_c.specs.Fields.{macsec_fields}
use Rattle.etherparse_c.proofs.FieldLemmas.{reads_none, reads_one}
use Rattle.etherparse_c.proofs.link_fields.read_macsec.Goals as goal

pub returns-in_default : goal.returns-in_default
returns-in_default c = reads_none _ (λ other has. c.in_default.ensures.only has.0 has.1)

pub returns : goal.returns
returns c =
    let ok = c.in-Ok.ensures.ok in
    reads_one _ ((macsec_header_slice_header c.in-Ok.tag, ok.0), ok.2, c.macsec_fields.ensures)
    (λ other has. has.2 ∙ ap macsec_fields (sym (c.in-Ok.ensures.only has.0 has.1)) ∙ sym c.macsec_fields.ensures)
