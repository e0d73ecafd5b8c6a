use Rattle.std.proofs.Common.{sym, ap, ◌∙◌}
use Rattle.etherparse.specs.Ipv4Slices.{ipv4_header_slice_header}
use Rattle.etherparse_c.specs.Fields.{ipv4_fields}
use Rattle.etherparse_c.proofs.FieldLemmas.{reads_one}
use Rattle.etherparse_c.proofs.net_fields.read_ipv4.Goals as goal

pub returns : goal.returns
returns c =
    let ok = c.in-Ok.ensures.ok in
    reads_one _ ((ipv4_header_slice_header c.in-Ok.header, ok.0), ok.2, c.write_ipv4_fields.ensures)
    (λ other has. has.2 ∙ ap (ipv4_fields c.args.offset c.args.described.now)
    (sym (c.in-Ok.ensures.only has.0.0 has.0.1 has.1)) ∙ sym c.write_ipv4_fields.ensures)
