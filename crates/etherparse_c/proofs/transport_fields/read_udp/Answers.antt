use Rattle.std.proofs.Common.{sym, ap, ◌∙◌}
use Rattle.etherparse.specs.UdpSlices.{udp_slice_header}
use Rattle.etherparse_c.specs.Fields.{udp_fields}
use Rattle.etherparse_c.proofs.FieldLemmas.{reads_none, reads_one}
use Rattle.etherparse_c.proofs.UdpHeaderLemmas.{no_udp_header, one_udp_header}
use Rattle.etherparse_c.proofs.transport_fields.read_udp.Goals as goal

pub returns-in_default : goal.returns-in_default
returns-in_default c = reads_none _ (λ other has.
    no_udp_header c.args.bytes.now _ c.in_default.ensures.err has.0 has.1)

pub returns : goal.returns
returns c =
    let lax = c.in-Ok.ensures.ok.2 in
    reads_one _ ((udp_slice_header c.in-Ok.datagram, lax.rest), lax.header, c.udp_fields.ensures)
    (λ other has. has.2 ∙ ap udp_fields (one_udp_header c.args.bytes.now has.0 _ has.1 lax.header)
    ∙ sym c.udp_fields.ensures)
