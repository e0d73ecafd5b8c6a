use Rattle.std.proofs.Common.{sym, ap, ◌∙◌}
use Rattle.etherparse.specs.Tables.{Parts}
use Rattle.etherparse.specs.TcpSlices.{tcp_slice_parts}
use Rattle.etherparse.specs.Types.TcpHeader.{TcpHeader}
use Rattle.etherparse_c.specs.Fields.{tcp_fields}
use Rattle.etherparse_c.proofs.FieldLemmas.{reads_one}
use Rattle.etherparse_c.proofs.transport_fields.read_tcp.Goals as goal

pub returns : goal.returns
returns c =
    reads_one _ (tcp_slice_parts c.in-Ok.segment, c.in-Ok.ensures.ok.2, c.write_tcp_fields.ensures)
    (λ other has. has.2 ∙ ap (λ (segment : Parts TcpHeader). tcp_fields c.args.offset segment.header)
    (sym (c.in-Ok.ensures.only has.0 has.1)) ∙ sym c.write_tcp_fields.ensures)
