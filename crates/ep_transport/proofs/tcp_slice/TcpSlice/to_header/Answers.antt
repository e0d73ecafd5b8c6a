use Rattle.std.proofs.Common.{◌∙◌}
use Rattle.ep_transport.proofs.TcpOptionLemmas.{complete_words}
use Rattle.ep_transport.proofs.tcp_slice.TcpSlice.to_header.Goals as goal

pub returns : goal.returns
returns c =
    let options =
    c.copy_of.ensures ∙ complete_words c.options.result.now c.options.ensures.words ∙ c.options.ensures.value in
    λ i. record {
      source_port = c.source_port.ensures i;
      destination_port = c.destination_port.ensures i;
      sequence_number = c.sequence_number.ensures i;
      acknowledgment_number = c.acknowledgment_number.ensures i;
      ns = c.ns.ensures i;
      fin = c.fin.ensures i;
      syn = c.syn.ensures i;
      rst = c.rst.ensures i;
      psh = c.psh.ensures i;
      ack = c.ack.ensures i;
      urg = c.urg.ensures i;
      ece = c.ece.ensures i;
      cwr = c.cwr.ensures i;
      window_size = c.window_size.ensures i;
      checksum = c.checksum.ensures i;
      urgent_pointer = c.urgent_pointer.ensures i;
      options = options i;
    }
