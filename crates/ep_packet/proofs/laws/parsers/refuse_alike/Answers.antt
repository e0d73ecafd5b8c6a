use Rattle.ep_packet.proofs.AlikeLemmas.{ReadingLaws, frame_alone, frame_refused}
use Rattle.ep_packet.proofs.LayerLawLemmas.{layer_laws}
use Rattle.ep_packet.proofs.laws.parsers.refuse_alike.Goals as goal

pub returns : goal.returns
returns c =
    let laws : ReadingLaws = record {
      chain = c.chain_of_headers.ensures.chain;
      chain_refused = c.chain_of_headers.ensures.refused;
      refused = c.transport_of_headers.ensures.refused;
      alone = c.transport_of_headers.ensures.alone;
      none = c.transport_of_headers.ensures.none;
    } in
    record { headers = frame_refused laws; slices = frame_alone laws layer_laws }
