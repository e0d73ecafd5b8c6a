use Rattle.ep_transport.proofs.ReadingLemmas.{no_header_not_refused, refused_in_slices, refused_in_slices_alone}
use Rattle.ep_transport.proofs.laws.transport_of_headers.Goals as goal

pub returns : goal.returns
returns c = record { refused = refused_in_slices; alone = refused_in_slices_alone; none = no_header_not_refused }
