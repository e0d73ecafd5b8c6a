use Rattle.ep_base.specs.declared.err.tcp.HeaderSliceError.TheVariants as header_error
use Rattle.ep_transport.proofs.TransportPlaceLemmas.{at_start}
use Rattle.ep_transport.proofs.laws.error_offsets.Goals as goal

pub returns : goal.returns
returns c = λ reading number fragmented bytes error refused.
    at_start reading number fragmented bytes (header_error.Len error) refused
