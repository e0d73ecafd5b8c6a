use Rattle.std.proofs.Common.{arith}
use Rattle.std.specs.Option.{option_map}
use Rattle.ep_base.specs.Readings.{slices}
use Rattle.ep_base.proofs.DecidedLemmas.{only_of}
use Rattle.ep_base.proofs.TableLemmas.{decided}
use Rattle.ep_transport.specs.TransportParts.{transport_layer_of}
use Rattle.ep_transport.proofs.TransportLemmas.{transport_is_read}
use Rattle.ep_transport.proofs.transport_slice.TransportSlice.from_ip_number.Goals as goal

pub returns-clause-only : goal.returns-clause-only
returns-clause-only c =
    only_of (option_map transport_layer_of)
    (decided (transport_is_read slices c.args.number.0 c.args.fragmented) c.args.slice.now
    (λ i. omega (arith, c.type_inv.slice i)))
    c.parse_ip_payload.result c.parse_ip_payload.ensures.ok c.parse_ip_payload.ensures.err
