use Rattle.std.proofs.Common.{arith}
use Rattle.std.specs.Option.{option_map}
use Rattle.ep_base.specs.Readings.{headers}
use Rattle.ep_base.proofs.DecidedLemmas.{only_of}
use Rattle.ep_base.proofs.TableLemmas.{decided}
use Rattle.ep_transport.specs.TransportParts.{transport_layer}
use Rattle.ep_transport.proofs.TransportLemmas.{transport_is_read}
use Rattle.ep_transport.proofs.transport_header.TransportHeader.read_into.Goals as goal

pub returns-clause-only : goal.returns-clause-only
returns-clause-only c =
    only_of (λ rest. option_map (λ header. transport_layer header rest.now) c.fill.new.place)
    (decided (transport_is_read headers c.args.number.0 c.args.fragmented) c.args.slice.now
    (λ i. omega (arith, c.type_inv.slice i)))
    c.fill.result c.fill.ensures.ok c.fill.ensures.err
