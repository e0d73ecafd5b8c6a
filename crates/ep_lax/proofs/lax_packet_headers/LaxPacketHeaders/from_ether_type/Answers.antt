use Rattle.std.proofs.Common.{arith}
use Rattle.ep_packet.specs.declared.entry.Entry.TheVariants.{EtherType as ether_type}
use Rattle.ep_lax.specs.LaxPacketHeaders.{lax_headers_of}
use Rattle.ep_lax.proofs.LaxHeadersPayloadLemmas.{payload_lies}
use Rattle.ep_lax.proofs.LaxPacketHeadersLemmas.{only_read}
use Rattle.ep_lax.proofs.lax_packet_headers.LaxPacketHeaders.from_ether_type.Goals as goal

pub returns-clause-ok : goal.returns-clause-ok
returns-clause-ok c =
    c.fill_link.ensures (ether_type c.args.ether_type) c.args.slice.now c.ether_type.ensures.begins

pub returns-clause-only : goal.returns-clause-only
returns-clause-only c =
    only_read (ether_type c.args.ether_type) c.args.slice.now (λ i. omega (arith, c.type_inv.slice i))
    (lax_headers_of c.fill_link.new.self)
    (c.fill_link.ensures (ether_type c.args.ether_type) c.args.slice.now c.ether_type.ensures.begins)

pub returns-clause-bytes : goal.returns-clause-bytes
returns-clause-bytes c =
    payload_lies (ether_type c.args.ether_type) c.args.slice.now c.fill_link.new.self
    (c.fill_link.ensures (ether_type c.args.ether_type) c.args.slice.now c.ether_type.ensures.begins)
