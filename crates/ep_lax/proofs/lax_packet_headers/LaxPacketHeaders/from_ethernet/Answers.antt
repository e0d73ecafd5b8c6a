use Rattle.std.proofs.Common.{arith}
use Rattle.ep_packet.specs.declared.entry.Entry.TheVariants.{Ethernet as ethernet}
use Rattle.ep_lax.specs.LaxPacketHeaders.{lax_headers_of}
use Rattle.ep_lax.proofs.LaxHeadersPayloadLemmas.{payload_lies}
use Rattle.ep_lax.proofs.LaxPacketHeadersLemmas.{only_read}
use Rattle.ep_lax.proofs.lax_packet_headers.LaxPacketHeaders.from_ethernet.Goals as goal

pub returns-in-Ok-clause-ok : goal.returns-in-Ok-clause-ok
returns-in-Ok-clause-ok c = c.fill_link.ensures ethernet c.args.slice.now c.in-Ok.ensures.ok

pub returns-in-Ok-clause-only : goal.returns-in-Ok-clause-only
returns-in-Ok-clause-only c =
    only_read ethernet c.args.slice.now (λ i. omega (arith, c.type_inv.slice i)) (lax_headers_of c.fill_link.new.self)
    (c.fill_link.ensures ethernet c.args.slice.now c.in-Ok.ensures.ok)

pub returns-in-Ok-clause-bytes : goal.returns-in-Ok-clause-bytes
returns-in-Ok-clause-bytes c =
    payload_lies ethernet c.args.slice.now c.fill_link.new.self
    (c.fill_link.ensures ethernet c.args.slice.now c.in-Ok.ensures.ok)
