use Rattle.std.proofs.Common.{arith}
use Rattle.ep_base.specs.Readings.{headers}
use Rattle.ep_lax.specs.LaxPacketHeaders.{lax_headers_of}
use Rattle.ep_lax.proofs.LaxEntryLemmas.{lax_in_decided}
use Rattle.ep_lax.proofs.LaxHeadersPayloadLemmas.{payload_lies}
use Rattle.ep_lax.proofs.LaxPacketHeadersLemmas.{only_read}
use Rattle.ep_lax.proofs.lax_packet_headers.LaxPacketHeaders.read_into.Goals as goal

pub returns-in-Ok-clause-only : goal.returns-in-Ok-clause-only
returns-in-Ok-clause-only c =
    only_read c.args.entry c.args.bytes.now (λ i. omega (arith, c.type_inv.bytes i)) (lax_headers_of c.fill.new.self)
    c.in-Ok.ensures.ok

pub returns-in-Err-clause-only : goal.returns-in-Err-clause-only
returns-in-Err-clause-only c = λ layers is.
    absurd ((lax_in_decided headers c.args.entry c.args.bytes.now (λ i. omega (arith, c.type_inv.bytes i))).not_both
    layers c.in-Err.error is c.in-Err.ensures.err)

pub returns-in-Ok-clause-bytes : goal.returns-in-Ok-clause-bytes
returns-in-Ok-clause-bytes c = payload_lies c.args.entry c.args.bytes.now c.fill.new.self c.in-Ok.ensures.ok
