use Rattle.std.proofs.Common.{◌+◌, refl}
use Rattle.ep_lax.proofs.LaxNetLemmas.{ipv6_filled}
use Rattle.ep_lax.proofs.lax_sliced_packet_walk.fill_ipv6_packet.Goals as goal

pub returns : goal.returns
returns c = λ outer bytes left stop parts same is.
    ipv6_filled c.args.offset c.headers_len.result (c.args.offset + c.headers_len.result) c.args.packet
    c.payload.result.now c.chain_stop-stop.result c.fill_ip_payload.new.transport c.fill_ip_payload.new.stop_err
    c.headers_len.ensures refl c.payload.ensures.payload c.payload.ensures.incomplete
    c.fill_ip_payload.ensures.inside c.fill_ip_payload.ensures.bytes outer bytes left stop
    (c.chain_stop-stop.ensures stop same) parts is
