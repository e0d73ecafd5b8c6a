use Rattle.std.proofs.Common.{◌+◌, refl}
use Rattle.ep_lax.proofs.LaxNetLemmas.{ipv4_filled}
use Rattle.ep_lax.proofs.lax_sliced_packet_walk.fill_ipv4_packet.Goals as goal

pub returns : goal.returns
returns c =
    ipv4_filled c.args.offset c.headers_len.result (c.args.offset + c.headers_len.result) c.args.packet c.args.refused
    c.payload.result.now c.auth_stop-stop.result c.fill_ip_payload.new.transport c.fill_ip_payload.new.stop_err
    c.headers_len.ensures refl c.payload.ensures.payload c.payload.ensures.incomplete c.auth_stop-stop.ensures
    c.fill_ip_payload.ensures.inside c.fill_ip_payload.ensures.bytes
