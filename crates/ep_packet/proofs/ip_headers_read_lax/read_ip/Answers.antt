use Rattle.ep_packet.specs.LaxIpHeaders.{lax_ipv4_part, lax_ipv6_part}
use Rattle.ep_packet.proofs.ip_headers_read_lax.read_ip.Goals as goal

pub returns-in-Ok-clause-ok : goal.returns-in-Ok-clause-ok
returns-in-Ok-clause-ok c =
    let ok = c.in-Ok.ensures.ok in
    (lax_ipv4_part ok.0, ok.1, (ok.2.0, c.of_auth_stop.ensures ok.0.stop ok.2.1))

pub returns-in-Ok-read_ipv6-clause-ok : goal.returns-in-Ok-read_ipv6-clause-ok
returns-in-Ok-read_ipv6-clause-ok c =
    let ok = c.in-Ok-read_ipv6.ensures.ok in
    (lax_ipv6_part ok.0, ok.1, (ok.2.0, c.of_exts_stop.ensures ok.0.stop ok.2.1))
