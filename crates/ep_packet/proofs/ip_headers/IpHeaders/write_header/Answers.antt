use Rattle.std.proofs.Common.{◌≡◌, ◌++◌, sym, subst}
use Rattle.std.specs.Prelude.{OnOk}
use Rattle.ep_packet.specs.declared.ip_headers.IpHeaders.{IpHeaders}
use Rattle.ep_packet.specs.IpHeaders.{ip_header_bytes, with_checksum}
use Rattle.ep_packet.proofs.ip_headers.IpHeaders.write_header.Goals as goal

pub returns-in-Ipv4-clause-ok : goal.returns-in-Ipv4-clause-ok
returns-in-Ipv4-clause-ok c = subst
    (λ (h : IpHeaders). OnOk c.write.result
    (c.write.new.buf.items ≡ c.args.buf.now.items ++ ip_header_bytes (with_checksum h)))
    (sym c.in-Ipv4.is) c.write.ensures.ok
