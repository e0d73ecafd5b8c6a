use Rattle.std.proofs.Common.{sym, ◌∙◌}
use Rattle.ep_ext.specs.Ipv4Chains.{ipv4_parts}
use Rattle.ep_packet.proofs.IpHeadersLemmas.{leads_4}
use Rattle.ep_packet.proofs.ip_headers.IpHeaders.next_header.Goals as goal

pub returns-in-Ok-clause-ok : goal.returns-in-Ok-clause-ok
returns-in-Ok-clause-ok c = (
  ipv4_parts c.in-Ipv4.extensions,
  leads_4 c.args.self.now c.in-Ipv4.header c.in-Ipv4.extensions c.in-Ok.last c.in-Ipv4.is
      (sym c.next_header.ensures ∙ c.in-Ok.is),
)
