use Rattle.std.proofs.Common.{◌≡◌, ◌+◌, ◌≤◌, Some, sym, ap, subst, ◌∙◌}
use Rattle.ep_base.specs.Tables.{first_row}
use Rattle.ep_packet.specs.IpHeaders.{ip_extensions_len, linked_headers, most_after_header, payload_len_rows}
use Rattle.ep_packet.specs.IpHeaders.{with_payload_len}
use Rattle.ep_packet.specs.declared.ip_headers.IpHeaders.{IpHeaders}
use Rattle.ep_build.proofs.WritingLemmas.{counted, rows_linked}
use Rattle.ep_build.proofs.ip_part.IpHeadersIsIpHeaders.link.Goals as goal

pub returns-in-Ok : goal.returns-in-Ok
returns-in-Ok c =
    let old = c.args.self.now in
    let last = c.args.last in
    let linked = c.set_next_headers-ether_type.ensures.linked in
    let present = subst (λ (h : IpHeaders). (c.args.len + ip_extensions_len h ≤ most_after_header h)
    × (c.set_payload_len.new.self ≡ with_payload_len h c.args.len)) linked c.in-Ok.ensures in (
      sym (ap first_row (rows_linked old last c.args.len)) ∙ counted (linked_headers old last) c.args.len present.0,
      present.1,
      c.set_next_headers-ether_type.ensures.ether_type,
    )

pub returns-in-Err : goal.returns-in-Err
returns-in-Err c =
    let old = c.args.self.now in
    let last = c.args.last in
    let linked = c.set_next_headers-ether_type.ensures.linked in
    sym (ap first_row (rows_linked old last c.args.len))
    ∙ subst (λ (h : IpHeaders). first_row (payload_len_rows h c.args.len) ≡ Some c.in-Err.error) linked
    c.in-Err.ensures.1
