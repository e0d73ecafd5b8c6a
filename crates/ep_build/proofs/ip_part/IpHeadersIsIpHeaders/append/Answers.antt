use Rattle.std.proofs.Common.{◌++◌, List, ap, subst, ◌∙◌}
use Rattle.std.specs.Prelude.{is_ok}
use Rattle.ep_ext.specs.Chains.{FitParts}
use Rattle.ep_ext.specs.ExtensionParts.{ExtensionPart}
use Rattle.ep_packet.specs.IpHeaders.{ip_headers_parts, written_headers}
use Rattle.ep_packet.proofs.IpHeadersLemmas.{one_way}
use Rattle.ep_build.proofs.WritingLemmas.{headers_succeed, on_ok}
use Rattle.ep_build.proofs.ip_part.IpHeadersIsIpHeaders.append.Goals as goal

pub unwrap-requires : goal.unwrap-requires
unwrap-requires c =
    headers_succeed c.args.self.now c.requires.leads.0 _ _ c.write.result c.requires.leads.1 c.ip_header_fits.ensures
    c.requires.capacity c.write.ensures.leading c.write.ensures.full

pub returns-clause-items : goal.returns-clause-items
returns-clause-items c =
    let headers = c.args.self.now in
    let ok = on_ok c.write.result _ (ap is_ok c.unwrap.ensures) c.write.ensures.ok in
    let same = one_way headers ok.0 (ip_headers_parts headers) ok.1 c.requires.leads.0 ok.2 c.requires.leads.1 in
    ok.4 ∙ ap (λ (p : List ExtensionPart). c.args.buf.now.items ++ written_headers headers p) same.0

pub returns-clause-fits : goal.returns-clause-fits
returns-clause-fits c =
    let headers = c.args.self.now in
    let ok = on_ok c.write.result _ (ap is_ok c.unwrap.ensures) c.write.ensures.ok in
    let same = one_way headers ok.0 (ip_headers_parts headers) ok.1 c.requires.leads.0 ok.2 c.requires.leads.1 in
    subst FitParts same.0 ok.3
