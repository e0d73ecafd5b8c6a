use Rattle.std.proofs.Common.{Some, ◌∙◌, sym, ap, arith}
use Rattle.std.proofs.lemmas.Grind.{common_steps}
use Rattle.ep_base.specs.Tables.{Parts}
use Rattle.ep_link.specs.declared.link_ext.macsec_header.MacsecHeader.{MacsecHeader}
use Rattle.ep_link.specs.LinkExtensions.{IsMacsecType, LinkExtension, macsec}
use Rattle.ep_link.specs.Macsec.{macsec_payload}
use Rattle.ep_link.specs.MacsecSlices.{macsec_slice_header}
use Rattle.ep_link.proofs.LinkExtensionLemmas.{macsec_back}
use Rattle.ep_link.proofs.link_ext.link_ext_slice.LinkExtSlice.from_ether_type.Goals as goal

pub returns-in-Ok-clause-only : goal.returns-in-Ok-clause-only
returns-in-Ok-clause-only c =
    let type = c.args.ether_type in
    let is_macsec : IsMacsecType type = grind (arith, common_steps) in
    let shown : Parts MacsecHeader → LinkExtension =
    λ packet. macsec packet.header (macsec_payload packet.header packet.payload) in
    λ part is.
    let found = macsec_back type c.args.slice.now is_macsec part is in
    let packet = ap (macsec (macsec_slice_header c.in-Ok.packet)) c.in-Ok.ensures.payload in
    let same = ap shown (c.in-Ok.ensures.only found.0 found.1) in
    ap Some (packet ∙ same ∙ (λ i. (sym found.2 i).0))

pub returns-in-Err-clause-only : goal.returns-in-Err-clause-only
returns-in-Err-clause-only c =
    let type = c.args.ether_type in
    let is_macsec : IsMacsecType type = grind (arith, common_steps) in
    λ part is.
    let found = macsec_back type c.args.slice.now is_macsec part is in
    c.in-Err.ensures.only found.0 found.1
