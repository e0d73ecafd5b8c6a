use Rattle.std.proofs.Common.{◌∙◌, sym, subst}
use Rattle.ep_base.proofs.BytesLemmas.{rest_of}
use Rattle.ep_base.proofs.TableLemmas.{one_value, refused_is_not}
use Rattle.ep_link.specs.Macsec.{IsMacsecHeader, macsec_header_of}
use Rattle.ep_link.proofs.MacsecLemmas.{macsec_header_is_read}
use Rattle.ep_link.proofs.link_ext.macsec_header.MacsecHeader.from_slice.Goals as goal

pub returns : goal.returns
returns c =
    let bytes = c.args.slice.now in
    let ok = c.in_ok-header.ensures.ok in
    let tag = c.in_ok-header.header.tag.slice.now in
    let same = rest_of bytes tag ok.0 c.header_len.result ok.1 c.header_len.ensures.bytes in
    record {
      ok = subst (IsMacsecHeader bytes) (λ i. (sym c.to_header.ensures i, sym same i)) ok.2;
      only = λ header rest other.
          let one = one_value macsec_header_is_read bytes (macsec_header_of tag, ok.0) (header, rest) ok.2 other in
          (c.to_header.ensures ∙ (λ i. (one i).0), same ∙ (λ i. (one i).1));
      err = tt;
    }

pub returns-in_err-header-clause-only : goal.returns-in_err-header-clause-only
returns-in_err-header-clause-only c =
    λ header rest is. absurd (refused_is_not macsec_header_is_read c.args.slice.now (header, rest) _
    c.in_err-header.ensures.err is)
