-- A MACsec packet is sliced laxly in exactly one way, and the contracts of the calls that slice it.
use Rattle.std.proofs.Common.{◌≡◌, ℕ, Bool, List, ◌++◌, length, drop, refl, sym, ap, subst, ◌∙◌, append_assoc}
use Rattle.std.proofs.lemmas.List.{drop_at}
use Rattle.ep_base.specs.LaxCut.{LaxCut, IsLaxCut}
use Rattle.ep_base.specs.declared.len_source.LenSource.{LenSource}
use Rattle.ep_base.specs.declared.len_source.LenSource.TheVariants as source
use Rattle.ep_base.specs.declared.err.macsec.HeaderSliceError.{HeaderSliceError}
use Rattle.ep_base.proofs.LaxCutLemmas.{one_lax_cut}
use Rattle.ep_base.proofs.TableLemmas.{one_value, refused_is_not}
use Rattle.ep_link.specs.declared.link_ext.macsec_header.MacsecHeader.{MacsecHeader}
use Rattle.ep_link.specs.declared.link_ext.macsec_ptype.MacsecPType.{MacsecPType}
use Rattle.ep_link.specs.declared.link_ext.macsec_ptype.MacsecPType.TheVariants as ptype
use Rattle.ep_link.specs.Macsec.{IsMacsecHeader, MacsecPayload, RefusesMacsecHeader, macsec_header_len, macsec_payload_bytes, payload_by}
use Rattle.ep_link.proofs.MacsecLemmas.{macsec_header_is_read}
use Rattle.ep_lax.specs.LaxMacsec.{IsLaxMacsec, macsec_stated_len}

-- The tag and the limited payload of the bytes are unique.
pub one_lax_macsec : (outer : Bool) (bytes : List ℕ) (read other : MacsecHeader × LaxCut) → IsLaxMacsec outer bytes read
    → IsLaxMacsec outer bytes other → read ≡ other
one_lax_macsec outer bytes read other a b =
    let same = one_value macsec_header_is_read bytes (read.0, a.after_tag) (other.0, b.after_tag) a.header b.header in
    let moved = subst (λ (h : MacsecHeader × List ℕ). IsLaxCut (macsec_header_len h.0) (macsec_stated_len h.0)
    source.MacsecShortLength outer (macsec_header_len h.0) h.1 read.1) same a.cut in
    let cut = one_lax_cut (macsec_header_len other.0) (macsec_stated_len other.0) source.MacsecShortLength outer
    (macsec_header_len other.0) b.after_tag read.1 other.1 moved b.cut in
    λ i. ((same i).0, cut i)

-- Bytes with a rejected tag are not a MACsec packet.
pub refused_no_lax_macsec : (outer : Bool) (bytes : List ℕ) (error : HeaderSliceError)
    → RefusesMacsecHeader bytes error → (read : MacsecHeader × LaxCut) → IsLaxMacsec outer bytes read → ⊥
refused_no_lax_macsec outer bytes error refused read is =
    refused_is_not macsec_header_is_read bytes (read.0, is.after_tag) error refused is.header

-- A payload, modified or not, has the bytes that it is built from.
pub payload_by_is : (p : MacsecPType) (end : LenSource) (bytes : List ℕ)
    → macsec_payload_bytes (payload_by p end bytes) ≡ bytes
payload_by_is (ptype.Unmodified type) end bytes = refl
payload_by_is ptype.Modified end bytes = refl
payload_by_is ptype.Encrypted end bytes = refl
payload_by_is ptype.EncryptedUnmodified end bytes = refl

-- Facts about a MACsec packet built from its parsed parts.
pub record IsAssembled (outer : Bool) (bytes tag : List ℕ) (header : MacsecHeader) (payload : MacsecPayload)
    (cut : LaxCut) : Type 0 where
  pub parts : bytes ≡ (tag ++ macsec_payload_bytes payload) ++ cut.left
  pub is : IsLaxMacsec outer bytes (header, cut)

pub macsec_assembled : (outer : Bool) (bytes tag rest : List ℕ) (header : MacsecHeader)
    → bytes ≡ tag ++ rest → IsMacsecHeader bytes (header, rest) → (n : ℕ) → n ≡ length tag
    → n ≡ macsec_header_len header → (stated : ℕ) → stated ≡ macsec_stated_len header
    → (cut : LaxCut) → IsLaxCut n stated source.MacsecShortLength outer n (drop n bytes) cut
    → (payload : MacsecPayload) → payload ≡ payload_by header.ptype cut.source cut.payload
    → IsAssembled outer bytes tag header payload cut
macsec_assembled outer bytes tag rest header parts holds n len header_len stated says_is cut cuts payload payload_is =
    let after : drop n bytes ≡ rest = ap (drop n) parts ∙ drop_at tag rest n (sym len) in
    let shown : macsec_payload_bytes payload ≡ cut.payload =
    ap macsec_payload_bytes payload_is ∙ payload_by_is header.ptype cut.source cut.payload in
    let cuts_after : IsLaxCut n stated source.MacsecShortLength outer n rest cut =
    subst (λ (b : List ℕ). IsLaxCut n stated source.MacsecShortLength outer n b cut) after cuts in
    let cuts_says : IsLaxCut n (macsec_stated_len header) source.MacsecShortLength outer n rest cut =
    subst (λ (s : ℕ). IsLaxCut n s source.MacsecShortLength outer n rest cut) says_is cuts_after in
    record {
      parts = parts ∙ ap (λ (s : List ℕ). tag ++ s) (cuts_after.parts
          ∙ ap (λ (s : List ℕ). s ++ cut.left) (sym shown))
          ∙ sym (append_assoc tag (macsec_payload_bytes payload) cut.left);
      is = record {
        after_tag = rest;
        header = holds;
        cut = subst (λ (k : ℕ). IsLaxCut k (macsec_stated_len header) source.MacsecShortLength outer k rest cut) header_len
            cuts_says;
      };
    }
