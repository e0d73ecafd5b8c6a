-- Lemmas that bytes of a link extension's ether type are exactly one extension or rejected with exactly one error.
use Rattle.std.proofs.Common.{◌≡◌, ◌⊎◌, ◌+◌, ◌++◌, ℕ, Bool, List, length, refl, sym, ap, subst, inl, inr, arith}
use Rattle.std.proofs.lemmas.Bool.{cases_eq}
use Rattle.std.proofs.lemmas.List.{length-append}
use Rattle.ep_base.specs.Bytes.{AreBytes}
use Rattle.ep_base.specs.EtherTypes.{vlan_type, provider_bridging_type, double_vlan_type, macsec_type}
use Rattle.ep_base.specs.Tables.{IsDecided, Parts, Refuses, parts_of, rows_as}
use Rattle.ep_base.proofs.DecidedLemmas.{decided_as, same_image}
use Rattle.ep_base.proofs.TableLemmas.{IsReadBy, decided, first_row-as_none, first_row-none_as}
use Rattle.ep_base.specs.declared.ether_type.EtherType.{EtherType}
use Rattle.ep_base.specs.declared.err.macsec.HeaderSliceError.{HeaderSliceError}
use Rattle.ep_base.specs.declared.err.macsec.HeaderSliceError.TheVariants as refusal
use Rattle.ep_link.specs.declared.link_ext.single_vlan_header.SingleVlanHeader.{SingleVlanHeader}
use Rattle.ep_link.specs.declared.link_ext.macsec_header.MacsecHeader.{MacsecHeader}
use Rattle.ep_link.specs.Vlan.{IsVlan, vlan_bytes, vlan_rows}
use Rattle.ep_link.specs.Macsec.{IsMacsec, RefusesMacsec, MacsecPayload}
use Rattle.ep_link.specs.Macsec.{macsec_len_source, macsec_payload, macsec_payload_bytes}
use Rattle.ep_link.specs.LinkExtensions.{LinkExtension, vlan, macsec, IsVlanType, IsMacsecType}
use Rattle.ep_link.specs.LinkExtensions.{BeginsLinkExtension, EncodesTag, IsLinkExtension, RefusesLinkExtension}
use Rattle.ep_link.specs.LinkExtensions.{extension_header, extension_payload, link_ext_header_len}
use Rattle.ep_link.proofs.MacsecLemmas.{macsec_is_read, payload_by_bytes}
use Rattle.ep_link.proofs.MacsecReadLemmas.{encoded_len}
use Rattle.ep_link.proofs.VlanLemmas.{vlan_is_read}

-- ---- ether types

-- No ether type belongs to both VLAN and MACsec.
pub vlan_not_macsec : (type : EtherType) → IsVlanType type → IsMacsecType type → ⊥
vlan_not_macsec type is_vlan is_macsec = omega arith

-- An ether type either starts a link extension or does not.
pub cases_begins : (type : EtherType) → BeginsLinkExtension type ⊎ (¬ BeginsLinkExtension type)
cases_begins type =
    elim (cases_eq type.0 vlan_type) [
      | inl is ↦ inl (inl (inl is))
      | inr not_customer ↦ elim (cases_eq type.0 provider_bridging_type) [
        | inl is ↦ inl (inl (inr (inl is)))
        | inr not_service ↦ elim (cases_eq type.0 double_vlan_type) [
          | inl is ↦ inl (inl (inr (inr is)))
          | inr not_older ↦ elim (cases_eq type.0 macsec_type) [
            | inl is ↦ inl (inr is)
            | inr not_macsec ↦ inr (λ begins. omega arith)
          ]
        ]
      ]
    ]

-- The ether type of a link extension starts a link extension.
pub extension_begins : (type : EtherType) (bytes : List ℕ) (part : LinkExtension × List ℕ)
    → IsLinkExtension type bytes part → BeginsLinkExtension type
extension_begins type bytes (vlan header payload, left) is = inl is.0
extension_begins type bytes (macsec header payload, left) is = inr is.0

-- Bytes are only rejected if their ether type starts a link extension.
pub refused_begins : (type : EtherType) (bytes : List ℕ) (error : HeaderSliceError)
    → RefusesLinkExtension type bytes error → BeginsLinkExtension type
refused_begins type bytes error (inl refused) = inl refused.0
refused_begins type bytes error (inr refused) = inr refused.0

-- ---- one extension or one error

-- Converting the errors of a table does not change the values that are read.
renamed : {V E F : Type 0} {Is : List ℕ → V → Type 0} {rows : List ℕ → List (Bool × E)} {read : List ℕ → V}
    (name : E → F) → IsReadBy Is rows read → IsReadBy Is (λ bytes. rows_as name (rows bytes)) read
renamed {rows = rows} name layer = record {
  reads = λ bytes fits none. layer.reads bytes fits (first_row-none_as name (rows bytes) none);
  is_read = λ bytes value is.
      let read = layer.is_read bytes value is in (first_row-as_none name (rows bytes) read.0, read.1);
}

-- The link extension of a VLAN tag and its payload.
abbrev vlan_part : Parts SingleVlanHeader → LinkExtension × List ℕ
vlan_part tagged = (vlan tagged.header tagged.payload, tagged.left)

-- The link extension of a MACsec packet.
abbrev macsec_part : Parts MacsecHeader → LinkExtension × List ℕ
macsec_part packet = (macsec packet.header (macsec_payload packet.header packet.payload), packet.left)

-- A link extension with a VLAN ether type is a VLAN tag.
vlan_back : (type : EtherType) (bytes : List ℕ) → IsVlanType type → (part : LinkExtension × List ℕ)
    → IsLinkExtension type bytes part
    → (tagged : Parts SingleVlanHeader) × IsVlan bytes tagged × (part ≡ vlan_part tagged)
vlan_back type bytes is_vlan (vlan header payload, left) is = (parts_of header payload left, is.1, refl)
vlan_back type bytes is_vlan (macsec header payload, left) is = absurd (vlan_not_macsec type is_vlan is.0)

-- A link extension with the MACsec ether type is a MACsec packet.
pub macsec_back : (type : EtherType) (bytes : List ℕ) → IsMacsecType type → (part : LinkExtension × List ℕ)
    → IsLinkExtension type bytes part
    → (packet : Parts MacsecHeader) × IsMacsec bytes packet × (part ≡ macsec_part packet)
macsec_back type bytes is_macsec (vlan header payload, left) is = absurd (vlan_not_macsec type is.0 is_macsec)
macsec_back type bytes is_macsec (macsec header payload, left) is =
    let packet = parts_of header (macsec_payload_bytes payload) left in
    (packet, is.1, ap (λ (x : MacsecPayload). (macsec header x, left)) is.2)

-- A MACsec packet is a link extension.
macsec_present : (type : EtherType) (bytes : List ℕ) → IsMacsecType type → (packet : Parts MacsecHeader)
    → IsMacsec bytes packet → IsLinkExtension type bytes (macsec_part packet)
macsec_present type bytes is_macsec packet is =
    let header = packet.header in
    let same = payload_by_bytes header.ptype (macsec_len_source header.short_len) packet.payload in (
      is_macsec,
      subst (λ (x : List ℕ). IsMacsec bytes (parts_of header x packet.left)) (sym same) is,
      ap (macsec_payload header) (sym same),
    )

-- Bytes with a VLAN ether type are rejected by the VLAN table.
vlan_refused : (type : EtherType) (bytes : List ℕ) → IsVlanType type → (error : HeaderSliceError)
    → RefusesLinkExtension type bytes error → Refuses (rows_as refusal.Len (vlan_rows bytes)) error
vlan_refused type bytes is_vlan error (inl refused) = refused.1
vlan_refused type bytes is_vlan error (inr refused) = absurd (vlan_not_macsec type is_vlan refused.0)

-- Bytes with the MACsec ether type are rejected by the MACsec table.
macsec_refused : (type : EtherType) (bytes : List ℕ) → IsMacsecType type → (error : HeaderSliceError)
    → RefusesLinkExtension type bytes error → RefusesMacsec bytes error
macsec_refused type bytes is_macsec error (inl refused) = absurd (vlan_not_macsec type refused.0 is_macsec)
macsec_refused type bytes is_macsec error (inr refused) = refused.1

-- Bytes with an ether type that starts a link extension are exactly one extension or rejected with exactly one error.
pub extension_decided : (type : EtherType) (bytes : List ℕ) → AreBytes bytes → BeginsLinkExtension type
    → IsDecided (IsLinkExtension type bytes) (RefusesLinkExtension type bytes)
extension_decided type bytes fits (inl is_vlan) =
    decided_as vlan_part (λ error. error) (decided (renamed refusal.Len vlan_is_read) bytes fits)
    (record { present = λ tagged is. (is_vlan, is); back = vlan_back type bytes is_vlan })
    (same_image (λ error refused. inl (is_vlan, refused)) (vlan_refused type bytes is_vlan))
extension_decided type bytes fits (inr is_macsec) =
    decided_as macsec_part (λ error. error) (decided macsec_is_read bytes fits)
    (record { present = macsec_present type bytes is_macsec; back = macsec_back type bytes is_macsec })
    (same_image (λ error refused. inr (is_macsec, refused)) (macsec_refused type bytes is_macsec))

-- ---- bytes of an extension

-- The bytes of a link extension consist of its tag, its payload and the trailing bytes.
pub extension_bytes : (type : EtherType) (bytes : List ℕ) (part : LinkExtension × List ℕ)
    → IsLinkExtension type bytes part
    → (tag : List ℕ) × EncodesTag part.0 tag × (bytes ≡ (tag ++ extension_payload part.0) ++ part.1)
extension_bytes type bytes (vlan tag payload, left) is = (vlan_bytes tag, (is.1.fits, refl), is.1.parts)
extension_bytes type bytes (macsec tag payload, left) is = (is.1.encoded, is.1.encodes, is.1.parts)

-- The length of three concatenated parts is the sum of their lengths.
three_parts : (bytes prefix payload left : List ℕ) → bytes ≡ (prefix ++ payload) ++ left
    → length bytes ≡ length prefix + length payload + length left
three_parts bytes prefix payload left parts =
    omega (arith, ap length parts, length-append (prefix ++ payload) left, length-append prefix payload)

-- The length of a link extension is the sum of the lengths of its tag, its payload and the trailing bytes.
pub extension_len : (type : EtherType) (bytes : List ℕ) (part : LinkExtension × List ℕ)
    → IsLinkExtension type bytes part
    → length bytes ≡ link_ext_header_len (extension_header part.0) + length (extension_payload part.0) + length part.1
extension_len type bytes (vlan tag payload, left) is = three_parts bytes (vlan_bytes tag) payload left is.1.parts
extension_len type bytes (macsec tag payload, left) is =
    let encoded = is.1.encoded in
    let len = encoded_len encoded tag is.1.encodes in
    omega (arith, three_parts bytes encoded (macsec_payload_bytes payload) left is.1.parts, len)
