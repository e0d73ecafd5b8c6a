-- Lemmas about length errors of link layers, link extensions and ARP packets, and the bytes that they report as
-- missing.
use Rattle.std.proofs.Common.{ℕ, List, length, inl, inr}
use Rattle.std.specs.Prelude.{⊤}
use Rattle.ep_base.specs.Missing.{CountsMissing, ReportsMissing}
use Rattle.ep_base.specs.Tables.{rows_as}
use Rattle.ep_base.proofs.MissingLemmas.{counted, refusal_where, tells_missing}
use Rattle.ep_base.specs.declared.ether_type.EtherType.{EtherType}
use Rattle.ep_base.specs.declared.err.len_error.LenError.{LenError}
use Rattle.ep_base.specs.declared.err.layer.Layer.TheVariants as layer
use Rattle.ep_base.specs.declared.len_source.LenSource.TheVariants as source
use Rattle.ep_base.specs.declared.err.linux_sll.HeaderSliceError.{HeaderSliceError as SllError}
use Rattle.ep_base.specs.declared.err.linux_sll.HeaderSliceError.TheVariants as sll_error
use Rattle.ep_base.specs.declared.err.macsec.HeaderSliceError.{HeaderSliceError as MacsecError}
use Rattle.ep_base.specs.declared.err.macsec.HeaderSliceError.TheVariants as macsec_error
use Rattle.ep_link.specs.Arp.{RefusesArp, arp_len_of, arp_rows}
use Rattle.ep_link.specs.Ethernet2.{RefusesEthernet2, ethernet2_rows}
use Rattle.ep_link.specs.LinkExtensions.{RefusesLinkExtension}
use Rattle.ep_link.specs.LinuxSll.{RefusesLinuxSll, linux_sll_rows}
use Rattle.ep_link.specs.Macsec.{RefusesMacsec, RefusesMacsecHeader, macsec_header_rows, macsec_len_of, macsec_rows, tag_len_of}
use Rattle.ep_link.specs.Vlan.{RefusesVlan, vlan_rows}

-- The length errors of a Linux cooked capture count the available bytes.
abbrev SllCounts : ℕ → SllError → Type 0
SllCounts bound (sll_error.Len error) = CountsMissing bound error
SllCounts bound (sll_error.Content error) = ⊤

-- The length errors of a link extension count the available bytes.
abbrev ExtensionCounts : ℕ → MacsecError → Type 0
ExtensionCounts bound (macsec_error.Len error) = CountsMissing bound error
ExtensionCounts bound (macsec_error.Content error) = ⊤

pub ethernet2_tells : ReportsMissing RefusesEthernet2
ethernet2_tells = tells_missing RefusesEthernet2
    (λ bytes error refused. refusal_where (CountsMissing (length bytes)) (ethernet2_rows bytes)
    (counted bytes 14 source.Slice layer.Ethernet2Header, tt) error refused)

pub linux_sll_tells : ReportsMissing (λ bytes error. RefusesLinuxSll bytes (sll_error.Len error))
linux_sll_tells = tells_missing (λ bytes error. RefusesLinuxSll bytes (sll_error.Len error))
    (λ bytes error refused. refusal_where (SllCounts (length bytes)) (linux_sll_rows bytes)
    (counted bytes 16 source.Slice layer.LinuxSllHeader, (λ holds. tt, (λ holds. tt, tt))) (sll_error.Len error) refused)

pub arp_tells : ReportsMissing RefusesArp
arp_tells = tells_missing RefusesArp
    (λ bytes error refused. refusal_where (CountsMissing (length bytes)) (arp_rows bytes)
    (counted bytes 8 source.Slice layer.Arp, (counted bytes (arp_len_of bytes) source.ArpAddrLengths layer.Arp, tt))
    error refused)

pub vlan_tells : ReportsMissing RefusesVlan
vlan_tells = tells_missing RefusesVlan
    (λ bytes error refused. refusal_where (CountsMissing (length bytes)) (vlan_rows bytes)
    (counted bytes 4 source.Slice layer.VlanHeader, tt) error refused)

pub macsec_header_tells : ReportsMissing (λ bytes error. RefusesMacsecHeader bytes (macsec_error.Len error))
macsec_header_tells = tells_missing (λ bytes error. RefusesMacsecHeader bytes (macsec_error.Len error))
    (λ bytes error refused. refusal_where (ExtensionCounts (length bytes)) (macsec_header_rows bytes) (
      counted bytes 6 source.Slice layer.MacsecHeader,
      (λ holds. tt, (λ holds. tt, (counted bytes (tag_len_of bytes) source.Slice layer.MacsecHeader, tt))),
    )
    (macsec_error.Len error) refused)

macsec_counts : (bytes : List ℕ) (error : LenError) → RefusesMacsec bytes (macsec_error.Len error)
    → CountsMissing (length bytes) error
macsec_counts bytes error refused = refusal_where (ExtensionCounts (length bytes)) (macsec_rows bytes) (
  counted bytes 6 source.Slice layer.MacsecHeader,
  (
    λ holds. tt,
    (
      λ holds. tt,
      (
        counted bytes (tag_len_of bytes) source.Slice layer.MacsecHeader,
        (counted bytes (macsec_len_of bytes) source.Slice layer.MacsecPacket, tt),
      ),
    ),
  ),
)
    (macsec_error.Len error) refused

pub macsec_tells : ReportsMissing (λ bytes error. RefusesMacsec bytes (macsec_error.Len error))
macsec_tells = tells_missing (λ bytes error. RefusesMacsec bytes (macsec_error.Len error)) macsec_counts

extension_counts : (type : EtherType) (bytes : List ℕ) (error : LenError)
    → RefusesLinkExtension type bytes (macsec_error.Len error) → CountsMissing (length bytes) error
extension_counts type bytes error (inl refused) =
    refusal_where (ExtensionCounts (length bytes)) (rows_as macsec_error.Len (vlan_rows bytes))
    (counted bytes 4 source.Slice layer.VlanHeader, tt) (macsec_error.Len error) refused.1
extension_counts type bytes error (inr refused) = macsec_counts bytes error refused.1

pub extension_tells : (type : EtherType)
    → ReportsMissing (λ bytes error. RefusesLinkExtension type bytes (macsec_error.Len error))
extension_tells type =
    tells_missing (λ bytes error. RefusesLinkExtension type bytes (macsec_error.Len error)) (extension_counts type)
