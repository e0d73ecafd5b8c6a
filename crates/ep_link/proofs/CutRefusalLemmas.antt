-- Lemmas that a prefix of a link layer, a link extension or an ARP packet is rejected only for the truncated bytes.
use Rattle.std.proofs.Common.{◌≡◌, ℕ, ◌+◌, ◌*◌, ◌-◌, ◌/◌, ◌%◌, ◌==◌, if◌then◌else◌, Bool, true, false, not, List, [], ◌∷◌, ◌++◌, length, Some, refl, sym, ap, ◌∙◌, inl, inr, arith}
use Rattle.std.specs.Prelude.{◌&&◌, nat_le, nat_lt, slice_index}
use Rattle.std.proofs.lemmas.Grind.{common_steps}
use Rattle.ep_base.specs.Readings.{len_error}
use Rattle.ep_base.specs.Missing.{IsTruncationError, ReportsTruncation, slice_end}
use Rattle.ep_base.specs.Tables.{Parts, first_row, parts_of, rows_as}
use Rattle.ep_base.proofs.CutRefusalLemmas.{BesideRows, byte_beside, cut_first, cut_row, cut_then, enough, refused_beside, same_then, word_beside}
use Rattle.ep_base.proofs.TableLemmas.{first_row-as_none}
use Rattle.ep_base.specs.declared.ether_type.EtherType.{EtherType}
use Rattle.ep_base.specs.declared.err.len_error.LenError.{LenError}
use Rattle.ep_base.specs.declared.err.layer.Layer.TheVariants as layer
use Rattle.ep_base.specs.declared.len_source.LenSource.TheVariants as source
use Rattle.ep_base.specs.declared.err.linux_sll.HeaderSliceError.{HeaderSliceError as SllError}
use Rattle.ep_base.specs.declared.err.linux_sll.HeaderSliceError.TheVariants as sll_error
use Rattle.ep_base.specs.declared.err.macsec.HeaderSliceError.{HeaderSliceError as MacsecError}
use Rattle.ep_base.specs.declared.err.macsec.HeaderSliceError.TheVariants as macsec_error
use Rattle.ep_link.specs.declared.link_ext.single_vlan_header.SingleVlanHeader.{SingleVlanHeader}
use Rattle.ep_link.specs.Arp.{IsArp, RefusesArp, arp_truncation_limit, arp_len_of, arp_rows}
use Rattle.ep_link.specs.Ethernet2.{IsEthernet2, RefusesEthernet2, ethernet2_rows}
use Rattle.ep_link.specs.LinkExtensions.{IsLinkExtension, RefusesLinkExtension, macsec, vlan}
use Rattle.ep_link.specs.LinuxSll.{IsLinuxSll, RefusesLinuxSll, knows_hardware, linux_sll_rows}
use Rattle.ep_link.specs.Macsec.{IsMacsec, IsMacsecHeader, RefusesMacsec, RefusesMacsecHeader, macsec_header_rows, macsec_len_of, macsec_payload_bytes, macsec_rows, modification_of, short_len_of, tag_len_of, type_len_by}
use Rattle.ep_link.specs.Vlan.{IsVlan, RefusesVlan, vlan_rows}
use Rattle.ep_link.proofs.ArpLemmas.{arp_is_read}
use Rattle.ep_link.proofs.Ethernet2Lemmas.{ethernet2_is_read}
use Rattle.ep_link.proofs.LinkExtensionLemmas.{vlan_not_macsec}
use Rattle.ep_link.proofs.LinuxSllLemmas.{linux_sll_is_read}
use Rattle.ep_link.proofs.MacsecLemmas.{macsec_header_is_read, macsec_is_read}
use Rattle.ep_link.proofs.VlanLemmas.{vlan_is_read}

-- ---- layers of fixed length

pub ethernet2_cut : ReportsTruncation IsEthernet2 RefusesEthernet2 (λ (error : LenError). error) (λ frame. slice_end)
ethernet2_cut prefix back fits frame is error refused =
    refused_beside (IsTruncationError (λ (e : LenError). e) slice_end (length prefix) (length (prefix ++ back)))
    (ethernet2_rows prefix) (ethernet2_rows (prefix ++ back))
    (cut_first (λ (e : LenError). e) slice_end prefix back 14 layer.Ethernet2Header refl (λ present. tt))
    (ethernet2_is_read.is_read (prefix ++ back) frame is).0 error refused

abbrev SllCut : List ℕ → List ℕ → SllError → Type 0
SllCut prefix back = IsTruncationError sll_error.Len slice_end (length prefix) (length (prefix ++ back))

pub linux_sll_cut : ReportsTruncation IsLinuxSll RefusesLinuxSll sll_error.Len (λ packet. slice_end)
linux_sll_cut prefix back fits packet is error refused =
    refused_beside (SllCut prefix back) (linux_sll_rows prefix) (linux_sll_rows (prefix ++ back))
    (cut_first sll_error.Len slice_end prefix back 16 layer.LinuxSllHeader refl (λ present.
    same_then (ap (nat_lt 7) (word_beside prefix back 0 (omega (arith, present))))
    (same_then (ap (λ (n : ℕ). not (knows_hardware n)) (word_beside prefix back 2 (omega (arith, present)))) tt)))
    (linux_sll_is_read.is_read (prefix ++ back) packet is).0 error refused

-- An error of a truncated VLAN tag, converted by `named`, is an error for the truncated bytes.
vlan_named : {E : Type 0} (named : LenError → E) (prefix back : List ℕ) (tagged : Parts SingleVlanHeader)
    → IsVlan (prefix ++ back) tagged → (error : E) → first_row (rows_as named (vlan_rows prefix)) ≡ Some error
    → IsTruncationError named slice_end (length prefix) (length (prefix ++ back)) error
vlan_named named prefix back tagged is error refused =
    refused_beside (IsTruncationError named slice_end (length prefix) (length (prefix ++ back)))
    (rows_as named (vlan_rows prefix)) (rows_as named (vlan_rows (prefix ++ back)))
    (cut_first named slice_end prefix back 4 layer.VlanHeader refl (λ present. tt))
    (first_row-as_none named (vlan_rows (prefix ++ back)) (vlan_is_read.is_read (prefix ++ back) tagged is).0)
    error refused

pub vlan_cut : ReportsTruncation IsVlan RefusesVlan (λ (error : LenError). error) (λ tagged. slice_end)
vlan_cut prefix back fits = vlan_named (λ (e : LenError). e) prefix back

-- ---- ARP

-- With fewer than 8 bytes, the address lengths are not available, and the length source is the end of the slice.
before_lengths : (n : ℕ) → nat_lt n 8 ≡ true
    → source.Slice ≡ (if nat_le 8 n then source.ArpAddrLengths else source.Slice)
before_lengths n short = grind (arith, common_steps)

after_lengths : (n : ℕ) → nat_lt n 8 ≡ false
    → source.ArpAddrLengths ≡ (if nat_le 8 n then source.ArpAddrLengths else source.Slice)
after_lengths n present = grind (arith, common_steps)

abbrev ArpCut : List ℕ → List ℕ → LenError → Type 0
ArpCut prefix back =
    IsTruncationError (λ (e : LenError). e) (arp_truncation_limit 0) (length prefix) (length (prefix ++ back))

arp_len_beside : (prefix back : List ℕ) → nat_lt (length prefix) 8 ≡ false → arp_len_of prefix ≡ arp_len_of (prefix ++ back)
arp_len_beside prefix back long =
    let present = enough (length prefix) 8 long in
    let hw = byte_beside prefix back 4 (omega (arith, present)) in
    let protocol = byte_beside prefix back 5 (omega (arith, present)) in
    omega (arith, hw, protocol)

pub arp_cut : ReportsTruncation IsArp RefusesArp (λ (error : LenError). error) (λ read. arp_truncation_limit 0)
arp_cut prefix back fits read is error refused =
    refused_beside (ArpCut prefix back) (arp_rows prefix) (arp_rows (prefix ++ back))
    (λ long. (
      λ short.
          cut_row (λ (e : LenError). e) (arp_truncation_limit 0) prefix back 8 8 source.Slice layer.Arp
          (before_lengths (length prefix) short) refl long short,
      λ present.
          λ complete. (
            cut_row (λ (e : LenError). e) (arp_truncation_limit 0) prefix back (arp_len_of prefix)
                (arp_len_of (prefix ++ back))
                source.ArpAddrLengths layer.Arp (after_lengths (length prefix) present) (arp_len_beside prefix back present)
                complete,
            λ last. tt,
          ),
    ))
    (arp_is_read.is_read (prefix ++ back) read is).0 error refused

-- ---- MACsec

abbrev MacsecCut : List ℕ → List ℕ → MacsecError → Type 0
MacsecCut prefix back = IsTruncationError macsec_error.Len slice_end (length prefix) (length (prefix ++ back))

-- The rows of a tag have the property for the prefix, if the rows after them do whenever the first two bytes are
-- available.
tag_beside : (prefix back : List ℕ) (rows complete : List (Bool × MacsecError))
    → (slice_index prefix 0 ≡ slice_index (prefix ++ back) 0 → slice_index prefix 1 ≡ slice_index (prefix ++ back) 1
    → BesideRows (MacsecCut prefix back) rows complete)
    → BesideRows (MacsecCut prefix back) (macsec_header_rows prefix ++ rows) (macsec_header_rows (prefix ++ back) ++ complete)
tag_beside prefix back rows complete after =
    cut_first macsec_error.Len slice_end prefix back 6 layer.MacsecHeader refl (λ present.
    let first = byte_beside prefix back 0 (omega (arith, present)) in
    let second = byte_beside prefix back 1 (omega (arith, present)) in
    same_then (ap (nat_le 128) first) (same_then (λ i. (first i / 4 % 4 == 0) && (second i % 64 == 1))
    (cut_then macsec_error.Len slice_end prefix back (tag_len_of prefix) (tag_len_of (prefix ++ back)) layer.MacsecHeader
    refl (ap (λ (b : ℕ). 6 + 8 * (b / 32 % 2) + type_len_by (b / 4 % 4)) first) (after first second))))

pub macsec_header_cut : ReportsTruncation IsMacsecHeader RefusesMacsecHeader macsec_error.Len (λ read. slice_end)
macsec_header_cut prefix back fits read is error refused =
    refused_beside (MacsecCut prefix back) (macsec_header_rows prefix) (macsec_header_rows (prefix ++ back))
    (tag_beside prefix back [] [] (λ first second. tt)) (macsec_header_is_read.is_read (prefix ++ back) read is).0 error
    refused

-- The row of the short length reports the truncated bytes; a short length of 0 requires no payload bytes.
short_len_row : (prefix back : List ℕ) (zero : Bool) (demanded : ℕ) (here complete : ℕ)
    → here ≡ (if zero then length prefix else demanded) → complete ≡ (if zero then length (prefix ++ back) else demanded)
    → nat_lt (length (prefix ++ back)) complete ≡ false → nat_lt (length prefix) here ≡ true
    → MacsecCut prefix back (macsec_error.Len (len_error here (length prefix) source.Slice layer.MacsecPacket))
short_len_row prefix back true demanded here complete is_here is_complete long short =
    absurd (let all : here ≡ length prefix = is_here in grind (arith, common_steps))
short_len_row prefix back false demanded here complete is_here is_complete long short =
    cut_row macsec_error.Len slice_end prefix back here complete source.Slice layer.MacsecPacket refl
    (is_here ∙ sym is_complete) long short

-- The length of a packet according to its first two bytes, if n bytes are available.
abbrev len_by : ℕ → ℕ → ℕ → ℕ
len_by first second n =
    if second % 64 == 0 then n
    else 6 + 8 * (first / 32 % 2) + type_len_by (first / 4 % 4) + (second % 64 - type_len_by (first / 4 % 4))

-- The row of a packet after the rows of its tag.
abbrev packet_row : List ℕ → List (Bool × MacsecError)
packet_row bytes =
    let row = len_error (macsec_len_of bytes) (length bytes) source.Slice layer.MacsecPacket in
    (nat_lt (length bytes) (macsec_len_of bytes), macsec_error.Len row) ∷ []

pub macsec_cut : ReportsTruncation IsMacsec RefusesMacsec macsec_error.Len (λ packet. slice_end)
macsec_cut prefix back fits packet is error refused =
    refused_beside (MacsecCut prefix back) (macsec_rows prefix) (macsec_rows (prefix ++ back))
    (tag_beside prefix back (packet_row prefix) (packet_row (prefix ++ back)) (λ first second complete. (
      short_len_row prefix back (short_len_of prefix == 0)
          (tag_len_of prefix + (short_len_of prefix - type_len_by (modification_of prefix)))
          (macsec_len_of prefix) (macsec_len_of (prefix ++ back)) refl
          (λ i. len_by (sym first i) (sym second i) (length (prefix ++ back))) complete,
      λ last. tt,
    )))
    (macsec_is_read.is_read (prefix ++ back) packet is).0 error refused

-- ---- link extensions

pub extension_cut : (type : EtherType)
    → ReportsTruncation (IsLinkExtension type) (RefusesLinkExtension type) macsec_error.Len (λ part. slice_end)
extension_cut type prefix back fits (vlan tag payload, left) is error (inl refused) =
    vlan_named macsec_error.Len prefix back (parts_of tag payload left) is.1 error refused.1
extension_cut type prefix back fits (vlan tag payload, left) is error (inr refused) =
    absurd (vlan_not_macsec type is.0 refused.0)
extension_cut type prefix back fits (macsec tag payload, left) is error (inl refused) =
    absurd (vlan_not_macsec type refused.0 is.0)
extension_cut type prefix back fits (macsec tag payload, left) is error (inr refused) =
    macsec_cut prefix back fits (parts_of tag (macsec_payload_bytes payload) left) is.1 error refused.1
