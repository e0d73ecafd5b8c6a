-- Extension headers of any kind: bytes with the number of a kind are a header or are rejected, and how long the header
-- is.
use Rattle.std.proofs.Common.{◌≡◌, ℕ, ◌+◌, ◌≤◌, Bool, true, false, List, [], ◌∷◌, ◌++◌, length, Some, refl, ap, subst, ◌∙◌, arith, length-append}
use Rattle.std.proofs.lemmas.Option.{none-some}
use Rattle.std.proofs.lemmas.Grind.{common_steps}
use Rattle.ep_base.specs.Bytes.{AreBytes}
use Rattle.ep_base.specs.Tables.{IsDecided, Refuses, first_row, rows_as}
use Rattle.ep_base.proofs.BytesLemmas.{AreBytes-back}
use Rattle.ep_base.proofs.DecidedLemmas.{IsImage, decided_as}
use Rattle.ep_base.proofs.TableLemmas.{first_row-as_some}
use Rattle.ep_base.specs.declared.err.ipv6_exts.HeaderSliceError.TheVariants as header_error
use Rattle.ep_ext.specs.declared.ip_auth_header.IpAuthHeader.{IpAuthHeader}
use Rattle.ep_ext.specs.declared.ipv6_fragment_header.Ipv6FragmentHeader.{Ipv6FragmentHeader}
use Rattle.ep_ext.specs.declared.ipv6_raw_ext_header.Ipv6RawExtHeader.{Ipv6RawExtHeader}
use Rattle.ep_ext.specs.IpAuth.{IsIpAuth, RefusesIpAuth, ip_auth_rows, ip_auth_bytes_with, ip_auth_len}
use Rattle.ep_ext.specs.FragmentHeader.{IsFragmentHeader, RefusesFragmentHeader, fragment_header_rows}
use Rattle.ep_ext.specs.RawExtension.{IsRawExtension, RefusesRawExtension, raw_extension_rows, raw_extension_bytes, raw_extension_len}
use Rattle.ep_ext.specs.ExtensionParts.{ExtensionPart, hop_by_hop, destination_options, routing, fragment, authentication, part_number, part_len, IsExtensionPart, RefusesExtensionPart, auth_refusal}

-- The laws of the headers.
pub record HeaderLaws : Type 0 where
  pub ip_auth : (bytes : List ℕ) → AreBytes bytes → IsDecided (IsIpAuth bytes) (RefusesIpAuth bytes)
  pub fragment_header : (bytes : List ℕ) → AreBytes bytes
      → IsDecided (IsFragmentHeader bytes) (RefusesFragmentHeader bytes)
  pub raw_extension : (bytes : List ℕ) → AreBytes bytes → IsDecided (IsRawExtension bytes) (RefusesRawExtension bytes)

-- A header and the bytes after it.
abbrev pub ReadPart : Type 0
ReadPart = ExtensionPart × List ℕ

-- The bytes, starting with the header of this IP number, are this header and the bytes after it.
abbrev pub IsReadPart : ℕ → List ℕ → ReadPart → Type 0
IsReadPart number bytes read = IsExtensionPart number bytes read.0 read.1

-- The IP number of a kind of extension header.
pub data IsKind : ℕ → Type 0 where
  is_hop_by_hop : IsKind 0
  is_routing : IsKind 43
  is_fragment : IsKind 44
  is_authentication : IsKind 51
  is_destination : IsKind 60

-- The first refusal of rows with renamed errors is the renamed first refusal.
pub refused_under : {E F : Type 0} (name : E → F) (rows : List (Bool × E)) (error : F)
    → first_row (rows_as name rows) ≡ Some error
    → (refusal : E) × (first_row rows ≡ Some refusal) × (error ≡ name refusal)
refused_under name [] error some = absurd (none-some error some)
refused_under name ((true, refusal) ∷ rows) error some = (refusal, refl, cc)
refused_under name ((false, refusal) ∷ rows) error some = refused_under name rows error some

refusals : {E F : Type 0} (name : E → F) (rows : List (Bool × E))
    → IsImage (Refuses rows) (Refuses (rows_as name rows)) name
refusals name rows = record {
  present = λ error refused. first_row-as_some name rows error refused;
  back = λ error refused. refused_under name rows error refused;
}

-- ---- each IP number has headers of its kind

hop_by_hop_back : (bytes : List ℕ) (part : ExtensionPart) (rest : List ℕ) → IsExtensionPart 0 bytes part rest
    → (read : Ipv6RawExtHeader × List ℕ) × IsRawExtension bytes read × ◌≡◌ {A = ReadPart} (part, rest)
    (hop_by_hop read.0, read.1)
hop_by_hop_back bytes (hop_by_hop header) rest is = ((header, rest), is.1, refl)
hop_by_hop_back bytes _ rest is = absurd (omega arith)

destination_back : (bytes : List ℕ) (part : ExtensionPart) (rest : List ℕ) → IsExtensionPart 60 bytes part rest
    → (read : Ipv6RawExtHeader × List ℕ) × IsRawExtension bytes read × ◌≡◌ {A = ReadPart} (part, rest)
    (destination_options read.0, read.1)
destination_back bytes (destination_options header) rest is = ((header, rest), is.1, refl)
destination_back bytes _ rest is = absurd (omega arith)

routing_back : (bytes : List ℕ) (part : ExtensionPart) (rest : List ℕ) → IsExtensionPart 43 bytes part rest
    → (read : Ipv6RawExtHeader × List ℕ) × IsRawExtension bytes read × ◌≡◌ {A = ReadPart} (part, rest)
    (routing read.0, read.1)
routing_back bytes (routing header) rest is = ((header, rest), is.1, refl)
routing_back bytes _ rest is = absurd (omega arith)

fragment_back : (bytes : List ℕ) (part : ExtensionPart) (rest : List ℕ) → IsExtensionPart 44 bytes part rest
    → (read : Ipv6FragmentHeader × List ℕ) × IsFragmentHeader bytes read × ◌≡◌ {A = ReadPart} (part, rest)
    (fragment read.0, read.1)
fragment_back bytes (fragment header) rest is = ((header, rest), is.1, refl)
fragment_back bytes _ rest is = absurd (omega arith)

authentication_back : (bytes : List ℕ) (part : ExtensionPart) (rest : List ℕ) → IsExtensionPart 51 bytes part rest
    → (read : IpAuthHeader × List ℕ) × IsIpAuth bytes read × ◌≡◌ {A = ReadPart} (part, rest)
    (authentication read.0, read.1)
authentication_back bytes (authentication header) rest is = ((header, rest), is.1, refl)
authentication_back bytes _ rest is = absurd (omega arith)

-- Bytes with the number of a kind are either exactly one header of the kind or rejected with exactly one error.
pub part_decided : HeaderLaws → (number : ℕ) (bytes : List ℕ) → AreBytes bytes → IsKind number
    → IsDecided (IsReadPart number bytes) (RefusesExtensionPart number bytes)
part_decided laws number bytes fits is_hop_by_hop =
    decided_as (λ read. (hop_by_hop read.0, read.1)) header_error.Len (laws.raw_extension bytes fits)
    (record { present = λ read is. (refl, is); back = λ read is. hop_by_hop_back bytes read.0 read.1 is })
    (refusals header_error.Len (raw_extension_rows bytes))
part_decided laws number bytes fits is_routing =
    decided_as (λ read. (routing read.0, read.1)) header_error.Len (laws.raw_extension bytes fits)
    (record { present = λ read is. (refl, is); back = λ read is. routing_back bytes read.0 read.1 is })
    (refusals header_error.Len (raw_extension_rows bytes))
part_decided laws number bytes fits is_fragment =
    decided_as (λ read. (fragment read.0, read.1)) header_error.Len (laws.fragment_header bytes fits)
    (record { present = λ read is. (refl, is); back = λ read is. fragment_back bytes read.0 read.1 is })
    (refusals header_error.Len (fragment_header_rows bytes))
part_decided laws number bytes fits is_authentication =
    decided_as (λ read. (authentication read.0, read.1)) auth_refusal (laws.ip_auth bytes fits)
    (record { present = λ read is. (refl, is); back = λ read is. authentication_back bytes read.0 read.1 is })
    (refusals auth_refusal (ip_auth_rows bytes))
part_decided laws number bytes fits is_destination =
    decided_as (λ read. (destination_options read.0, read.1)) header_error.Len (laws.raw_extension bytes fits)
    (record { present = λ read is. (refl, is); back = λ read is. destination_back bytes read.0 read.1 is })
    (refusals header_error.Len (raw_extension_rows bytes))

-- ---- header lengths

-- The bytes of a header, with its length, and the bytes after it.
pub record CutAfter (bytes after : List ℕ) (len : ℕ) : Type 0 where
  pub prefix : List ℕ
  pub parts : bytes ≡ prefix ++ after
  pub len_is : length prefix ≡ len
  pub least : 8 ≤ len

raw_cut : (bytes : List ℕ) (header : Ipv6RawExtHeader) (after : List ℕ) → IsRawExtension bytes (header, after)
    → CutAfter bytes after (raw_extension_len header)
raw_cut bytes header after is = record {
  prefix = raw_extension_bytes header;
  parts = is.parts;
  len_is = omega arith;
  least = omega (arith, is.fits.payload_least);
}

fragment_cut : (bytes : List ℕ) (header : Ipv6FragmentHeader) (after : List ℕ)
    → IsFragmentHeader bytes (header, after) → CutAfter bytes after 8
fragment_cut bytes header after is = record {
  prefix = is.encoded;
  parts = is.parts;
  len_is = ap length is.encodes.same;
  least = omega arith;
}

pub auth_len : (reserved : ℕ) (header : IpAuthHeader) → length (ip_auth_bytes_with reserved header) ≡ ip_auth_len header
auth_len reserved header = grind (arith, common_steps)

auth_cut : (bytes : List ℕ) (header : IpAuthHeader) (after : List ℕ) → IsIpAuth bytes (header, after)
    → CutAfter bytes after (ip_auth_len header)
auth_cut bytes header after is = record {
  prefix = is.encoded;
  parts = is.parts;
  len_is = ap length is.encodes.same ∙ auth_len is.encodes.reserved header;
  least = omega arith;
}

-- The header ends after its length.
pub part_cut : (number : ℕ) (bytes : List ℕ) (part : ExtensionPart) (after : List ℕ)
    → IsExtensionPart number bytes part after
    → CutAfter bytes after (part_len part)
part_cut number bytes (hop_by_hop header) after is = raw_cut bytes header after is.1
part_cut number bytes (destination_options header) after is = raw_cut bytes header after is.1
part_cut number bytes (routing header) after is = raw_cut bytes header after is.1
part_cut number bytes (fragment header) after is = fragment_cut bytes header after is.1
part_cut number bytes (authentication header) after is = auth_cut bytes header after is.1

-- The bytes are as long as the header and the bytes after it; a header has at least 8 bytes.
pub part_lens : (number : ℕ) (bytes : List ℕ) (part : ExtensionPart) (after : List ℕ)
    → IsExtensionPart number bytes part after
    → (length bytes ≡ part_len part + length after) × (8 ≤ part_len part)
part_lens number bytes part after is =
    let cut = part_cut number bytes part after is in
    (ap length cut.parts ∙ length-append cut.prefix after ∙ ap (λ (n : ℕ). n + length after) cut.len_is, cut.least)

-- The bytes after a header are bytes.
pub part_after_fits : (number : ℕ) (bytes : List ℕ) (part : ExtensionPart) (after : List ℕ)
    → IsExtensionPart number bytes part after
    → AreBytes bytes → AreBytes after
part_after_fits number bytes part after is fits =
    let cut = part_cut number bytes part after is in
    AreBytes-back cut.prefix after (subst AreBytes cut.parts fits)

-- The IP number before a header is that of its kind.
pub part_numbered : (number : ℕ) (bytes : List ℕ) (part : ExtensionPart) (after : List ℕ)
    → IsExtensionPart number bytes part after
    → number ≡ part_number part
part_numbered number bytes (hop_by_hop header) after is = is.0
part_numbered number bytes _ after is = is.0
