-- Length errors of extension headers and chains: which bytes are missing.
use Rattle.std.proofs.Common.{◌≡◌, ℕ, ◌+◌, ◌==◌, Bool, true, false, if◌then◌else◌, List, [], ◌∷◌, length, refl, sym, subst, inl, inr, arith}
use Rattle.std.specs.Prelude.{⊤, nat_lt}
use Rattle.ep_base.specs.IpNumbers.{authentication_number, fragment_number}
use Rattle.ep_base.specs.Readings.{Reading, len_error}
use Rattle.ep_base.specs.Missing.{IsShortAt, ReportsMissing}
use Rattle.ep_base.specs.Tables.{rows_as}
use Rattle.ep_base.proofs.MissingLemmas.{AllWhere, refusal_where, short_row, tells_missing}
use Rattle.ep_base.specs.declared.err.len_error.LenError.{LenError}
use Rattle.ep_base.specs.declared.err.layer.Layer.{Layer}
use Rattle.ep_base.specs.declared.err.layer.Layer.TheVariants as layer
use Rattle.ep_base.specs.declared.len_source.LenSource.TheVariants as source
use Rattle.ep_base.specs.declared.err.ip_auth.HeaderSliceError.TheVariants as auth_error
use Rattle.ep_base.specs.declared.err.ipv6_exts.HeaderSliceError.{HeaderSliceError}
use Rattle.ep_base.specs.declared.err.ipv6_exts.HeaderSliceError.TheVariants as header_error
use Rattle.ep_ext.specs.Chains.{IpVersion, RefusesChainAfter, RefusesExtensionChain, with_offset_in}
use Rattle.ep_ext.specs.ExtensionParts.{ExtensionPart, RefusesExtensionPart, auth_refusal, extension_part_rows, part_len, part_next}
use Rattle.ep_ext.specs.FragmentHeader.{RefusesFragmentHeader, fragment_header_rows}
use Rattle.ep_ext.specs.IpAuth.{RefusesIpAuth, ip_auth_len_of, ip_auth_rows}
use Rattle.ep_ext.specs.RawExtension.{RefusesRawExtension, raw_extension_len_of, raw_extension_rows}
use Rattle.ep_ext.proofs.PartLemmas.{part_lens}

-- A length error for missing bytes up to this limit, which is the end of the slice.
abbrev pub IsShortOf : ℕ → LenError → Type 0
IsShortOf limit error = IsShortAt limit error × (error.len_source ≡ source.Slice)

abbrev pub Misses : ℕ → HeaderSliceError → Type 0
Misses limit (header_error.Len error) = IsShortOf limit error
Misses limit (header_error.Content error) = ⊤

-- A refusal row for too few bytes.
row : (bytes : List ℕ) (required : ℕ) (place : Layer) → nat_lt (length bytes) required ≡ true
    → IsShortOf (length bytes) (len_error required (length bytes) source.Slice place)
row bytes required place below = (short_row bytes required source.Slice place below, refl)

-- ---- single headers

part_rows : (auth fragment : Bool) (bytes : List ℕ) → AllWhere (Misses (length bytes))
    (if auth then rows_as auth_refusal (ip_auth_rows bytes)
    else if fragment then rows_as header_error.Len (fragment_header_rows bytes)
    else rows_as header_error.Len (raw_extension_rows bytes))
part_rows true fragment bytes =
    (row bytes 12 layer.IpAuthHeader, (λ holds. tt, (row bytes (ip_auth_len_of bytes) layer.IpAuthHeader, tt)))
part_rows false true bytes = (row bytes 8 layer.Ipv6FragHeader, tt)
part_rows false false bytes =
    (row bytes 8 layer.Ipv6ExtHeader, (row bytes (raw_extension_len_of bytes) layer.Ipv6ExtHeader, tt))

-- A length error of a single header is for missing bytes.
part_misses : (number : ℕ) (bytes : List ℕ) (error : HeaderSliceError) → RefusesExtensionPart number bytes error
    → Misses (length bytes) error
part_misses number bytes error refused =
    refusal_where (Misses (length bytes)) (extension_part_rows number bytes)
    (part_rows (number == authentication_number) (number == fragment_number) bytes) error refused

-- ---- chains

-- An error for missing bytes stays one when an offset is added.
further_misses : (offset limit : ℕ) (error : HeaderSliceError) → Misses limit error
    → Misses (offset + limit) (with_offset_in offset error)
further_misses offset limit (header_error.Len error) short =
    (record { available = omega (arith, short.0.available); needed = short.0.needed }, short.1)
further_misses offset limit (header_error.Content error) short = tt

chain_after_misses : (version : IpVersion) (reading : Reading) (taken : List ℕ) (offset number : ℕ) (bytes : List ℕ)
    (parts : List ExtensionPart) (error : HeaderSliceError)
    → RefusesChainAfter version reading taken offset number bytes parts error
    → Misses (offset + length bytes) error
chain_after_misses version reading taken offset number bytes [] error (inl refused) =
    subst (Misses (offset + length bytes)) (sym refused.1) tt
chain_after_misses version reading taken offset number bytes [] error (inr refused) =
    subst (Misses (offset + length bytes)) (sym refused.1.2)
    (further_misses offset (length bytes) refused.1.0 (part_misses number bytes refused.1.0 refused.1.1))
chain_after_misses version reading taken offset number bytes (part ∷ parts) error refused =
    let after = refused.1.0 in
    let len = part_lens number bytes part after refused.1.1 in
    let same : offset + part_len part + length after ≡ offset + length bytes = omega (arith, len.0) in
    subst (λ (n : ℕ). Misses n error) same
    (chain_after_misses version reading (number ∷ taken) (offset + part_len part) (part_next part) after parts error
    refused.1.2)

-- A length error of a chain is for missing bytes.
pub chain_misses : (version : IpVersion) (reading : Reading) (number : ℕ) (bytes : List ℕ) (error : HeaderSliceError)
    → RefusesExtensionChain version reading number bytes error → Misses (length bytes) error
chain_misses version reading number bytes error refused =
    let same : 0 + length bytes ≡ length bytes = omega arith in
    subst (λ (n : ℕ). Misses n error) same
    (chain_after_misses version reading [] 0 number bytes refused.0 error refused.1)

-- ---- missing bytes counted by errors

pub ip_auth_tells : ReportsMissing (λ bytes error. RefusesIpAuth bytes (auth_error.Len error))
ip_auth_tells = tells_missing (λ bytes error. RefusesIpAuth bytes (auth_error.Len error))
    (λ bytes error refused at_hand inexact.
    (refusal_where (λ e. Misses (length bytes) (auth_refusal e)) (ip_auth_rows bytes)
    (row bytes 12 layer.IpAuthHeader, (λ holds. tt, (row bytes (ip_auth_len_of bytes) layer.IpAuthHeader, tt)))
    (auth_error.Len error) refused).0)

pub raw_extension_tells : ReportsMissing RefusesRawExtension
raw_extension_tells = tells_missing RefusesRawExtension
    (λ bytes error refused at_hand inexact.
    (refusal_where (IsShortOf (length bytes)) (raw_extension_rows bytes)
    (row bytes 8 layer.Ipv6ExtHeader, (row bytes (raw_extension_len_of bytes) layer.Ipv6ExtHeader, tt))
    error refused).0)

pub fragment_header_tells : ReportsMissing RefusesFragmentHeader
fragment_header_tells = tells_missing RefusesFragmentHeader
    (λ bytes error refused at_hand inexact.
    (refusal_where (IsShortOf (length bytes)) (fragment_header_rows bytes)
    (row bytes 8 layer.Ipv6FragHeader, tt) error refused).0)

pub chain_tells : (version : IpVersion) (reading : Reading) (number : ℕ)
    → ReportsMissing (λ bytes error. RefusesExtensionChain version reading number bytes (header_error.Len error))
chain_tells version reading number =
    tells_missing (λ bytes error. RefusesExtensionChain version reading number bytes (header_error.Len error))
    (λ bytes error refused at_hand inexact.
    (chain_misses version reading number bytes (header_error.Len error) refused).0)
