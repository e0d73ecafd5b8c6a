-- Offsets of the errors of single extension headers.
use Rattle.std.proofs.Common.{◌≡◌, ℕ, ◌==◌, Bool, true, false, if◌then◌else◌, List, refl}
use Rattle.ep_base.specs.Tables.{rows_as}
use Rattle.ep_base.specs.IpNumbers.{authentication_number, fragment_number}
use Rattle.ep_base.specs.declared.err.ipv6_exts.HeaderSliceError.{HeaderSliceError}
use Rattle.ep_base.specs.declared.err.ipv6_exts.HeaderSliceError.TheVariants as header_error
use Rattle.ep_base.proofs.TableLemmas.{AllErrors, refusal_is}
use Rattle.ep_ext.specs.IpAuth.{ip_auth_rows}
use Rattle.ep_ext.specs.FragmentHeader.{fragment_header_rows}
use Rattle.ep_ext.specs.RawExtension.{raw_extension_rows}
use Rattle.ep_ext.specs.ExtensionParts.{auth_refusal, extension_part_rows, RefusesExtensionPart}
use Rattle.ep_ext.specs.Chains.{offset_of}

-- The layer of the error starts at byte 0.
abbrev pub AtStart : HeaderSliceError → Type 0
AtStart error = offset_of error ≡ 0

rows_at_start : (auth fragment : Bool) (bytes : List ℕ) → AllErrors AtStart
    (if auth then rows_as auth_refusal (ip_auth_rows bytes)
    else if fragment then rows_as header_error.Len (fragment_header_rows bytes)
    else rows_as header_error.Len (raw_extension_rows bytes))
rows_at_start true fragment bytes = (refl, (refl, (refl, tt)))
rows_at_start false true bytes = (refl, tt)
rows_at_start false false bytes = (refl, (refl, tt))

-- A single header is rejected at byte 0.
pub part_at_start : (number : ℕ) (bytes : List ℕ) (error : HeaderSliceError) → RefusesExtensionPart number bytes error
    → AtStart error
part_at_start number bytes error refused =
    refusal_is AtStart (extension_part_rows number bytes)
    (rows_at_start (number == authentication_number) (number == fragment_number) bytes) error refused
