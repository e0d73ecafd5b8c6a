-- A prefix of an extension header or chain is rejected only for its missing bytes, and a header or chain stays valid
-- when bytes are appended.
use Rattle.std.proofs.Common.{◌≡◌, ℕ, ◌+◌, ◌*◌, ◌==◌, List, [], ◌∷◌, ◌++◌, length, refl, sym, ap, subst, ◌∙◌, inl, inr, arith, length-append}
use Rattle.ep_base.specs.Bytes.{AreBytes}
use Rattle.ep_base.specs.IpNumbers.{authentication_number, fragment_number}
use Rattle.ep_base.specs.Readings.{Reading}
use Rattle.ep_base.specs.Missing.{IsTruncationError, ReportsTruncation, slice_end}
use Rattle.ep_base.specs.Tables.{rows_as}
use Rattle.ep_base.proofs.CutRefusalLemmas.{BesideRows, byte_beside, cut_first, cut_then, either_beside, further_short, longer_rest, mapped_beside, named_beside, refused_beside, renamed_cut, same_then, holds_unrefused}
use Rattle.ep_base.specs.declared.err.len_error.LenError.{LenError}
use Rattle.ep_base.specs.declared.err.layer.Layer.TheVariants as layer
use Rattle.ep_base.specs.declared.err.ip_auth.HeaderSliceError.{HeaderSliceError as AuthSliceError}
use Rattle.ep_base.specs.declared.err.ip_auth.HeaderSliceError.TheVariants as auth_error
use Rattle.ep_base.specs.declared.err.ipv6_exts.HeaderSliceError.{HeaderSliceError}
use Rattle.ep_base.specs.declared.err.ipv6_exts.HeaderSliceError.TheVariants as header_error
use Rattle.ep_ext.specs.Chains.{ExtensionChain, IpVersion, IsChainAfter, IsExtensionChain, RefusesChainAfter, RefusesExtensionChain, ends, with_offset_in, misplaced, takes}
use Rattle.ep_ext.specs.ExtensionParts.{ExtensionPart, IsExtensionPart, authentication, auth_refusal, destination_options, extension_part_rows, fragment, hop_by_hop, part_len, part_next, routing}
use Rattle.ep_ext.specs.FragmentHeader.{IsFragmentHeader, RefusesFragmentHeader, fragment_header_rows}
use Rattle.ep_ext.specs.IpAuth.{IsIpAuth, RefusesIpAuth, ip_auth_len_of, ip_auth_rows}
use Rattle.ep_ext.specs.RawExtension.{IsRawExtension, RefusesRawExtension, raw_extension_bytes, raw_extension_len_of, raw_extension_rows}
use Rattle.ep_ext.specs.declared.ipv6_raw_ext_header.Ipv6RawExtHeader.{Ipv6RawExtHeader}
use Rattle.ep_ext.proofs.ChainLemmas.{taken_is_kind}
use Rattle.ep_ext.proofs.FragmentHeaderLemmas.{fragment_header_is_read}
use Rattle.ep_ext.proofs.IpAuthLemmas.{ip_auth_is_read}
use Rattle.ep_ext.proofs.RawExtensionLemmas.{raw_extension_is_read}
use Rattle.ep_ext.proofs.HeaderLawLemmas.{header_laws}
use Rattle.ep_ext.proofs.PartLemmas.{ReadPart, part_after_fits, part_decided, part_lens}

-- The error is caused by the bytes missing from the prefix, and its limit is the end of the slice.
abbrev pub IsCut : ℕ → ℕ → HeaderSliceError → Type 0
IsCut = IsTruncationError header_error.Len slice_end

-- ---- single headers

abbrev Beside : List ℕ → List ℕ → HeaderSliceError → Type 0
Beside prefix back = IsCut (length prefix) (length (prefix ++ back))

auth_rows_beside : (prefix back : List ℕ)
    → BesideRows (IsTruncationError auth_error.Len slice_end (length prefix) (length (prefix ++ back))) (ip_auth_rows prefix)
    (ip_auth_rows (prefix ++ back))
auth_rows_beside prefix back =
    cut_first auth_error.Len slice_end prefix back 12 layer.IpAuthHeader refl (λ present.
    let field = byte_beside prefix back 1 (omega (arith, present)) in
    same_then (ap (λ (b : ℕ). b == 0) field)
    (cut_then auth_error.Len slice_end prefix back (ip_auth_len_of prefix) (ip_auth_len_of (prefix ++ back))
    layer.IpAuthHeader refl (ap (λ (b : ℕ). 4 * (b + 2)) field) tt))

auth_beside : (prefix back : List ℕ) → BesideRows (Beside prefix back) (rows_as auth_refusal (ip_auth_rows prefix))
    (rows_as auth_refusal (ip_auth_rows (prefix ++ back)))
auth_beside prefix back =
    named_beside (Beside prefix back) auth_refusal (ip_auth_rows prefix) (ip_auth_rows (prefix ++ back))
    (mapped_beside (IsTruncationError auth_error.Len slice_end (length prefix) (length (prefix ++ back)))
    (λ (error : AuthSliceError). Beside prefix back (auth_refusal error))
    (λ error is. renamed_cut auth_refusal auth_error.Len slice_end (length prefix) (length (prefix ++ back)) error
    (auth_refusal error) is refl)
    (ip_auth_rows prefix) (ip_auth_rows (prefix ++ back)) (auth_rows_beside prefix back))

-- The error, wrapped by `named`, is caused by the bytes missing from the prefix.
abbrev BesideAs : {E : Type 0} → (LenError → E) → List ℕ → List ℕ → LenError → Type 0
BesideAs named prefix back error = IsTruncationError named slice_end (length prefix) (length (prefix ++ back)) (named error)

fragment_beside : {E : Type 0} (named : LenError → E) (prefix back : List ℕ)
    → BesideRows (BesideAs named prefix back) (fragment_header_rows prefix) (fragment_header_rows (prefix ++ back))
fragment_beside named prefix back = cut_first named slice_end prefix back 8 layer.Ipv6FragHeader refl (λ present. tt)

raw_beside : {E : Type 0} (named : LenError → E) (prefix back : List ℕ)
    → BesideRows (BesideAs named prefix back) (raw_extension_rows prefix) (raw_extension_rows (prefix ++ back))
raw_beside named prefix back =
    cut_first named slice_end prefix back 8 layer.Ipv6ExtHeader refl (λ present.
    let field = byte_beside prefix back 1 (omega (arith, present)) in
    cut_then named slice_end prefix back (raw_extension_len_of prefix) (raw_extension_len_of (prefix ++ back))
    layer.Ipv6ExtHeader refl (ap (λ (b : ℕ). 8 * (b + 1)) field) tt)

pub ip_auth_cut : ReportsTruncation IsIpAuth RefusesIpAuth auth_error.Len (λ read. slice_end)
ip_auth_cut prefix back fits read is error refused =
    refused_beside (IsTruncationError auth_error.Len slice_end (length prefix) (length (prefix ++ back))) (ip_auth_rows prefix)
    (ip_auth_rows (prefix ++ back)) (auth_rows_beside prefix back) (ip_auth_is_read.is_read (prefix ++ back) read is).0
    error
    refused

pub fragment_header_cut : ReportsTruncation IsFragmentHeader RefusesFragmentHeader (λ (error : LenError). error)
    (λ read. slice_end)
fragment_header_cut prefix back fits read is error refused =
    refused_beside (BesideAs (λ (e : LenError). e) prefix back) (fragment_header_rows prefix)
    (fragment_header_rows (prefix ++ back)) (fragment_beside (λ (e : LenError). e) prefix back)
    (fragment_header_is_read.is_read (prefix ++ back) read is).0 error refused

pub raw_extension_cut : ReportsTruncation IsRawExtension RefusesRawExtension (λ (error : LenError). error) (λ read. slice_end)
raw_extension_cut prefix back fits read is error refused =
    refused_beside (BesideAs (λ (e : LenError). e) prefix back) (raw_extension_rows prefix)
    (raw_extension_rows (prefix ++ back)) (raw_beside (λ (e : LenError). e) prefix back)
    (raw_extension_is_read.is_read (prefix ++ back) read is).0 error refused

part_beside : (number : ℕ) (prefix back : List ℕ) → BesideRows (Beside prefix back) (extension_part_rows number prefix)
    (extension_part_rows number (prefix ++ back))
part_beside number prefix back =
    either_beside (Beside prefix back) (number == authentication_number) _ _ _ _ (auth_beside prefix back)
    (either_beside (Beside prefix back) (number == fragment_number) _ _ _ _
    (named_beside (Beside prefix back) header_error.Len (fragment_header_rows prefix)
    (fragment_header_rows (prefix ++ back))
    (fragment_beside header_error.Len prefix back))
    (named_beside (Beside prefix back) header_error.Len (raw_extension_rows prefix) (raw_extension_rows (prefix ++ back))
    (raw_beside header_error.Len prefix back)))

-- A header stays a header when bytes are appended.
longer_raw : (bytes more : List ℕ) (header : Ipv6RawExtHeader) (after : List ℕ) → IsRawExtension bytes (header, after)
    → IsRawExtension (bytes ++ more) (header, after ++ more)
longer_raw bytes more header after is = record {
  fits = is.fits;
  parts = longer_rest bytes (raw_extension_bytes header) after more is.parts;
}

pub longer_part : (number : ℕ) (bytes more : List ℕ) (part : ExtensionPart) (after : List ℕ)
    → IsExtensionPart number bytes part after → IsExtensionPart number (bytes ++ more) part (after ++ more)
longer_part number bytes more (hop_by_hop header) after is = (is.0, longer_raw bytes more header after is.1)
longer_part number bytes more (destination_options header) after is = (is.0, longer_raw bytes more header after is.1)
longer_part number bytes more (routing header) after is = (is.0, longer_raw bytes more header after is.1)
longer_part number bytes more (fragment header) after is = (
  is.0,
  record {
    encoded = is.1.encoded;
    encodes = is.1.encodes;
    parts = longer_rest bytes is.1.encoded after more is.1.parts;
  },
)
longer_part number bytes more (authentication header) after is = (
  is.0,
  record {
    encoded = is.1.encoded;
    encodes = is.1.encodes;
    parts = longer_rest bytes is.1.encoded after more is.1.parts;
  },
)

-- ---- chains

-- A chain stays a chain when bytes are appended.
longer_after : (version : IpVersion) (reading : Reading) (taken : List ℕ) (number : ℕ) (bytes more : List ℕ)
    (parts : List ExtensionPart) (last : ℕ) (rest : List ℕ)
    → IsChainAfter version reading taken number bytes parts last rest
    → IsChainAfter version reading taken number (bytes ++ more) parts last (rest ++ more)
longer_after version reading taken number bytes more [] last rest is =
    (is.0, is.1, ap (λ (l : List ℕ). l ++ more) is.2)
longer_after version reading taken number bytes more (part ∷ parts) last rest is = (
  is.0,
  (
    is.1.0 ++ more,
    longer_part number bytes more part is.1.0 is.1.1,
    longer_after version reading (number ∷ taken) (part_next part) is.1.0 more parts last rest is.1.2,
  ),
)

pub longer_chain : (version : IpVersion) (reading : Reading) (number : ℕ) (bytes more : List ℕ) (chain : ExtensionChain)
    → IsExtensionChain version reading number bytes chain
    → IsExtensionChain version reading number (bytes ++ more)
    (record { parts = chain.parts; last = chain.last; rest = chain.rest ++ more })
longer_chain version reading number bytes more chain is =
    longer_after version reading [] number bytes more chain.parts chain.last chain.rest is

-- An error for missing bytes stays one when an offset is added.
further_cut : (offset cut complete : ℕ) (error : HeaderSliceError) → IsCut cut complete error
    → IsCut (offset + cut) (offset + complete) (with_offset_in offset error)
further_cut offset cut complete error is =
    let missing = is.missing in
    record {
      missing = record missing { layer_start_offset = missing.layer_start_offset + offset };
      is = ap (with_offset_in offset) is.is;
      short = further_short offset cut complete missing.len_source missing is.short;
      source = is.source;
    }

-- If all bytes are a chain after the visited headers and a prefix is rejected, the error is caused by the missing
-- bytes.
cut_after : (version : IpVersion) (reading : Reading) (taken : List ℕ) (offset number : ℕ) (prefix back : List ℕ)
    → AreBytes (prefix ++ back)
    → (stand : List ExtensionPart) (last : ℕ) (rest : List ℕ)
    → IsChainAfter version reading taken number (prefix ++ back) stand last rest
    → (parts : List ExtensionPart) (error : HeaderSliceError)
    → RefusesChainAfter version reading taken offset number prefix parts error
    → IsCut (offset + length prefix) (offset + length (prefix ++ back)) error
cut_after version reading taken offset number prefix back fits [] last rest is [] error (inl refused) =
    absurd (let wrong : ends ≡ misplaced = sym is.0 ∙ refused.0 in cc)
cut_after version reading taken offset number prefix back fits [] last rest is [] error (inr refused) =
    absurd (let wrong : ends ≡ takes = sym is.0 ∙ refused.0 in cc)
cut_after version reading taken offset number prefix back fits [] last rest is (part ∷ parts) error refused =
    absurd (let wrong : ends ≡ takes = sym is.0 ∙ refused.0 in cc)
cut_after version reading taken offset number prefix back fits (next ∷ stand) last rest is [] error (inl refused) =
    absurd (let wrong : takes ≡ misplaced = sym is.0 ∙ refused.0 in cc)
cut_after version reading taken offset number prefix back fits (next ∷ stand) last rest is [] error (inr refused) =
    let kind = taken_is_kind version reading taken number refused.0 in
    let none = holds_unrefused (extension_part_rows number (prefix ++ back))
    (part_decided header_laws number (prefix ++ back) fits kind) (next, is.1.0) is.1.1 in
    subst (IsCut (offset + length prefix) (offset + length (prefix ++ back))) (sym refused.1.2)
    (further_cut offset (length prefix) (length (prefix ++ back)) refused.1.0
    (refused_beside (Beside prefix back) (extension_part_rows number prefix) (extension_part_rows number (prefix ++ back))
    (part_beside number prefix back) none refused.1.0 refused.1.1))
cut_after version reading taken offset number prefix back fits (next ∷ stand) last rest is (part ∷ parts) error refused
    =
    let after = refused.1.0 in
    let kind = taken_is_kind version reading taken number refused.0 in
    let longer = longer_part number prefix back part after refused.1.1 in
    let same = (part_decided header_laws number (prefix ++ back) fits kind).one_value (next, is.1.0)
    (part, after ++ back)
    is.1.1 longer in
    let holds = subst (λ (read : ReadPart). IsChainAfter version reading (number ∷ taken) (part_next read.0) read.1
    stand
    last rest) same is.1.2 in
    let len = part_lens number prefix part after refused.1.1 in
    let cut : offset + part_len part + length after ≡ offset + length prefix = omega (arith, len.0) in
    let complete : offset + part_len part + length (after ++ back) ≡ offset + length (prefix ++ back) =
    omega (arith, len.0, length-append after back, length-append prefix back) in
    subst (λ (n : ℕ). IsCut n (offset + length (prefix ++ back)) error) cut
    (subst (λ (n : ℕ). IsCut (offset + part_len part + length after) n error) complete
    (cut_after version reading (number ∷ taken) (offset + part_len part) (part_next part) after back
    (part_after_fits number (prefix ++ back) part (after ++ back) longer fits) stand last rest holds parts error
    refused.1.2))

pub chain_cut : (version : IpVersion) (reading : Reading) (number : ℕ)
    → ReportsTruncation (IsExtensionChain version reading number) (RefusesExtensionChain version reading number) header_error.Len
    (λ chain. slice_end)
chain_cut version reading number prefix back fits chain is error refused =
    let cut : 0 + length prefix ≡ length prefix = omega arith in
    let complete : 0 + length (prefix ++ back) ≡ length (prefix ++ back) = omega arith in
    subst (λ (n : ℕ). IsCut n (length (prefix ++ back)) error) cut
    (subst (λ (n : ℕ). IsCut (0 + length prefix) n error) complete
    (cut_after version reading [] 0 number prefix back fits chain.parts chain.last chain.rest is refused.0 error
    refused.1))
