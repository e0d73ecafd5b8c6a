-- Facts about IP extension headers that follow from the laws of `ep_ext`, and where their errors are.
use Rattle.std.proofs.Common.{◌≡◌, ℕ, ◌+◌, ◌≤◌, List, [], ◌∷◌, length, ap, inl, inr, arith}
use Rattle.ep_base.specs.Bytes.{AreBytes}
use Rattle.ep_base.specs.Readings.{Reading}
use Rattle.ep_base.specs.Tables.{IsDecided}
use Rattle.ep_base.specs.declared.err.len_error.LenError.{LenError}
use Rattle.ep_base.specs.declared.err.ip_auth.HeaderSliceError.{HeaderSliceError as AuthSliceError}
use Rattle.ep_base.specs.declared.err.ip_auth.HeaderSliceError.TheVariants as auth_error
use Rattle.ep_base.specs.declared.err.ipv6_exts.HeaderSliceError.{HeaderSliceError}
use Rattle.ep_base.specs.declared.err.ipv6_exts.HeaderSliceError.TheVariants as header_error
use Rattle.ep_ext.specs.ExtensionParts.{ExtensionPart, part_len, part_next, auth_refusal}
use Rattle.ep_ext.specs.Chains.{IpVersion, ipv4, ipv6, IsExtensionChain, RefusesExtensionChain, RefusesChainAfter, with_offset_in, offset_of}
use Rattle.ep_ext.proofs.HeaderLawLemmas.{header_laws}
use Rattle.ep_ext.proofs.ChainLemmas.{chain_decided}
use Rattle.ep_ext.proofs.PartLemmas.{part_lens}
use Rattle.ep_ext.proofs.RefusalLemmas.{AtStart, part_at_start}

-- Bytes either are exactly one chain of extension headers, or are rejected with exactly one error.
pub extension_chain : (version : IpVersion) (reading : Reading) (number : ℕ) (bytes : List ℕ) → AreBytes bytes
    → IsDecided (IsExtensionChain version reading number bytes) (RefusesExtensionChain version reading number bytes)
extension_chain = chain_decided header_laws

-- ---- errors are within the bytes

further_offset : (offset : ℕ) (error : HeaderSliceError) → AtStart error → offset_of (with_offset_in offset error) ≤ offset
further_offset offset (header_error.Len error) start = omega (arith, start)
further_offset offset (header_error.Content error) start = omega arith

after_within : (version : IpVersion) (reading : Reading) (taken : List ℕ) (offset number : ℕ) (bytes : List ℕ)
    (parts : List ExtensionPart) (error : HeaderSliceError)
    → RefusesChainAfter version reading taken offset number bytes parts error → offset_of error ≤ offset + length bytes
after_within version reading taken offset number bytes [] error (inl refused) =
    omega (arith, ap offset_of refused.1)
after_within version reading taken offset number bytes [] error (inr refused) =
    let refusal = refused.1 in
    let start = part_at_start number bytes refusal.0 refusal.1 in
    omega (arith, ap offset_of refusal.2, further_offset offset refusal.0 start)
after_within version reading taken offset number bytes (part ∷ parts) error refused =
    let after = refused.1.0 in
    let within = after_within version reading (number ∷ taken) (offset + part_len part) (part_next part) after parts
    error refused.1.2 in
    omega (arith, within, part_lens number bytes part after refused.1.1)

-- The layer that an error of a chain names starts within the bytes.
pub refused_within : (version : IpVersion) (reading : Reading) (number : ℕ) (bytes : List ℕ) (error : HeaderSliceError)
    → RefusesExtensionChain version reading number bytes error → offset_of error ≤ length bytes
refused_within version reading number bytes error refused =
    omega (arith, after_within version reading [] 0 number bytes refused.0 error refused.1)

-- The layer that a length error of an IPv4 chain names starts within the bytes.
pub auth_within : (reading : Reading) (number : ℕ) (bytes : List ℕ) (refusal : AuthSliceError) (error : LenError)
    → refusal ≡ auth_error.Len error → RefusesExtensionChain ipv4 reading number bytes (auth_refusal refusal)
    → error.layer_start_offset ≤ length bytes
auth_within reading number bytes refusal error same refused =
    let offset = ap (λ (r : AuthSliceError). offset_of (auth_refusal r)) same in
    omega (arith, refused_within ipv4 reading number bytes (auth_refusal refusal) refused, offset)

-- The layer that a length error of an IPv6 chain names starts within the bytes.
pub exts_within : (reading : Reading) (number : ℕ) (bytes : List ℕ) (refusal : HeaderSliceError) (error : LenError)
    → refusal ≡ header_error.Len error → RefusesExtensionChain ipv6 reading number bytes refusal
    → error.layer_start_offset ≤ length bytes
exts_within reading number bytes refusal error same refused =
    omega (arith, refused_within ipv6 reading number bytes refusal refused, ap offset_of same)
